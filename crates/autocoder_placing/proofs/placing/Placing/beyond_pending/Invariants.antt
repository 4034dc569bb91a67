-- The place so far, with what is left after it, is the place after all.
use Rattle.std.proofs.Common.{◌≡◌, drop}
use Rattle.autocoder_placing.specs.Placement.{beyond_literals, pending}
use Rattle.autocoder_placing.specs.View.{places_of}
use Rattle.autocoder_placing.proofs.placing.Placing.beyond_pending.Given as goal

abbrev pub invariant-loop-i : goal.invariant-loop-i
invariant-loop-i l =
    beyond_literals l.next (drop l.i (places_of l.self).literals)
    ≡ beyond_literals l.from (pending (places_of l.self))
