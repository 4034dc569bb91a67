-- What is placed, with the lines that are left placed after it, is what all lines place.
use Rattle.std.proofs.Common.{◌≡◌, drop}
use Rattle.std.specs.Prelude.{fold}
use Rattle.autocoder_placing.specs.Placement.{placed_after}
use Rattle.autocoder_placing.specs.View.{places_of}
use Rattle.autocoder_placing.proofs.placing.Placing.place_each.Given as goal

abbrev pub invariant-loop-i : goal.invariant-loop-i
invariant-loop-i l =
    fold placed_after (places_of l.self) (drop l.i l.lines)
    ≡ fold placed_after (places_of l.initial.self) l.lines
