-- What was counted and what is left to be counted make the whole; an entry has fewer than 2 to the power of 32.
use Rattle.std.proofs.Common.{◌≡◌, ◌+◌, ◌*◌, ◌≤◌, drop}
use Rattle.operate_sitting.specs.Back.{instructions_of}
use Rattle.operate_sitting.proofs.back.instructions_of.Given as goal

abbrev pub invariant-loop-entry : goal.invariant-loop-entry
invariant-loop-entry l =
    (l.count + instructions_of (drop l.entry-index l.journal) ≡ instructions_of l.journal)
    × (l.count ≤ l.entry-index * 4294967295)
