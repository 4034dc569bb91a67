-- The lines so far began before the entry.
use Rattle.std.proofs.Common.{◌≡◌, drop}
use Rattle.operate_sitting.specs.Notes.{cards_by}
use Rattle.operate_sitting.proofs.notes.cards_by.Given as goal

abbrev pub invariant-loop-mark : goal.invariant-loop-mark
invariant-loop-mark l =
    cards_by l.whole (drop l.mark-index l.marks) l.cards ≡ cards_by l.whole l.marks l.cards
