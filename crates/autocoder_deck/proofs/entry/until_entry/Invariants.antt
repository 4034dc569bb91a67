-- What is left to load is all there was.
use Rattle.std.proofs.Common.{◌≡◌}
use Rattle.job_runner.specs.Unattended.{taped_with_deck}
use Rattle.autocoder_deck.specs.Entry.{none_carried, until_entry}
use Rattle.autocoder_deck.proofs.entry.until_entry.Given as goal

abbrev pub invariant-loop-left : goal.invariant-loop-left
invariant-loop-left l = until_entry l.left l.carried (taped_with_deck l.deck l.taped)
    ≡ until_entry l.limit none_carried (taped_with_deck l.fn.deck l.fn.taped)

abbrev pub decreases-loop-left : goal.decreases-loop-left
decreases-loop-left l = l.left
