-- The characters of the cards so far are counted.
use Rattle.std.proofs.Common.{◌≡◌}
use Rattle.job_runner.specs.CardList.{place_of}
use Rattle.job_runner.proofs.card_list.count_chars.Given as goal

abbrev pub invariant-loop-at : goal.invariant-loop-at
invariant-loop-at l = l.count ≡ place_of l.at l.fn.lens
