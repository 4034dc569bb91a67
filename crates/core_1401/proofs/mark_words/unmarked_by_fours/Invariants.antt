-- None of the places above the words passed has a mark.
use Rattle.std.proofs.Common.{◌+◌, ◌*◌, ◌%◌}
use Rattle.core_1401.specs.MarkWords.{NoneBelow}
use Rattle.core_1401.proofs.mark_words.unmarked_by_fours.Given as goal

abbrev pub invariant-loop-turn : goal.invariant-loop-turn
invariant-loop-turn l = NoneBelow l.words l.at (l.at % 64 + 1 + 64 * (4 * l.turn))
