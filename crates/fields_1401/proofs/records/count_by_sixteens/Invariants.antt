-- No character so far is a record mark or a group mark.
use Rattle.std.proofs.Common.{◌*◌}
use Rattle.fields_1401.specs.Records.{AreNoMarks}
use Rattle.fields_1401.proofs.records.count_by_sixteens.Given as goal

abbrev pub invariant-loop-turn : goal.invariant-loop-turn
invariant-loop-turn l = AreNoMarks l.chars l.fn.at (16 * l.turn)
