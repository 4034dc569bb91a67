-- No character so far ends a record.
use Rattle.fields_1401.specs.Records.{NoneEnds}
use Rattle.fields_1401.proofs.records.count_before_end.Given as goal

abbrev pub invariant-loop-i : goal.invariant-loop-i
invariant-loop-i l = NoneEnds l.core l.fn.at l.i
