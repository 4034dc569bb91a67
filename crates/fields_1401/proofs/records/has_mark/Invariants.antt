-- While none was found, none of the characters so far is a record mark or a group mark.
use Rattle.std.proofs.Common.{◌≡◌}
use Rattle.fields_1401.specs.Records.{AreNoMarks}
use Rattle.fields_1401.proofs.records.has_mark.Given as goal

abbrev pub invariant-loop-i : goal.invariant-loop-i
invariant-loop-i l = l.found ≡ 0 → AreNoMarks l.chars l.fn.at l.i
