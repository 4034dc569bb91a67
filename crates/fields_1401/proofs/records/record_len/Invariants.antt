-- None of the characters so far ends the record.
use Rattle.std.proofs.Common.{◌≡◌, ◌<◌, ℕ, false}
use Rattle.fields_1401.specs.Records.{is_record_end}
use Rattle.fields_1401.proofs.records.record_len.Given as goal

abbrev pub invariant-loop-i : goal.invariant-loop-i
invariant-loop-i l = (k : ℕ) → k < l.i → is_record_end l.core l.fn.a l.fn.b k ≡ false
