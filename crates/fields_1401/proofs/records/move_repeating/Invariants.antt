-- The characters so far were moved, and no word mark.
use Rattle.std.proofs.Common.{◌≡◌, length}
use Rattle.fields_1401.specs.Places.{marks_of}
use Rattle.fields_1401.specs.Records.{record_moved}
use Rattle.fields_1401.proofs.records.move_repeating.Given as goal

abbrev pub invariant-loop-i : goal.invariant-loop-i
invariant-loop-i l = record {
  moved : l.core ≡ record_moved l.fn.core l.a l.b l.i;
  marks : marks_of l.core ≡ marks_of l.fn.core;
  size : length l.core ≡ length l.fn.core;
}
