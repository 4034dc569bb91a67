-- What is marked, with the fields that are left, is marked by all.
use Rattle.std.proofs.Common.{◌≡◌, drop}
use Rattle.std.specs.Prelude.{fold}
use Rattle.autocoder_placing.specs.Cells.{with_field, fields_beyond}
use Rattle.autocoder_placing.proofs.cells.mark_fields.Given as goal

abbrev pub invariant-loop-i : goal.invariant-loop-i
invariant-loop-i l =
    fold with_field l.area (fields_beyond (drop l.i l.lines))
    ≡ fold with_field l.initial.area (fields_beyond l.lines)
