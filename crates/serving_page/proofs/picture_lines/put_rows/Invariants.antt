-- The rows so far are added.
use Rattle.std.specs.List.{flat_map, range_with_len}
use Rattle.bytes_text.specs.Written.{Adds}
use Rattle.serving_page.specs.PictureLines.{row_text}
use Rattle.serving_page.proofs.picture_lines.put_rows.Given as goal

abbrev pub invariant-loop-row : goal.invariant-loop-row
invariant-loop-row l = Adds l.initial.text l.text (flat_map (row_text l.cells) (range_with_len 0 l.row))
