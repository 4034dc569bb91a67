-- All lines but those that are left.
use Rattle.std.proofs.Common.{drop}
use Rattle.bytes_text.specs.Written.{AddsBut}
use Rattle.serving_page.specs.PictureLines.{lines_text}
use Rattle.serving_page.proofs.picture_lines.put_lines.Given as goal

abbrev pub invariant-loop-line : goal.invariant-loop-line
invariant-loop-line l =
    AddsBut l.initial.text l.text (lines_text (drop l.line-index l.lines)) (lines_text l.lines)
