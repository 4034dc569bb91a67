-- What storage holds, with the cells of the lines that are left put into it, is what it holds with those of all.
use Rattle.std.proofs.Common.{◌≡◌, drop}
use Rattle.std.specs.Prelude.{fold}
use Rattle.autocoder_placing.specs.Cells.{cells_from}
use Rattle.autocoder_placing.specs.Filling.{with_cell}
use Rattle.autocoder_placing.specs.View.{places_of}
use Rattle.autocoder_placing.proofs.filling.put_lines.Given as goal

abbrev pub invariant-loop-i : goal.invariant-loop-i
invariant-loop-i l =
    fold with_cell l.storage (cells_from (places_of l.all) (places_of l.so_far) (drop l.i l.lines))
    ≡ fold with_cell l.initial.storage (cells_from (places_of l.all) (places_of l.initial.so_far) l.lines)
