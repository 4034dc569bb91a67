-- The core image of lines, once all is placed (Autocoder, "Assembler Control").
use Rattle.std.specs.Prelude.{ℕ, List, [], ◌∷◌, ℤ, pos, Option, None, Some}
use Rattle.bcd_1401.specs.declared.cell.Cell.{Cell}
use Rattle.machine_image.specs.declared.image.Image.{Image}
use Rattle.autocoder_statements.specs.Description.{describe}
use Rattle.autocoder_statements.specs.declared.description.Addressing.{Addressing}
use Rattle.autocoder_statements.specs.declared.description.Addressing.TheVariants as addressing
use Rattle.autocoder_statements.specs.declared.statement.Body.{Body}
use Rattle.autocoder_statements.specs.declared.statement.Statement.{Statement}
use Rattle.autocoder_statements.specs.declared.statement.Line.{Line}
use Rattle.autocoder_placing.specs.Cells.{address_or_zero, cells_from}
use Rattle.autocoder_placing.specs.Placement.{Placement, entry_value, unplaced, placed}
use Rattle.autocoder_placing.specs.Segments.{segments_of}

-- where END lets a program begin; of any other line, what is given for those after it
abbrev pub entry_in_row : Placement → Addressing → ℤ → ℤ
entry_in_row all addressing.Nothing beyond = beyond
entry_in_row all (addressing.Addresses of) beyond = beyond
entry_in_row all (addressing.EarlierValue of) beyond = beyond
entry_in_row all (addressing.Equal of) beyond = beyond
entry_in_row all (addressing.Value of) beyond = beyond
entry_in_row all (addressing.Entry of) beyond = entry_value all of.a

abbrev pub entry_by : Placement → Body → ℤ → ℤ
entry_by all body beyond = entry_in_row all (describe body).addressing beyond

abbrev pub entry_with : Placement → Option Statement → ℤ → ℤ
entry_with all None beyond = beyond
entry_with all (Some statement) beyond = entry_by all statement.body beyond

-- the value of the first END
abbrev pub entry_in : Placement → List Line → ℤ
entry_in all [] = pos 0
entry_in all (line ∷ lines) = entry_with all line.statement (entry_in all lines)

-- the cells that lines place, each with its address
abbrev pub placed_cells : List Line → List (ℕ × Cell)
placed_cells lines = cells_from (placed lines) (unplaced (placed lines)) lines

-- the image that lines without a fault stand for
abbrev pub image_of : ℕ → List Line → Image
image_of size lines =
    record {
      size = size;
      segments = segments_of (placed_cells lines);
      start = address_or_zero (entry_in (placed lines) lines);
    }
