-- The listing of an image: instructions and data with their addresses (own).
use Rattle.std.specs.Prelude.{ℕ, ◌+◌, Bool, false, ◌&&◌, nat_le, if◌then◌else◌, List, [], ◌∷◌, ◌++◌, length, map, drop}
use Rattle.std.specs.Prelude.{Option, None, Some, codes, get_or}
use Rattle.std.specs.List.{flat_map}
use Rattle.bcd_1401.specs.declared.cell.Cell.{Cell}
use Rattle.machine_tables.specs.Operation.{operation_of, has_length}
use Rattle.machine_tables.specs.declared.operation.Operation.{Operation}
use Rattle.machine_image.specs.declared.image.Image.{Image}
use Rattle.machine_image.specs.declared.image.Segment.{Segment}
use Rattle.machine_notation.specs.Cells.{cells_text}
use Rattle.machine_notation.specs.Digits.{digits_in}
use Rattle.machine_notation.specs.InstructionText.{graphic_of, instruction_text}
use Rattle.autocoder_deck.specs.Stretches.{stretches_of}
use Rattle.autocoder_deck.specs.WrittenAgain.{is_written_again}

-- whether an operation of this machine may have instructions of this length
abbrev pub is_legal : Option Operation → ℕ → Bool
is_legal None len = false
is_legal (Some operation) len = has_length operation len

-- whether cells are an instruction: a word mark over an operation of this machine, and as many cells as it may have
abbrev pub is_instruction : List Cell → Bool
is_instruction [] = false
is_instruction (operation ∷ beyond) =
    operation.mark && nat_le (length beyond) 7 && is_legal (operation_of operation.char) (length beyond + 1)

-- an instruction by its characters in eight columns, and as Autocoder writes it
abbrev pub as_instruction : List Cell → List ℕ
as_instruction cells =
    map graphic_of cells ++ drop (length cells) (codes "        ") ++ codes " " ++ instruction_text cells

-- data by their characters, with a tilde before one with a word mark
abbrev pub as_data : List Cell → List ℕ
as_data cells = codes "         " ++ cells_text cells

-- cells, as the one or the other: as an instruction if the assembler makes the same cells of its text
abbrev pub what_stands : List Cell → List ℕ
what_stands cells = if is_instruction cells && is_written_again cells then as_instruction cells else as_data cells

-- the sign of an address: an asterisk if an instruction was carried out there, and else a blank
abbrev pub sign_of : Bool → List ℕ
sign_of carried = if carried then codes "*" else codes " "

-- the line of a stretch: its address, its sign, and what is there
unfoldable pub stretch_line : Bool → Segment → List ℕ
stretch_line carried stretch =
    digits_in 5 stretch.address ++ sign_of carried ++ what_stands stretch.cells ++ codes "\n"

-- whether an instruction was carried out at an address, by a list of this from 000 on
abbrev pub is_carried : List Bool → ℕ → Bool
is_carried carried at = get_or carried at false

-- the same, of a list by address
abbrev pub marked_line : List Bool → Segment → List ℕ
marked_line carried stretch = stretch_line (is_carried carried stretch.address) stretch

-- the entry in decimal, which ends its line
unfoldable pub start_text : ℕ → List ℕ
start_text start = digits_in 3 start ++ codes "\n"

-- the operation and the entry
unfoldable pub entry_text : ℕ → List ℕ
entry_text start = codes " END  " ++ start_text start

-- what follows the address of the last line
unfoldable pub end_text : ℕ → List ℕ
end_text start = codes "         " ++ entry_text start

-- the last line: where the program begins
abbrev pub start_line : ℕ → List ℕ
start_line start = digits_in 5 start ++ end_text start

-- the listing of an image, a line a stretch, with the signs of the addresses at which instructions were carried out
unfoldable pub marked_text : List Bool → Image → List ℕ
marked_text carried image = flat_map (marked_line carried) (stretches_of image.segments) ++ start_line image.start

-- the listing of an image without such signs
abbrev pub listing_text : Image → List ℕ
listing_text image = marked_text [] image

-- the most bytes that cells take on their line: nine blanks, and 40 cells with word marks
abbrev pub most_that_stands : ℕ
most_that_stands = 89

-- the most bytes that a stretch takes: an address of five digits, its sign, the cells, and the line feed
abbrev pub most_in_stretch : ℕ
most_in_stretch = 96

-- the most bytes that the stretches take that a segment closes: one for each of its cells
abbrev pub most_in_segment : ℕ
most_in_segment = 3840

-- the most bytes that the last line takes
abbrev pub most_in_end : ℕ
most_in_end = 26
