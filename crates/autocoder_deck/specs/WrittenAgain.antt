-- Whether the assembler makes the cells of an instruction again, in one of its languages (Autocoder, "Operation",
-- "Operand").
use Rattle.std.specs.Prelude.{ℕ, ◌==◌, Bool, true, false, ◌&&◌, if◌then◌else◌, List, [], ◌∷◌, length}
use Rattle.std.specs.List.{list_any}
use Rattle.std.specs.Option.{option_map_or}
use Rattle.std.specs.Str.{byte}
use Rattle.bcd_1401.specs.declared.cell.Cell.{Cell}
use Rattle.autocoder_deck.specs.Assembled.{is_spelled}
use Rattle.machine_notation.specs.InstructionText.{d_in, graphic_of}

-- whether a write of a line may have these characters: no d-character, or the lozenge
abbrev pub is_write : List Cell → Bool
is_write beyond = option_map_or (λ d. d == byte ")") (d_in beyond) true

-- whether a no operation may have this many characters more: those of addresses, and a d-character after two of them
abbrev pub is_no_operation : ℕ → Bool
is_no_operation more = list_any (λ each. each == more) (0 ∷ 3 ∷ 6 ∷ 7 ∷ [])

-- whether a language has a form of an operation with these characters after it, where the machine has one
abbrev pub has_form : ℕ → List Cell → Bool
has_form operation beyond =
    if operation == byte "2" then is_write beyond
    else if operation == byte "N" then is_no_operation (length beyond)
    else true

-- whether the assembler makes the same cells of an instruction's text
abbrev pub is_written_again : List Cell → Bool
is_written_again [] = false
is_written_again (operation ∷ beyond) = is_spelled beyond && has_form (graphic_of operation) beyond
