-- An instruction as Autocoder writes it, from column 16 on (Autocoder, "Coding Sheet", "Operation", "Operand").
use Rattle.std.specs.Prelude.{◌≡◌, ℕ, ◌-◌, ◌/◌, ◌==◌, if◌then◌else◌, List, [], ◌∷◌, ◌++◌, length, take}
use Rattle.std.specs.Prelude.{position, slice_index, Option, None, Some}
use Rattle.bcd_1401.specs.declared.cell.Cell.{Cell}
use Rattle.bcd_1401.specs.Graphic.{graphics}
use Rattle.machine_notation.specs.Address.{address_text}
use Rattle.machine_notation.specs.Mnemonic.{mnemonic_of}
use Rattle.machine_notation.specs.declared.mnemonic.Mnemonic.{Mnemonic}

-- the graphic of a cell's character
abbrev pub graphic_of : Cell → ℕ
graphic_of cell = slice_index graphics cell.char

-- how many addresses the cells after an operation are
abbrev pub addresses_in : List Cell → ℕ
addresses_in beyond = length beyond / 3

-- the graphic of the d-character of an instruction with two, five or eight characters
abbrev pub d_in : List Cell → Option ℕ
d_in [] = None
d_in (d ∷ []) = Some (graphic_of d)
d_in (x ∷ y ∷ []) = None
d_in (h ∷ t ∷ u ∷ beyond) = d_in beyond

-- addresses as far as there are any, and the character after them, with commas; two characters that are neither an
-- address nor a d-character are written as they are
unfoldable pub operands_text : List Cell → List ℕ
operands_text [] = []
operands_text (d ∷ []) = graphic_of d ∷ []
operands_text (x ∷ y ∷ []) = graphic_of x ∷ graphic_of y ∷ []
operands_text (h ∷ t ∷ u ∷ beyond) =
    address_text h.char t.char u.char ++ (if length beyond == 0 then [] else 44 ∷ operands_text beyond)

-- the cells whose operands are written: not the d-character that the mnemonic says
abbrev pub written : Mnemonic → List Cell → List Cell
written mnemonic beyond = if mnemonic.says_d then take (length beyond - 1) beyond else beyond

abbrev pub text_with : Mnemonic → List Cell → List ℕ
text_with mnemonic beyond = mnemonic.columns ++ operands_text (written mnemonic beyond)

-- the columns 16 to 20, and the operands from column 21 on
abbrev pub instruction_text : List Cell → List ℕ
instruction_text [] = []
instruction_text (operation ∷ beyond) =
    text_with (mnemonic_of (graphic_of operation) (addresses_in beyond) (d_in beyond)) beyond

-- the character of a cell is the one that has its graphic
abbrev pub IsOwn : Cell → Type 0
IsOwn cell = position (λ each. each == graphic_of cell) graphics ≡ Some cell.char

-- the same of a d-character, if there is one
abbrev pub IsOwnD : List Cell → Type 0
IsOwnD [] = Unit {0}
IsOwnD (d ∷ []) = IsOwn d
IsOwnD (x ∷ y ∷ []) = Unit {0}
IsOwnD (h ∷ t ∷ u ∷ beyond) = IsOwnD beyond

-- the same of an instruction's operation and of its d-character
abbrev pub IsOwnInstruction : List Cell → Type 0
IsOwnInstruction [] = Unit {0}
IsOwnInstruction (operation ∷ beyond) = IsOwn operation × IsOwnD beyond

-- the most bytes that an index register takes: +X3
abbrev pub most_in_index : ℕ
most_in_index = 3

-- the most bytes that a number below 2 ^ 16 takes
abbrev pub most_in_number : ℕ
most_in_number = 5

-- the most bytes that an address takes: a value of five digits, and an index register
abbrev pub most_in_address : ℕ
most_in_address = 8

-- the most bytes that an instruction takes: its mnemonic, and three for each of the seven cells after its operation
abbrev pub most_in_text : ℕ
most_in_text = 26
