-- Which instructions the assembler has a word for, and what it makes of a line (Autocoder, "Operation", "Operand").
use Rattle.std.specs.Prelude.{◌≡◌, ℕ, ◌==◌, nat_le, nat_lt, Bool, true, false, not, ◌&&◌, List, [], ◌∷◌, ◌++◌}
use Rattle.std.specs.Prelude.{replicate, Option, None, Some, is_none, is_some}
use Rattle.std.specs.List.{list_all, list_any}
use Rattle.std.specs.Option.{option_map_or}
use Rattle.std.specs.Str.{bytes_eq}
use Rattle.bcd_1401.specs.declared.cell.Cell.{Cell}
use Rattle.core_1401.specs.Address.{addresses, spelling_of, value_of}
use Rattle.autocoder_statements.specs.Mnemonic.{ARow, instructions}
use Rattle.autocoder_statements.specs.Statement.{line_of, has_bad_label, has_bad_operands}
use Rattle.autocoder_statements.specs.declared.mnemonic.DCharacter.{DCharacter}
use Rattle.autocoder_statements.specs.declared.mnemonic.DCharacter.TheVariants as kinds
use Rattle.autocoder_statements.specs.declared.statement.LineCheck.TheVariants as bytes
use Rattle.autocoder_statements.specs.declared.statement.Line.{Line}
use Rattle.autocoder_statements.specs.declared.statement.Statement.{Statement}
use Rattle.autocoder_placing.specs.Cells.{statement_cells, with_index}
use Rattle.autocoder_placing.specs.Placement.{Placement}
use Rattle.machine_notation.specs.Address.{register_in}
use Rattle.machine_notation.specs.InstructionText.{graphic_of, addresses_in, d_in}

-- whether a mnemonic with a d-character of this kind may be one of an instruction with this d-character
abbrev pub takes_d : DCharacter → Option ℕ → Bool
takes_d kinds.Never d = is_none d
takes_d (kinds.Fixed graphic) None = false
takes_d (kinds.Fixed graphic) (Some d) = graphic == d
takes_d kinds.Optional d = true
takes_d kinds.Required d = is_some d

-- whether a row of the assembler's mnemonics is for this operation, with this number of addresses and this d-character
abbrev pub is_for : ℕ → ℕ → Option ℕ → ARow → Bool
is_for operation addresses d row =
    (row.1 == operation) && nat_le row.2 addresses && nat_le addresses row.3 && takes_d row.4 d

-- whether one of them is
abbrev pub has_mnemonic : ℕ → ℕ → Option ℕ → Bool
has_mnemonic operation addresses d = list_any (is_for operation addresses d) instructions

-- whether three characters are the assembler's spelling of the address that they spell
abbrev pub is_spelling : ℕ → ℕ → ℕ → Bool
is_spelling h t u =
    nat_lt (value_of h t u) addresses
    && bytes_eq (with_index (register_in t) (spelling_of (value_of h t u))) (h ∷ t ∷ u ∷ [])

-- whether the cells after an operation are up to two addresses in that spelling, and a d-character or none
abbrev pub is_spelled : List Cell → Bool
is_spelled [] = true
is_spelled (d ∷ []) = true
is_spelled (x ∷ y ∷ []) = false
is_spelled (h ∷ t ∷ u ∷ beyond) = is_spelling h.char t.char u.char && is_spelled beyond

abbrev pub has_no_mark : Cell → Bool
has_no_mark cell = not cell.mark

-- whether the assembler has a word for the instruction in these cells: a mnemonic for its operation, its addresses in
-- its spelling, and one word mark, over the operation
abbrev pub has_word : List Cell → Bool
has_word [] = false
has_word (operation ∷ beyond) =
    operation.mark && list_all has_no_mark beyond && is_spelled beyond
    && has_mnemonic (graphic_of operation) (addresses_in beyond) (d_in beyond)

-- the line of a source that has a text from column 16 on, and no label
abbrev pub line_with : List ℕ → List ℕ
line_with text = replicate 15 32 ++ text

-- a line without a fault of its own that places these cells, whatever is around it and wherever it is placed
pub record IsAssembled (line : Line) (wanted : List Cell) : Type 0 where
  pub bytes : line.bytes ≡ bytes.Good
  pub label : option_map_or has_bad_label line.statement true ≡ false
  pub operands : option_map_or (λ (statement : Statement). has_bad_operands statement.body) line.statement true ≡ false
  pub cells : (all this : Placement) (lines : List Line) → statement_cells all this line.statement lines ≡ wanted

-- a text that is assembled as these cells
abbrev pub IsTextOf : List ℕ → List Cell → Type 0
IsTextOf text cells = IsAssembled (line_of (line_with text)) cells
