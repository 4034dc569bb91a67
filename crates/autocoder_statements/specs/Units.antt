-- Input-output units and tapes in the place of an address (Autocoder, "Operand", C24-3258 and J24-1434; that a symbol
-- may name one there too from memory).
use Rattle.std.specs.Prelude.{ℕ, ◌==◌, Bool, true, false, ◌&&◌, ◌||◌, if◌then◌else◌, List, [], ◌∷◌, length, slice_index}
use Rattle.std.specs.Prelude.{pos, Option, None, Some, is_some}
use Rattle.std.specs.Option.{option_map, option_or}
use Rattle.bcd_1401.specs.Digits.{is_digit}
use Rattle.autocoder_statements.specs.Label.{is_letter, label_of, register_of}
use Rattle.autocoder_statements.specs.Operands.{OperandAndRest, beyond_operand, field_with, instruction_operand_of}
use Rattle.autocoder_statements.specs.Operands.{is_ended}
use Rattle.autocoder_statements.specs.Operands.{operand_in, operands_after}
use Rattle.autocoder_statements.specs.Punctuation.{percent_sign}
use Rattle.autocoder_statements.specs.declared.address.Base.TheVariants as bases
use Rattle.autocoder_statements.specs.declared.label.Label.{Label}
use Rattle.autocoder_statements.specs.declared.language.Language.TheVariants as languages
use Rattle.autocoder_statements.specs.declared.mnemonic.DCharacter.{DCharacter}
use Rattle.autocoder_statements.specs.declared.mnemonic.DCharacter.TheVariants as d
use Rattle.autocoder_statements.specs.declared.mnemonic.Form.{Form}
use Rattle.autocoder_statements.specs.declared.operands.Operand.{Operand}
use Rattle.autocoder_statements.specs.declared.operands.Operand.TheVariants as operands
use Rattle.autocoder_statements.specs.declared.operands.OperandField.TheVariants as fields
use Rattle.autocoder_statements.specs.declared.operands.Operands.{Operands}
use Rattle.autocoder_statements.specs.declared.operands.Unit.{Unit as AUnit}
use Rattle.autocoder_statements.specs.declared.units.FirstOperand.{FirstOperand}
use Rattle.autocoder_statements.specs.declared.units.FirstOperand.TheVariants as firsts

-- a percent sign, a letter and a digit
abbrev pub is_unit : List ℕ → Bool
is_unit word =
    (length word == 3) && (slice_index word 0 == percent_sign) && is_letter (slice_index word 1)
    && is_digit (slice_index word 2)

-- a unit stands in an instruction as it is written
abbrev pub unit_of : List ℕ → Option AUnit
unit_of word =
    if is_unit word
    then Some (record { graphics = percent_sign ∷ slice_index word 1 ∷ slice_index word 2 ∷ [] })
    else None

-- a tape is a unit with this letter, of which its digit alone may be written
abbrev pub tape_of : ℕ → List ℕ → Option AUnit
tape_of letter word =
    if (length word == 1) && is_digit (slice_index word 0)
    then Some (record { graphics = percent_sign ∷ letter ∷ slice_index word 0 ∷ [] })
    else if slice_index word 1 == letter then unit_of word
    else None

-- a symbol alone, which may name a unit
abbrev pub unit_name_of : List ℕ → Option Operand
unit_name_of word =
    if is_some (register_of word) then None
    else option_map (λ (label : Label). operands.Address (record {
      base = bases.Symbol label;
      adjustment = pos 0;
      index = None;
    }))
    (label_of languages.Ibm word)

-- a unit, or the name of one
abbrev pub unit_or_name : Option AUnit → List ℕ → Option Operand
unit_or_name unit word = option_or (option_map operands.Unit unit) (unit_name_of word)

-- a d-character that is written
abbrev pub is_written : DCharacter → Bool
is_written d.Never = false
is_written (d.Fixed graphic) = false
is_written d.Optional = false
is_written d.Required = true

-- the operand that a word is where a unit may stand
abbrev pub unit_or_address : List ℕ → Option Operand
unit_or_address word = option_or (option_map operands.Unit (unit_of word)) (instruction_operand_of languages.Ibm word)

-- the first operand that a word is: where it may be a unit or an address, a unit only before a d-character
abbrev pub first_in : FirstOperand → Form → List ℕ → Option Operand
first_in firsts.Address form word = instruction_operand_of languages.Ibm word
first_in firsts.UnitOrAddress form word =
    if is_written form.d then unit_or_address word else instruction_operand_of languages.Ibm word
first_in firsts.Unit form word = unit_or_name (unit_of word) word
first_in (firsts.Tape letter) form word = unit_or_name (tape_of letter word) word

-- the first operand and what follows it
abbrev pub wide_first : FirstOperand → Form → List ℕ → OperandAndRest
wide_first first form text =
    if (form.most == 0) || is_ended text then (fields.Absent, text)
    else (field_with (first_in first form (operand_in text)), beyond_operand text)

-- the operands of a form with this first operand
abbrev pub wide_operands : FirstOperand → Form → List ℕ → Operands
wide_operands first form columns = operands_after languages.Ibm form (wide_first first form columns)
