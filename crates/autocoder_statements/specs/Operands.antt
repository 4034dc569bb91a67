-- The operands of an instruction (Autocoder, "Operand"; the ends of operands own).
use Rattle.std.specs.Prelude.{ℕ, ◌+◌, ◌==◌, nat_le, nat_lt, Bool, true, false, not, ◌&&◌, ◌||◌, if◌then◌else◌, List, []}
use Rattle.std.specs.Prelude.{◌∷◌, take, drop, Option, None, Some, is_some}
use Rattle.std.specs.Option.{option_map, option_or}
use Rattle.autocoder_statements.specs.Address.{address_of}
use Rattle.autocoder_statements.specs.Constant.{constant_of}
use Rattle.autocoder_statements.specs.Literal.{wide_literal_of}
use Rattle.autocoder_statements.specs.Punctuation.{blank, comma, at_sign, plus_sign, minus_sign}
use Rattle.autocoder_statements.specs.declared.constant.Constant.{Constant}
use Rattle.autocoder_statements.specs.declared.language.Language.{Language}
use Rattle.autocoder_statements.specs.declared.language.Language.TheVariants as languages
use Rattle.autocoder_statements.specs.declared.literal.Literal.TheVariants as literals
use Rattle.autocoder_statements.specs.declared.mnemonic.DCharacter.{DCharacter}
use Rattle.autocoder_statements.specs.declared.mnemonic.DCharacter.TheVariants as d
use Rattle.autocoder_statements.specs.declared.mnemonic.Form.{Form}
use Rattle.autocoder_statements.specs.declared.operands.Operand.{Operand}
use Rattle.autocoder_statements.specs.declared.operands.Operand.TheVariants as operands
use Rattle.autocoder_statements.specs.declared.operands.OperandField.{OperandField}
use Rattle.autocoder_statements.specs.declared.operands.OperandField.TheVariants as fields
use Rattle.autocoder_statements.specs.declared.operands.Operands.{Operands}

-- operands end at a blank, or with the columns
abbrev pub is_ended : List ℕ → Bool
is_ended [] = true
is_ended (byte ∷ more) = byte == blank

-- how many bytes an operand has, which begins within two at signs or not: up to the first comma or blank outside of
-- them
abbrev pub operand_len : Bool → List ℕ → ℕ
operand_len is_quoted [] = 0
operand_len is_quoted (byte ∷ more) =
    if not is_quoted && ((byte == comma) || (byte == blank)) then 0
    else 1 + operand_len (if byte == at_sign then not is_quoted else is_quoted) more

abbrev pub operand_in : List ℕ → List ℕ
operand_in text = take (operand_len false text) text

abbrev pub beyond_operand : List ℕ → List ℕ
beyond_operand text = drop (operand_len false text) text

-- the one operand that there is
abbrev pub lone_operand : List ℕ → List ℕ
lone_operand text = if is_ended (beyond_operand text) then operand_in text else []

-- the only operand after a comma
abbrev pub operand_beyond_comma : List ℕ → List ℕ
operand_beyond_comma [] = []
operand_beyond_comma (byte ∷ more) = if byte == comma then lone_operand more else []

-- a literal begins with an at sign or a sign
abbrev pub begins_literal : ℕ → Bool
begins_literal byte = (byte == at_sign) || (byte == plus_sign) || (byte == minus_sign)

-- a constant as an operand
abbrev pub as_literal : Constant → Operand
as_literal constant = operands.Literal (literals.Constant constant)

-- the address or the literal that a word is
abbrev pub operand_of : Language → List ℕ → Option Operand
operand_of language [] = None
operand_of language (byte ∷ more) =
    if begins_literal byte then option_map as_literal (constant_of (byte ∷ more))
    else option_map operands.Address (address_of language (byte ∷ more))

-- the address or the literal of an instruction that a word is: in the wider language a literal of an address or of an
-- area too
abbrev pub instruction_operand_of : Language → List ℕ → Option Operand
instruction_operand_of languages.Plain word = operand_of languages.Plain word
instruction_operand_of languages.Ibm word =
    option_or (operand_of languages.Ibm word) (option_map operands.Literal (wide_literal_of word))

-- a word that should be an address or a literal
abbrev pub field_with : Option Operand → OperandField
field_with None = fields.Malformed
field_with (Some operand) = fields.Operand operand

abbrev pub field_of : Language → List ℕ → OperandField
field_of language word = field_with (operand_of language word)

-- an operand, and what follows it
abbrev pub OperandAndRest : Type 0
OperandAndRest = OperandField × List ℕ

abbrev pub read_operand : Language → List ℕ → OperandAndRest
read_operand language text = (field_of language (operand_in text), beyond_operand text)

abbrev pub read_instruction_operand : Language → List ℕ → OperandAndRest
read_instruction_operand language text =
    (field_with (instruction_operand_of language (operand_in text)), beyond_operand text)

-- the first address, if the operation can have one, unless the first column is blank
abbrev pub first_operand : Language → ℕ → List ℕ → OperandAndRest
first_operand language most text =
    if (most == 0) || is_ended text then (fields.Absent, text) else read_operand language text

-- the second follows a comma; only an instruction has one
abbrev pub second_operand : Language → ℕ → List ℕ → OperandAndRest
second_operand language most [] = (fields.Absent, [])
second_operand language most (byte ∷ more) =
    if (byte == comma) && nat_lt 1 most then read_instruction_operand language more else (fields.Absent, byte ∷ more)

-- a d-character is any graphic in one column, and nothing follows it
abbrev pub lone_d : List ℕ → Option ℕ
lone_d [] = None
lone_d (byte ∷ more) = if is_ended more then Some byte else None

abbrev pub d_beyond_comma : List ℕ → Option ℕ
d_beyond_comma [] = None
d_beyond_comma (byte ∷ more) = if byte == comma then lone_d more else None

-- the d-character after the addresses
abbrev pub d_at : ℕ → List ℕ → Option ℕ
d_at most rest = if most == 0 then lone_d rest else d_beyond_comma rest

-- a d-character, and whether it is as the form asks
abbrev pub Read : Type 0
Read = Option ℕ × Bool

-- a d-character that must be there, and whether it is
abbrev pub read_d : Option ℕ → Read
read_d graphic = (graphic, is_some graphic)

abbrev pub d_by : DCharacter → ℕ → List ℕ → Read
d_by d.Never most rest = (None, is_ended rest)
d_by (d.Fixed graphic) most rest = (Some graphic, is_ended rest)
d_by d.Optional most rest = if is_ended rest then (None, true) else read_d (d_at most rest)
d_by d.Required most rest = read_d (d_at most rest)

abbrev pub d_of : Form → List ℕ → Read
d_of form rest = d_by form.d form.most rest

-- how many addresses stand in a field
abbrev pub count_of : OperandField → ℕ
count_of fields.Absent = 0
count_of fields.Malformed = 1
count_of (fields.Operand operand) = 1

abbrev pub is_malformed : OperandField → Bool
is_malformed fields.Absent = false
is_malformed fields.Malformed = true
is_malformed (fields.Operand operand) = false

-- the operands of a form, by what was read one after the other
abbrev pub operands_with : ℕ → OperandField → OperandField → Read → Operands
operands_with least a b read =
    record { a = a; b = b; d = read.0; is_whole = read.1 && nat_le least (count_of a + count_of b) }

-- the operands of a form, of which the first was read
abbrev pub operands_after : Language → Form → OperandAndRest → Operands
operands_after language form first =
    let second = second_operand language form.most first.1 in
    operands_with form.least first.0 second.0 (d_of form second.1)

abbrev pub operands_of : Language → Form → List ℕ → Operands
operands_of language form columns = operands_after language form (first_operand language form.most columns)

-- operands that aren't as the instruction asks
abbrev pub has_malformed : Operands → Bool
has_malformed this = not this.is_whole || is_malformed this.a || is_malformed this.b
