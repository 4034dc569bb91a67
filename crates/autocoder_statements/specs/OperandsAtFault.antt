-- What is wrong with operands, and in which columns (own).
use Rattle.std.specs.Prelude.{ℕ, ◌+◌, ◌-◌, nat_lt, Bool, true, false, if◌then◌else◌, not, ◌&&◌, ◌||◌, List, length}
use Rattle.std.specs.Prelude.{drop}
use Rattle.std.specs.Prelude.{Option}
use Rattle.std.specs.Prelude.{is_none, is_some}
use Rattle.std.specs.Option.{option_map}
use Rattle.std.specs.List.{position_or_len}
use Rattle.autocoder_statements.specs.Flaw.{stretch}
use Rattle.autocoder_statements.specs.Literal.{wide_literal_of}
use Rattle.autocoder_statements.specs.Mnemonic.{operation_of}
use Rattle.autocoder_statements.specs.Numbers.{number_between}
use Rattle.autocoder_statements.specs.Operands.{is_ended, operand_len, operand_in, beyond_operand, first_operand}
use Rattle.autocoder_statements.specs.Operands.{second_operand}
use Rattle.autocoder_statements.specs.Operands.{OperandAndRest, count_of, is_malformed, operands_of, has_malformed}
use Rattle.autocoder_statements.specs.SourceLine.{columns_in, is_blank}
use Rattle.autocoder_statements.specs.Statement.{areas_of, one_address}
use Rattle.autocoder_statements.specs.Units.{wide_first}
use Rattle.autocoder_statements.specs.WideOrigin.{is_hundred}
use Rattle.autocoder_statements.specs.declared.flaw.Flaw.{Flaw}
use Rattle.autocoder_statements.specs.declared.flaw.OperandFlaw.{OperandFlaw}
use Rattle.autocoder_statements.specs.declared.flaw.OperandFlaw.TheVariants as flaws
use Rattle.autocoder_statements.specs.declared.language.Language.{Language}
use Rattle.autocoder_statements.specs.declared.language.Language.TheVariants as languages
use Rattle.autocoder_statements.specs.declared.mnemonic.Form.{Form}
use Rattle.autocoder_statements.specs.declared.mnemonic.Operation.{Operation}
use Rattle.autocoder_statements.specs.declared.mnemonic.Operation.TheVariants as operations
use Rattle.autocoder_statements.specs.declared.operands.OperandField.{OperandField}
use Rattle.autocoder_statements.specs.declared.operands.OperandField.TheVariants as fields
use Rattle.autocoder_statements.specs.declared.units.FirstOperand.{FirstOperand}
use Rattle.autocoder_statements.specs.declared.units.FirstOperand.TheVariants as firsts

-- a flaw of the columns for operands, this many columns after the first of them
abbrev pub flaw_after : ℕ → ℕ → OperandFlaw → Flaw
flaw_after skipped length kind = record { columns = stretch (21 + skipped) length; kind = kind }

-- what is wrong after the operands that an operation has
abbrev pub flaw_beyond : ℕ → List ℕ → Flaw
flaw_beyond skipped rest =
    if is_ended rest then flaw_after skipped 0 flaws.CharacterMissing
    else flaw_after skipped (position_or_len is_blank rest) flaws.TooMuch

-- what is wrong with the operands of this form after the first, which was read: a second that is no address, or one
-- that is missing, or what follows them
abbrev pub flaw_after_first : Language → Form → OperandAndRest → List ℕ → Flaw
flaw_after_first language form first columns =
    let second = second_operand language form.most first.1 in
    let words = drop 1 first.1 in
    if is_malformed second.0
    then flaw_after (length columns - length words) (operand_len false words) flaws.NoAddress
    else if nat_lt (count_of first.0 + count_of second.0) form.least
    then flaw_after (length columns - length second.1) 0 flaws.AddressMissing
    else flaw_beyond (length columns - length second.1) second.1

-- what is wrong with the operands of this form: with the first, or after it
abbrev pub operands_flaw : Language → Form → List ℕ → Flaw
operands_flaw language form columns =
    let first = first_operand language form.most columns in
    if is_malformed first.0 then flaw_after 0 (operand_len false columns) flaws.NoAddress
    else flaw_after_first language form first columns

-- what is wrong with a first operand that isn't what it should be
abbrev pub first_flaw : FirstOperand → OperandFlaw
first_flaw firsts.Address = flaws.NoAddress
first_flaw firsts.UnitOrAddress = flaws.NoAddress
first_flaw firsts.Unit = flaws.NoUnit
first_flaw (firsts.Tape letter) = flaws.NoTape

-- a unit or a tape has to be there
abbrev pub must_be_there : FirstOperand → Bool
must_be_there firsts.Address = false
must_be_there firsts.UnitOrAddress = false
must_be_there firsts.Unit = true
must_be_there (firsts.Tape letter) = true

-- a first operand that is missing or something else
abbrev pub is_no_first : FirstOperand → OperandField → Bool
is_no_first first fields.Absent = must_be_there first
is_no_first first fields.Malformed = true
is_no_first first (fields.Operand operand) = false

-- what is wrong with the operands of this form: with the first, or after it
abbrev pub wide_operands_flaw : FirstOperand → Form → List ℕ → Flaw
wide_operands_flaw first form columns =
    let operand = wide_first first form columns in
    if is_no_first first operand.0 then flaw_after 0 (operand_len false columns) (first_flaw first)
    else flaw_after_first languages.Ibm form operand columns

-- what is wrong with one operand, this many columns after the first of them, or with what follows it
abbrev pub lone_flaw : OperandFlaw → ℕ → List ℕ → Flaw
lone_flaw kind skipped columns =
    if is_ended (beyond_operand columns) then flaw_after skipped (operand_len false columns) kind
    else flaw_after (skipped + operand_len false columns) (position_or_len is_blank (beyond_operand columns))
    flaws.TooMuch

-- a field may have one place alone, and has it
abbrev pub is_lone_place : Language → List ℕ → Bool
is_lone_place languages.Plain columns = false
is_lone_place languages.Ibm columns = is_ended (beyond_operand columns)

-- what is wrong with the only place of a field or its first, or else with its last
abbrev pub span_flaw : Language → List ℕ → Flaw
span_flaw language columns =
    if is_none (number_between 1 999 (operand_in columns)) || is_lone_place language columns
    then flaw_after 0 (operand_len false columns) flaws.NoSpan
    else lone_flaw flaws.NoSpan (operand_len false columns + 1) (drop 1 (beyond_operand columns))

-- the first operand is a literal that stands in instructions alone
abbrev pub begins_with_literal : Language → List ℕ → Bool
begins_with_literal languages.Plain columns = false
begins_with_literal languages.Ibm columns = is_some (wide_literal_of (operand_in columns))

-- what is wrong with operands that aren't the one address that they should be: with their form, or this with what they
-- say
abbrev pub one_address_flaw : OperandFlaw → Language → List ℕ → Flaw
one_address_flaw kind language columns =
    if has_malformed (operands_of language one_address columns) && not (begins_with_literal language columns)
    then operands_flaw language one_address columns
    else flaw_after 0 (operand_len false columns) kind

-- what is wrong with an address that is to say a value
abbrev pub value_flaw : Language → List ℕ → Flaw
value_flaw language columns = one_address_flaw flaws.NoValue language columns

-- what is wrong with areas, or with the options after them
abbrev pub areas_flaw : Language → List ℕ → Flaw
areas_flaw languages.Plain columns = lone_flaw flaws.NoAreas 0 columns
areas_flaw languages.Ibm columns =
    let beyond = drop 1 (beyond_operand columns) in
    if is_none (areas_of (operand_in columns)) then flaw_after 0 (operand_len false columns) flaws.NoAreas
    else flaw_after (operand_len false columns + 1) (position_or_len is_blank beyond) flaws.NoOptions

-- what is wrong with the next place that ORG says
abbrev pub origin_flaw : Language → List ℕ → Flaw
origin_flaw languages.Plain columns = value_flaw languages.Plain columns
origin_flaw languages.Ibm columns =
    if is_hundred columns then flaw_beyond (operand_len false columns) (beyond_operand columns)
    else value_flaw languages.Ibm columns

-- what is wrong with one address in the wider language, with an index register or without
abbrev pub address_flaw : List ℕ → Flaw
address_flaw columns = one_address_flaw flaws.Literal languages.Ibm columns

-- what is wrong with an address whose value is to be that of a label
abbrev pub equal_flaw : Language → List ℕ → Flaw
equal_flaw languages.Plain columns = value_flaw languages.Plain columns
equal_flaw languages.Ibm columns = address_flaw columns

-- what is wrong with the operands of an instruction
abbrev pub instruction_flaw : Language → Form → List ℕ → Flaw
instruction_flaw languages.Plain form columns = operands_flaw languages.Plain form columns
instruction_flaw languages.Ibm form columns = wide_operands_flaw firsts.Address form columns

-- what is wrong with the operands of an operation, if something is
abbrev pub flaw_with : Language → Operation → List ℕ → Flaw
flaw_with language (operations.Instruction instruction) columns = instruction_flaw language instruction.form columns
flaw_with language operations.MarkedConstant columns = lone_flaw flaws.NoConstant 0 columns
flaw_with language operations.Constant columns = lone_flaw flaws.NoConstant 0 columns
flaw_with language operations.Space columns = lone_flaw flaws.NoCount 0 columns
flaw_with language operations.Areas columns = areas_flaw language columns
flaw_with language operations.Field columns = span_flaw language columns
flaw_with language operations.Equate columns = equal_flaw language columns
flaw_with language operations.Origin columns = origin_flaw language columns
flaw_with language operations.Execute columns = value_flaw language columns
flaw_with language operations.End columns = value_flaw language columns

abbrev pub operand_flaw : List ℕ → Option Flaw
operand_flaw columns =
    option_map (λ operation. flaw_with languages.Plain operation (columns_in 21 72 columns))
    (operation_of (columns_in 16 20 columns))
