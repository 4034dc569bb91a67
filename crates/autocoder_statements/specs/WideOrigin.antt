-- The operands of EQU, ORG, LTORG and END in the wider language (Autocoder, "Assembler Control", C24-3258 and J24-1434;
-- EQU of a unit and ORG without operand from memory, LTORG and END without operand own).
use Rattle.std.specs.Prelude.{ℕ, Bool, true, if◌then◌else◌, List, pos, None, codes}
use Rattle.std.specs.Option.{option_map_or}
use Rattle.std.specs.Str.{bytes_eq}
use Rattle.autocoder_statements.specs.Operands.{beyond_operand, is_ended, operand_in, operands_of}
use Rattle.autocoder_statements.specs.Statement.{one_address}
use Rattle.autocoder_statements.specs.Units.{unit_of}
use Rattle.autocoder_statements.specs.declared.address.Base.TheVariants as bases
use Rattle.autocoder_statements.specs.declared.language.Language.TheVariants as languages
use Rattle.autocoder_statements.specs.declared.mnemonic.DCharacter.TheVariants as d
use Rattle.autocoder_statements.specs.declared.mnemonic.Form.{Form}
use Rattle.autocoder_statements.specs.declared.operands.Operand.TheVariants as operands
use Rattle.autocoder_statements.specs.declared.operands.OperandField.{OperandField}
use Rattle.autocoder_statements.specs.declared.operands.OperandField.TheVariants as fields
use Rattle.autocoder_statements.specs.declared.operands.Operands.{Operands}
use Rattle.autocoder_statements.specs.declared.operands.Unit.{Unit as AUnit}

-- the first operand is the next place whose number ends in 00
abbrev pub is_hundred : List ℕ → Bool
is_hundred columns = bytes_eq (operand_in columns) (codes "*+X00")

abbrev pub next_hundred : OperandField
next_hundred = fields.Operand (operands.Address (record { base = bases.NextHundred; adjustment = pos 0; index = None }))

-- an address or none, without a d-character
abbrev pub up_to_one : Form
up_to_one = record { least = 0; most = 1; d = d.Never }

-- the operand of ORG: an address, the next place whose number ends in 00, or none
abbrev pub origin_in : List ℕ → Operands
origin_in columns =
    if is_hundred columns
    then record { a = next_hundred; b = fields.Absent; d = None; is_whole = is_ended (beyond_operand columns) }
    else operands_of languages.Ibm up_to_one columns

-- an asterisk alone
abbrev pub here_alone : Operands
here_alone =
    record {
      a = fields.Operand (operands.Address (record { base = bases.Here; adjustment = pos 0; index = None }));
      b = fields.Absent;
      d = None;
      is_whole = true;
    }

-- the operand of LTORG: that of ORG, or none, which is an asterisk
abbrev pub literal_origin_in : List ℕ → Operands
literal_origin_in columns = if is_ended columns then here_alone else origin_in columns

-- the operand of END
abbrev pub entry_in : List ℕ → Operands
entry_in columns = operands_of languages.Ibm up_to_one columns

-- a unit as the only operand, if nothing follows it
abbrev pub unit_alone : AUnit → List ℕ → Operands
unit_alone unit beyond =
    record { a = fields.Operand (operands.Unit unit); b = fields.Absent; d = None; is_whole = is_ended beyond }

-- the operand of EQU: a unit, or an address
abbrev pub equal_in : List ℕ → Operands
equal_in columns =
    option_map_or (λ (unit : AUnit). unit_alone unit (beyond_operand columns)) (unit_of (operand_in columns))
    (operands_of languages.Ibm one_address columns)
