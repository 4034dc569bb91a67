-- The mnemonics of instructions in the wider language (Autocoder, "Operation", C24-3258 and J24-1434; A24-1403 for what
-- they stand for).
use Rattle.std.specs.Prelude.{ℕ, nat_lt, not, ◌&&◌, if◌then◌else◌, List, [], ◌∷◌, Option, None, Some, find, codes}
use Rattle.std.specs.Option.{option_map}
use Rattle.std.specs.Str.{bytes_eq, byte}
use Rattle.autocoder_statements.specs.Operands.{has_malformed}
use Rattle.autocoder_statements.specs.Units.{wide_operands}
use Rattle.autocoder_statements.specs.declared.mnemonic.DCharacter.{DCharacter}
use Rattle.autocoder_statements.specs.declared.mnemonic.DCharacter.TheVariants as d
use Rattle.autocoder_statements.specs.declared.mnemonic.Form.{Form}
use Rattle.autocoder_statements.specs.declared.units.FirstOperand.{FirstOperand}
use Rattle.autocoder_statements.specs.declared.units.FirstOperand.TheVariants as firsts

-- how many addresses at least and at most, the d-character
abbrev pub AForm : Type 0
AForm = ℕ × ℕ × DCharacter

-- the columns 16 to 20, the operation character, what the first operand is, the form that is tried first, and the one
-- that is tried after it
abbrev pub AWideRow : Type 0
AWideRow = List ℕ × ℕ × FirstOperand × AForm × Option AForm

-- the mnemonics that the plain language hasn't, or of which it has fewer forms
unfoldable pub wide_instructions : List AWideRow
wide_instructions =
    (codes "MLC  ", byte "M", firsts.UnitOrAddress, (0, 2, d.Never), Some (2, 2, d.Required)) ∷
    (codes "MCW  ", byte "M", firsts.UnitOrAddress, (0, 2, d.Never), Some (2, 2, d.Required)) ∷
    (codes "LCA  ", byte "L", firsts.UnitOrAddress, (0, 2, d.Never), Some (2, 2, d.Required)) ∷
    (codes "MLCWA", byte "L", firsts.UnitOrAddress, (0, 2, d.Never), Some (2, 2, d.Required)) ∷
    (codes "MLNS ", byte "D", firsts.Address, (0, 2, d.Never), None) ∷
    (codes "MLZS ", byte "Y", firsts.Address, (0, 2, d.Never), None) ∷
    (codes "B    ", byte "B", firsts.Address, (0, 1, d.Optional), Some (2, 2, d.Required)) ∷
    (codes "BCE  ", byte "B", firsts.Address, (2, 2, d.Required), Some (0, 0, d.Never)) ∷
    (codes "BWZ  ", byte "V", firsts.Address, (2, 2, d.Required), Some (0, 0, d.Never)) ∷
    (codes "BW   ", byte "V", firsts.Address, (2, 2, d.Fixed (byte "1")), Some (0, 0, d.Never)) ∷
    (codes "BBE  ", byte "W", firsts.Address, (2, 2, d.Required), Some (0, 0, d.Never)) ∷
    (codes "BM   ", byte "V", firsts.Address, (2, 2, d.Fixed (byte "K")), None) ∷
    (codes "BIN  ", byte "B", firsts.Address, (1, 1, d.Required), None) ∷
    (codes "BEF  ", byte "B", firsts.Address, (1, 1, d.Fixed (byte "K")), None) ∷
    (codes "BER  ", byte "B", firsts.Address, (1, 1, d.Fixed (byte "L")), None) ∷
    (codes "BPB  ", byte "B", firsts.Address, (1, 1, d.Fixed (byte "P")), None) ∷
    (codes "BPCB ", byte "B", firsts.Address, (1, 1, d.Fixed (byte "R")), None) ∷
    (codes "CC   ", byte "F", firsts.Address, (0, 0, d.Required), Some (1, 1, d.Required)) ∷
    (codes "SS   ", byte "K", firsts.Address, (0, 0, d.Required), Some (1, 1, d.Required)) ∷
    (codes "CCB  ", byte "F", firsts.Address, (1, 1, d.Required), None) ∷
    (codes "SSB  ", byte "K", firsts.Address, (1, 1, d.Required), None) ∷
    (codes "NOP  ", byte "N", firsts.Address, (0, 2, d.Never), Some (2, 2, d.Required)) ∷
    (codes "H    ", byte ".", firsts.Address, (0, 2, d.Never), None) ∷
    (codes "SAR  ", byte "Q", firsts.Address, (1, 2, d.Never), None) ∷
    (codes "SBR  ", byte "H", firsts.Address, (1, 2, d.Never), None) ∷
    (codes "M    ", byte "@", firsts.Address, (0, 2, d.Never), None) ∷
    (codes "D    ", byte "%", firsts.Address, (0, 2, d.Never), None) ∷
    (codes "MA   ", byte "#", firsts.Address, (0, 2, d.Never), None) ∷
    (codes "MIZ  ", byte "X", firsts.Address, (0, 2, d.Never), None) ∷
    (codes "MCM  ", byte "P", firsts.Address, (0, 2, d.Never), None) ∷
    (codes "MRCM ", byte "P", firsts.Address, (0, 2, d.Never), None) ∷
    (codes "SRF  ", byte "8", firsts.Address, (0, 1, d.Never), None) ∷
    (codes "SPF  ", byte "9", firsts.Address, (0, 1, d.Never), None) ∷
    (codes "MU   ", byte "M", firsts.Unit, (2, 2, d.Required), None) ∷
    (codes "LU   ", byte "L", firsts.Unit, (2, 2, d.Required), None) ∷
    (codes "CU   ", byte "U", firsts.Unit, (1, 1, d.Required), None) ∷
    (codes "RT   ", byte "M", firsts.Tape (byte "U"), (2, 2, d.Fixed (byte "R")), None) ∷
    (codes "WT   ", byte "M", firsts.Tape (byte "U"), (2, 2, d.Fixed (byte "W")), None) ∷
    (codes "RTW  ", byte "L", firsts.Tape (byte "U"), (2, 2, d.Fixed (byte "R")), None) ∷
    (codes "WTW  ", byte "L", firsts.Tape (byte "U"), (2, 2, d.Fixed (byte "W")), None) ∷
    (codes "RTB  ", byte "M", firsts.Tape (byte "B"), (2, 2, d.Fixed (byte "R")), None) ∷
    (codes "WTB  ", byte "M", firsts.Tape (byte "B"), (2, 2, d.Fixed (byte "W")), None) ∷
    (codes "BSP  ", byte "U", firsts.Tape (byte "U"), (1, 1, d.Fixed (byte "B")), None) ∷
    (codes "SKP  ", byte "U", firsts.Tape (byte "U"), (1, 1, d.Fixed (byte "E")), None) ∷
    (codes "RWD  ", byte "U", firsts.Tape (byte "U"), (1, 1, d.Fixed (byte "R")), None) ∷
    (codes "RWU  ", byte "U", firsts.Tape (byte "U"), (1, 1, d.Fixed (byte "U")), None) ∷
    (codes "WTM  ", byte "U", firsts.Tape (byte "U"), (1, 1, d.Fixed (byte "M")), None) ∷ []

-- the row of these columns
abbrev pub wide_row_of : List ℕ → Option AWideRow
wide_row_of columns = find (λ (row : AWideRow). bytes_eq row.0 columns) wide_instructions

abbrev pub form_in : AForm → Form
form_in row = record { least = row.0; most = row.1; d = row.2 }

-- the form by which operands are read: the first that they fit, or else the one with more addresses
abbrev pub form_among : FirstOperand → Form → Option Form → List ℕ → Form
form_among operand first None columns = first
form_among operand first (Some second) columns =
    if not (has_malformed (wide_operands operand first columns)) then first
    else if has_malformed (wide_operands operand second columns) && nat_lt second.most first.most then first
    else second

abbrev pub form_by : AWideRow → List ℕ → Form
form_by row columns = form_among row.2 (form_in row.3) (option_map form_in row.4) columns
