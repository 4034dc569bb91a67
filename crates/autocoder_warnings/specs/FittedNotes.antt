-- What the lines of a source say on a machine with features (A24-1403, "Divide", from memory; that H may have two addresses
-- is own).
use Rattle.std.specs.Prelude.{Bool, false, ◌==◌, ◌&&◌, ◌||◌, if◌then◌else◌, List, Option, None}
use Rattle.std.specs.List.{list_any}
use Rattle.std.specs.Option.{option_map_or}
use Rattle.std.specs.Str.{byte}
use Rattle.machine_tables.specs.declared.features.Features.{Features}
use Rattle.autocoder_statements.specs.Description.{describe}
use Rattle.autocoder_statements.specs.Operands.{count_of}
use Rattle.autocoder_statements.specs.declared.description.Contents.{Contents}
use Rattle.autocoder_statements.specs.declared.description.Contents.TheVariants as contents
use Rattle.autocoder_statements.specs.declared.label.Label.{Label}
use Rattle.autocoder_statements.specs.declared.mnemonic.Instruction.{Instruction}
use Rattle.autocoder_statements.specs.declared.operands.Operands.{Operands}
use Rattle.autocoder_statements.specs.declared.statement.Line.{Line}
use Rattle.autocoder_statements.specs.declared.statement.Statement.{Statement}
use Rattle.autocoder_symbols.specs.Symbols.{has_label}
use Rattle.autocoder_diagnostics.specs.FirstFault.{symbol_in}
use Rattle.autocoder_diagnostics.specs.Notes.{Known, has_operation, known_in}

-- a division by zero sets the indicator of an overflow
abbrev pub with_divisions : Features → List Line → Known → Known
with_divisions features lines known =
    if features.multiply
    then record known { adds = known.adds || list_any (has_operation (byte "%")) lines }
    else known

-- the symbol of the first address of an H with two
abbrev pub stored_by : Instruction → Operands → Option Label
stored_by instruction of =
    if (instruction.operation == byte "H") && (count_of of.b == 1) then symbol_in of.a else None

abbrev pub stored_symbol : Contents → Option Label
stored_symbol contents.Nothing = None
stored_symbol (contents.Instruction instruction of) = stored_by instruction of
stored_symbol (contents.MarkedConstant constant) = None
stored_symbol (contents.Constant constant) = None
stored_symbol (contents.Space places) = None
stored_symbol (contents.Areas areas) = None
stored_symbol (contents.Chain chain) = None
stored_symbol (contents.AddressConstant constant) = None

abbrev pub is_stored_in : Label → Line → Bool
is_stored_in label line =
    option_map_or (λ (this : Statement). has_label label (stored_symbol (describe this.body).contents)) line.statement
    false

-- an H with two addresses stores the second at the first: the zone over its units is a sign
abbrev pub with_stores : Features → List Line → Known → Known
with_stores features lines known =
    if features.lengths
    then record known { is_signed = λ label. known.is_signed label || list_any (is_stored_in label) lines }
    else known

-- what the lines of a source say of its labels, and which indicators they can set, on a machine with these features
abbrev pub known_with : Features → List Line → Known
known_with features lines = with_stores features lines (with_divisions features lines (known_in lines))
