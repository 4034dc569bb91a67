-- What the assembler makes of a statement at an address (own): of a source that gives the labels their values, places
-- the statement and ends there.
use Rattle.std.specs.Prelude.{ℕ, Bool, true, false, ◌||◌, if◌then◌else◌, List, [], ◌∷◌, ◌++◌, length, map, drop}
use Rattle.std.specs.Prelude.{codes, Option, None, Some, Result, Ok, Err}
use Rattle.std.specs.Char.{is_ascii_whitespace}
use Rattle.std.specs.List.{concat, flat_map, prefix_len}
use Rattle.std.specs.Str.{bytes_eq}
use Rattle.autocoder_1401.specs.Assembly.{assembly_in}
use Rattle.autocoder_1401.specs.declared.assembly.Assembly.{Assembly}
use Rattle.autocoder_listing.specs.declared.symbol_table.Symbol.{Symbol}
use Rattle.autocoder_statements.specs.Description.{describe}
use Rattle.autocoder_statements.specs.Language.{line_in}
use Rattle.autocoder_statements.specs.Nearness.{word_in}
use Rattle.autocoder_statements.specs.Statement.{label_of_line}
use Rattle.autocoder_statements.specs.declared.description.Addressing.{Addressing}
use Rattle.autocoder_statements.specs.declared.description.Addressing.TheVariants as addressing
use Rattle.autocoder_statements.specs.declared.label.Label.{Label}
use Rattle.autocoder_statements.specs.declared.language.Language.{Language}
use Rattle.autocoder_statements.specs.declared.operands.Operand.{Operand}
use Rattle.autocoder_statements.specs.declared.operands.Operand.TheVariants as operands
use Rattle.autocoder_statements.specs.declared.operands.OperandField.{OperandField}
use Rattle.autocoder_statements.specs.declared.operands.OperandField.TheVariants as fields
use Rattle.autocoder_statements.specs.declared.statement.Statement.{Statement}
use Rattle.autocoder_symbols.specs.declared.fault.AsmFault.{AsmFault}
use Rattle.bytes_text.specs.Piece.{padded}
use Rattle.machine_commands.specs.declared.command.Command.{Command}
use Rattle.machine_image.specs.declared.image.Image.{Image}
use Rattle.machine_image.specs.declared.image.Segment.{Segment}
use Rattle.machine_image.specs.Loading.{deposit_of}
use Rattle.machine_notation.specs.Digits.{digits_in}
use Rattle.operate_program.specs.Known.{Known}
use Rattle.operate_program.specs.Value.{place_of}
use Rattle.operate_program.specs.declared.fault.ActFault.{ActFault}
use Rattle.operate_program.specs.declared.fault.ActFault.TheVariants as fault

-- the line that gives a label a value
unfoldable pub equate_line : Symbol → ℕ → List ℕ
equate_line symbol value =
    concat (codes "     " ∷ symbol.label.text ∷ codes "    EQU  " ∷ digits_in 1 value ∷ [])

abbrev is_label_of : Symbol → Option Label → Bool
is_label_of symbol None = false
is_label_of symbol (Some label) = bytes_eq label.text symbol.label.text

-- a line declares the label of a symbol in a language
abbrev pub declares : Language → List ℕ → Symbol → Bool
declares language line symbol = is_label_of symbol (label_of_line (line_in language line))

-- the line that gives a label a value, if the language can declare the label so
abbrev pub equate_with : Language → Symbol → Option ℕ → List ℕ
equate_with language symbol None = []
equate_with language symbol (Some value) =
    if declares language (equate_line symbol value) symbol then equate_line symbol value ++ codes "\n" else []

-- the line of a label, if its value is a place and the language can declare the label so
abbrev pub equate : Language → Symbol → List ℕ
equate language symbol = equate_with language symbol (place_of symbol.value)

-- a text without the blanks in front
abbrev pub without_front : List ℕ → List ℕ
without_front text = drop (prefix_len is_ascii_whitespace text) text

-- the line of a statement: its first word in the columns of the operation, and what follows in those of the operands
unfoldable pub statement_line : List ℕ → List ℕ
statement_line statement =
    concat (codes "               " ∷ padded 5 (word_in statement)
    ∷ without_front (drop (length (word_in statement)) statement) ∷ [])

-- the source by which the line of a statement is read: the labels, where it is placed, the line, and an end
unfoldable pub statement_source : Known → ℕ → List ℕ → List ℕ
statement_source known at line =
    flat_map (equate known.language) known.symbols
    ++ concat (codes "               ORG  " ∷ digits_in 1 at ∷ codes "\n" ∷ line
    ∷ codes "\n               END  " ∷ digits_in 1 at ∷ codes "\n" ∷ [])

-- an operand is a literal
abbrev is_literal_operand : Operand → Bool
is_literal_operand (operands.Literal literal) = true
is_literal_operand (operands.Address address) = false
is_literal_operand (operands.Unit unit) = false

abbrev pub is_literal : OperandField → Bool
is_literal fields.Absent = false
is_literal fields.Malformed = false
is_literal (fields.Operand operand) = is_literal_operand operand

abbrev pub uses_literal_in : Addressing → Bool
uses_literal_in addressing.Nothing = false
uses_literal_in (addressing.Addresses of) = is_literal of.a || is_literal of.b
uses_literal_in (addressing.EarlierValue of) = false
uses_literal_in (addressing.Equal of) = false
uses_literal_in (addressing.Value of) = false
uses_literal_in (addressing.Entry of) = false

abbrev uses_literal_if : Option Statement → Bool
uses_literal_if None = false
uses_literal_if (Some statement) = uses_literal_in (describe statement.body).addressing

-- a line uses a literal, which would need a place of its own
abbrev pub uses_literal : Language → List ℕ → Bool
uses_literal language line = uses_literal_if (line_in language line).statement

abbrev commands_if : List ℕ → List Segment → Result (List Command) ActFault
commands_if statement [] = Err (fault.NoCells statement)
commands_if statement (segment ∷ segments) = Ok (map deposit_of (segment ∷ segments))

-- the commands that deposit an image, which isn't empty
abbrev pub image_commands : List ℕ → Image → Result (List Command) ActFault
image_commands statement image = commands_if statement image.segments

-- of what the assembler answers, the commands or the fault
abbrev pub commands_or_fault : ℕ → ℕ → List ℕ → Result Assembly AsmFault → Result (List Command) ActFault
commands_or_fault size at statement (Ok assembly) = image_commands statement assembly.image
commands_or_fault size at statement (Err why) = Err (fault.Statement statement at size)

-- what the assembler makes of the line of a statement at an address, in core storage of this size
abbrev pub assembled_commands : Known → ℕ → ℕ → List ℕ → List ℕ → Result (List Command) ActFault
assembled_commands known size at statement line =
    commands_or_fault size at statement (assembly_in known.language size (statement_source known at line))

-- the commands that deposit what the assembler makes of the line of a statement at an address; a literal has no place
abbrev pub placed_commands : Known → ℕ → ℕ → List ℕ → List ℕ → Result (List Command) ActFault
placed_commands known size at statement line =
    if uses_literal known.language line then Err fault.Literal else assembled_commands known size at statement line

-- the commands that deposit what the assembler makes of a statement at an address
abbrev pub statement_commands : Known → ℕ → ℕ → List ℕ → Result (List Command) ActFault
statement_commands known size at statement = placed_commands known size at statement (statement_line statement)
