-- What lines say with their neighbours (Autocoder, "Control Card", "Suffix", "Chained Instructions"; that comments may
-- stand within a chain, and that a second CTL is refused, own).
use Rattle.std.specs.Prelude.{ℕ, nat_le, Bool, true, false, ◌&&◌, ◌||◌, if◌then◌else◌, List, [], ◌∷◌, length, map, fold}
use Rattle.std.specs.Prelude.{Option, None, Some, codes}
use Rattle.std.specs.Option.{option_map}
use Rattle.std.specs.Str.{str_eq_ignore_ascii_case}
use Rattle.autocoder_statements.specs.AreaLiterals.{DeclaredAreas, areas_of_line, label_of_area}
use Rattle.autocoder_statements.specs.Description.{describe}
use Rattle.autocoder_statements.specs.Language.{line_in}
use Rattle.autocoder_statements.specs.SourceLine.{columns_in, lines_of}
use Rattle.autocoder_statements.specs.Statement.{line_of, label_of_line}
use Rattle.autocoder_statements.specs.LineSymbols.{line_under, statement_under}
use Rattle.autocoder_statements.specs.Symbols.{names_register, no_registers}
use Rattle.autocoder_statements.specs.declared.context.Context.{Context}
use Rattle.autocoder_statements.specs.declared.description.Relation.{Relation}
use Rattle.autocoder_statements.specs.declared.description.Relation.TheVariants as relations
use Rattle.autocoder_statements.specs.declared.label.Label.{Label}
use Rattle.autocoder_statements.specs.declared.language.Language.{Language}
use Rattle.autocoder_statements.specs.declared.language.Language.TheVariants as languages
use Rattle.autocoder_statements.specs.declared.statement.Body.{Body}
use Rattle.autocoder_statements.specs.declared.statement.Body.TheVariants as bodies
use Rattle.autocoder_statements.specs.declared.statement.Line.{Line}
use Rattle.autocoder_statements.specs.declared.statement.SizeField.{SizeField}
use Rattle.autocoder_statements.specs.declared.statement.SizeField.TheVariants as sizes
use Rattle.autocoder_statements.specs.declared.statement.Statement.{Statement}
use Rattle.autocoder_statements.specs.declared.statement.SuffixField.{SuffixField}
use Rattle.autocoder_statements.specs.declared.statement.SuffixField.TheVariants as suffixes
use Rattle.autocoder_statements.specs.declared.symbols.Registers.{Registers}
use Rattle.autocoder_statements.specs.declared.symbols.SymbolRule.{SymbolRule}

-- the first line has no suffix, no CTL and no instruction above it
abbrev pub nothing_above : Context
nothing_above = record { suffix = None; is_controlled = false; above = None }

-- what a statement with this relation says here: a CTL below another is none, and CHAIN repeats the operation above it
abbrev pub body_related : Context → Body → Relation → Body
body_related this body relations.Apart = body
body_related this body (relations.Repeated operation) = body
body_related this body (relations.Repeats chain) = bodies.Chain (record chain { operation = this.above })
body_related this body (relations.Control size) = if this.is_controlled then bodies.SecondControl else body
body_related this body relations.SecondControl = body
body_related this body (relations.Suffix suffix) = body

abbrev pub body_below : Context → Body → Body
body_below this body = body_related this body (describe body).relation

abbrev pub statement_below : Context → Statement → Statement
statement_below this statement = record { label = statement.label; body = body_below this statement.body }

-- how symbols are read below others: with the suffix that is in force
abbrev pub rule_in : Context → SymbolRule
rule_in this = record { suffix = this.suffix; registers = no_registers }

-- what a statement says below others
abbrev pub statement_in : Context → Statement → Statement
statement_in this statement = statement_below this (statement_under (rule_in this) statement)

-- what a line says below others
abbrev pub in_context : Context → Line → Line
in_context this line = record { bytes = line.bytes; statement = option_map (statement_in this) line.statement }

-- a malformed suffix changes nothing
abbrev pub suffix_by : SuffixField → Option ℕ → Option ℕ
suffix_by suffixes.Absent above = None
suffix_by suffixes.Malformed above = above
suffix_by (suffixes.Suffix graphic) above = Some graphic

-- what a statement with this relation makes of what is said of the line below it: an instruction may be repeated there,
-- and what was repeated may be again
abbrev pub below_related : Context → Relation → Context
below_related this relations.Apart = record this { above = None }
below_related this (relations.Repeated operation) = record this { above = Some operation }
below_related this (relations.Repeats chain) = this
below_related this (relations.Control size) = record this { is_controlled = true; above = None }
below_related this relations.SecondControl = record this { is_controlled = true; above = None }
below_related this (relations.Suffix suffix) = record this { suffix = suffix_by suffix this.suffix; above = None }

abbrev pub below_body : Context → Body → Context
below_body this body = below_related this (describe body).relation

-- a comment changes nothing
abbrev pub below_statement : Context → Option Statement → Context
below_statement this None = this
below_statement this (Some statement) = below_body this statement.body

-- what is said of the line below this one
abbrev pub below : Context → Line → Context
below this line = below_statement this line.statement

-- lines, each with what is said of it above
abbrev pub with_context : Context → List Line → List Line
with_context this [] = []
with_context this (line ∷ lines) = in_context this line ∷ with_context (below this line) lines

-- X1 to X3 as labels, with one more label or none
abbrev pub registers_with : Registers → Option Label → Registers
registers_with this None = this
registers_with this (Some label) =
    record {
      one = this.one || names_register 1 label;
      two = this.two || names_register 2 label;
      three = this.three || names_register 3 label;
    }

-- X1 to X3 as labels, with those that an instruction's addresses declare
abbrev pub registers_with_areas : Registers → DeclaredAreas → Registers
registers_with_areas this areas =
    registers_with (registers_with this (label_of_area areas.0)) (label_of_area areas.1)

-- X1 to X3 as labels, with one more line: its label, and its area literals
abbrev pub registers_and : Registers → Line → Registers
registers_and this line = registers_with_areas (registers_with this (label_of_line line)) (areas_of_line line)

-- which of X1 to X3 some line has as its label
abbrev pub registers_of : List Line → Registers
registers_of lines = fold registers_and no_registers lines

-- X1 to X3 are symbols if some line has them as its label
abbrev pub with_registers : Registers → Line → Line
with_registers registers line = line_under (record { suffix = None; registers = registers }) line

-- lines, each with X1 to X3 as labels or as index registers
abbrev pub registered : List Line → List Line
registered lines = map (with_registers (registers_of lines)) lines

-- what lines say together, if they say this by themselves
abbrev pub settled : List Line → List Line
settled lines = registered (with_context nothing_above lines)

-- what the lines of a source say, each with its neighbours
abbrev pub lines_said : Language → List (List ℕ) → List Line
lines_said languages.Plain texts = map line_of texts
lines_said languages.Ibm texts = settled (map (line_in languages.Ibm) texts)

abbrev pub size_of : SizeField → Option ℕ
size_of sizes.Absent = None
size_of sizes.Malformed = None
size_of (sizes.Size size) = Some size

-- what CTL says of the size of core
abbrev pub control_by : Relation → Option SizeField
control_by relations.Apart = None
control_by (relations.Repeated operation) = None
control_by (relations.Repeats chain) = None
control_by (relations.Control size) = Some size
control_by relations.SecondControl = None
control_by (relations.Suffix suffix) = None

abbrev pub control_of : Body → Option SizeField
control_of body = control_by (describe body).relation

abbrev pub control_in : Option Statement → Option SizeField
control_in None = None
control_in (Some statement) = control_of statement.body

-- the letters of CTL stand where an operation begins, small ones too
abbrev pub may_be_control : List ℕ → Bool
may_be_control line = nat_le 18 (length line) && str_eq_ignore_ascii_case (columns_in 16 18 line) (codes "CTL")

-- the first CTL counts, whatever is wrong with it
abbrev pub size_or : Option SizeField → Option ℕ → Option ℕ
size_or None later = later
size_or (Some size) later = size_of size

-- the size of core that the first CTL among lines asks for
abbrev pub first_size : List Line → Option ℕ
first_size [] = None
first_size (line ∷ lines) = size_or (control_in line.statement) (first_size lines)

-- the size of core that a source asks for
abbrev pub size_asked : Language → List ℕ → Option ℕ
size_asked languages.Plain source = None
size_asked languages.Ibm source = first_size (map (line_in languages.Ibm) (lines_of source))
