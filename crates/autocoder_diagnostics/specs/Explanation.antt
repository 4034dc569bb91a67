-- What is wrong at a fault, and in which columns (own).
use Rattle.std.specs.Prelude.{◌≡◌, ℕ, ◌+◌, ◌-◌, ◌≤◌, Bool, false, not, ◌&&◌, ◌||◌, nat_lt, if◌then◌else◌, List, [], ◌∷◌}
use Rattle.std.specs.Prelude.{◌++◌, length, map, drop, unwrap_or, slice_get, is_some, Option, None, Some}
use Rattle.std.specs.Option.{option_map_or, option_or, option_and_then}
use Rattle.autocoder_statements.specs.AreaLiterals.{DeclaredAreas, areas_of_line}
use Rattle.autocoder_statements.specs.Description.{describe}
use Rattle.autocoder_statements.specs.Flaw.{stretch, filled, first_base, second_base}
use Rattle.autocoder_statements.specs.Context.{lines_said}
use Rattle.autocoder_statements.specs.LanguageFlaw.{columns_in_language, foreign_column_in, operand_flaw_in}
use Rattle.autocoder_statements.specs.LanguageFlaw.{operation_flaw_in}
use Rattle.autocoder_statements.specs.Nearness.{is_near, word_in}
use Rattle.autocoder_statements.specs.SourceLine.{columns_in, lines_of}
use Rattle.autocoder_statements.specs.Statement.{label_of_line}
use Rattle.autocoder_statements.specs.declared.description.Addressing.{Addressing}
use Rattle.autocoder_statements.specs.declared.description.Addressing.TheVariants as addressing
use Rattle.autocoder_statements.specs.declared.description.Relation.{Relation}
use Rattle.autocoder_statements.specs.declared.description.Relation.TheVariants as relations
use Rattle.autocoder_statements.specs.declared.flaw.Flaw.{Flaw}
use Rattle.autocoder_statements.specs.declared.flaw.OperationFlaw.{OperationFlaw}
use Rattle.autocoder_statements.specs.declared.flaw.OperationFlaw.TheVariants as operation_flaws
use Rattle.autocoder_statements.specs.declared.flaw.Stretch.{Stretch}
use Rattle.autocoder_statements.specs.declared.label.Label.{Label}
use Rattle.autocoder_statements.specs.declared.language.Language.{Language}
use Rattle.autocoder_statements.specs.declared.label.LabelField.{LabelField}
use Rattle.autocoder_statements.specs.declared.label.LabelField.TheVariants as labels
use Rattle.autocoder_statements.specs.declared.literal.AreaLiteral.{AreaLiteral}
use Rattle.autocoder_statements.specs.declared.statement.Body.{Body}
use Rattle.autocoder_statements.specs.declared.statement.LineCheck.{LineCheck}
use Rattle.autocoder_statements.specs.declared.statement.Line.{Line}
use Rattle.autocoder_statements.specs.declared.statement.Statement.{Statement}
use Rattle.autocoder_symbols.specs.Chains.{link_of}
use Rattle.autocoder_symbols.specs.Known.{Declared, declared_at, known_as}
use Rattle.autocoder_symbols.specs.Symbols.{Sites, sites_anywhere}
use Rattle.autocoder_symbols.specs.declared.fault.AsmFault.{AsmFault}
use Rattle.autocoder_symbols.specs.declared.fault.AsmKind.{AsmKind}
use Rattle.autocoder_symbols.specs.declared.fault.AsmKind.TheVariants as kinds
use Rattle.autocoder_symbols.specs.declared.known.Known.{Known}
use Rattle.autocoder_symbols.specs.declared.known.Known.TheVariants as known
use Rattle.autocoder_symbols.specs.declared.symbols.Declaration.{Declaration}
use Rattle.autocoder_diagnostics.specs.ToldFaults.{told_end}
use Rattle.autocoder_diagnostics.specs.FirstFault.{is_long, is_undefined, symbol_in, double_label, double_area}
use Rattle.autocoder_diagnostics.specs.OwnFault.{before_next, nothing_before, told}
use Rattle.autocoder_diagnostics.specs.declared.explanation.Cause.{Cause}
use Rattle.autocoder_diagnostics.specs.declared.explanation.Cause.TheVariants as causes
use Rattle.autocoder_diagnostics.specs.declared.explanation.Explanation.{Explanation}
use Rattle.autocoder_diagnostics.specs.declared.explained_lines.Reached.{Reached}
use Rattle.autocoder_diagnostics.specs.declared.own_fault.Before.{Before}

-- in a longer source no label is looked for that a symbol may have been meant for
abbrev pub most_searched : ℕ
most_searched = 4000

-- a label that a word nearly is, of a line
abbrev pub near_label_of : ℕ → List ℕ → Line → Option Label
near_label_of letters word line =
    option_map_or (λ (label : Label). if is_near letters word (word_in label.text) then Some label else None)
    (label_of_line line) None

-- the first label of lines that a word nearly is
abbrev pub near_label : ℕ → List ℕ → List Line → Option Label
near_label letters word [] = None
near_label letters word (line ∷ lines) = option_or (near_label_of letters word line) (near_label letters word lines)

-- the label that a symbol nearly is: the first that differs by one letter, or else by two
abbrev pub nearest_label : List Line → Label → Option Label
nearest_label lines symbol =
    if nat_lt most_searched (length lines) then None
    else option_or (near_label 1 (word_in symbol.text) lines) (near_label 2 (word_in symbol.text) lines)

-- what is wrong with a label
abbrev pub label_cause : LabelField → Cause
label_cause labels.Absent = causes.LabelMissing
label_cause labels.Malformed = causes.NoLabel
label_cause (labels.Label label) = causes.LabelUnwanted

-- the line that has the label already
abbrev pub declared_before : Sites → LabelField → Cause
declared_before sites labels.Absent = causes.DeclaredBefore 0
declared_before sites labels.Malformed = causes.DeclaredBefore 0
declared_before sites (labels.Label label) =
    causes.DeclaredBefore (option_map_or (λ (of : Declaration). of.line) (sites label) 0)

-- the line that has the symbol of an area literal already, as a label or as another area
abbrev pub declared_otherwise : Declaration → Cause
declared_otherwise this =
    if is_some this.area then causes.AnotherArea this.line else causes.DeclaredBefore this.line

abbrev pub area_before : Sites → Option AreaLiteral → Cause
area_before sites None = causes.DeclaredBefore 0
area_before sites (Some area) = option_map_or declared_otherwise (sites area.label) (causes.DeclaredBefore 0)

-- the area literal whose symbol is declared already
abbrev pub area_at_fault : Sites → DeclaredAreas → Option AreaLiteral
area_at_fault sites areas = if double_area sites areas.0 then areas.0 else areas.1

-- what is wrong with a label or an area literal whose symbol is declared already
abbrev pub double_cause : Sites → ℕ → DeclaredAreas → LabelField → Cause
double_cause sites number areas label =
    if double_label sites number label then declared_before sites label
    else area_before sites (area_at_fault sites areas)

abbrev pub operation_fault : OperationFlaw → Cause
operation_fault operation_flaws.Displaced = causes.OperationDisplaced
operation_fault (operation_flaws.Unknown nearest) = causes.OperationUnknown nearest

-- why an operation isn't known: a CTL is above this one, or no instruction above CHAIN, or there is none of the name
abbrev pub unknown_cause : OperationFlaw → Relation → Cause
unknown_cause flaw relations.Apart = operation_fault flaw
unknown_cause flaw (relations.Repeated operation) = operation_fault flaw
unknown_cause flaw (relations.Repeats chain) = causes.NothingAbove
unknown_cause flaw (relations.Control size) = operation_fault flaw
unknown_cause flaw relations.SecondControl = causes.ControlledBefore
unknown_cause flaw (relations.Suffix suffix) = operation_fault flaw

-- what is wrong with an operation: it isn't known, or there are no areas above a field
abbrev pub operation_cause : Language → List ℕ → Body → Cause
operation_cause language columns body =
    if (describe body).is_known then causes.NoAreas
    else unknown_cause (operation_flaw_in language (columns_in 16 20 columns)) (describe body).relation

-- it is the second operand that has no label: no line has it, or the first operand's is there
abbrev pub is_second : Sites → Sites → Addressing → Bool
is_second declared anywhere addressing.Nothing = false
is_second declared anywhere (addressing.Addresses of) =
    not (is_undefined anywhere of.a) && (is_undefined anywhere of.b || not (is_undefined declared of.a))
is_second declared anywhere (addressing.EarlierValue of) = false
is_second declared anywhere (addressing.Equal of) = false
is_second declared anywhere (addressing.Value of) = false
is_second declared anywhere (addressing.Entry of) = false

-- the operand with the symbol at fault
abbrev pub undefined_operand : Sites → Sites → Addressing → Option Label
undefined_operand declared anywhere addressing.Nothing = None
undefined_operand declared anywhere (addressing.Addresses of) =
    symbol_in (if is_second declared anywhere (addressing.Addresses of) then of.b else of.a)
undefined_operand declared anywhere (addressing.EarlierValue of) = symbol_in of.a
undefined_operand declared anywhere (addressing.Equal of) = symbol_in of.a
undefined_operand declared anywhere (addressing.Value of) = symbol_in of.a
undefined_operand declared anywhere (addressing.Entry of) = symbol_in of.a

-- why a symbol that is declared can't be named on the line of this number: it is declared too late, or its value is
-- known too late
abbrev pub known_cause : ℕ → Declaration → Known → Cause
known_cause number declaration (known.From line) =
    if nat_lt declaration.line number then causes.KnownLate line else causes.DeclaredLate declaration.line
known_cause number declaration known.WhenPlaced = causes.OfLiteral
known_cause number declaration known.Never = causes.EndlessChain

abbrev pub declared_cause : Declared → ℕ → Label → Declaration → Cause
declared_cause declared number label declaration =
    known_cause number declaration (known_as declared (link_of declared.chains label) declaration)

-- the line in which a symbol is declared after END, or the label that it nearly is
abbrev pub undeclared_cause : Sites → List Line → Label → Cause
undeclared_cause anywhere lines label =
    option_map_or (λ (late : Declaration). causes.DeclaredLate late.line) (anywhere label)
    (causes.Undeclared (nearest_label lines label))

-- what is wrong with a symbol
abbrev pub symbol_cause : Declared → Sites → List Line → ℕ → Option Label → Cause
symbol_cause declared anywhere lines number None = causes.Undeclared None
symbol_cause declared anywhere lines number (Some label) =
    option_map_or (declared_cause declared number label) (declared.sites label)
    (undeclared_cause anywhere lines label)

-- what is wrong with operands by themselves; of operands that are as the operation asks, that the area is shorter
abbrev pub operand_cause : Option Flaw → Body → Cause
operand_cause None body = causes.PastArea
operand_cause (Some flaw) body = if (describe body).is_well_formed then causes.PastArea else causes.BadOperand flaw.kind

-- the byte of a line that can't be in its column
abbrev pub foreign_byte : Language → List ℕ → Option ℕ
foreign_byte language source =
    option_and_then (λ column. slice_get source (column - 1))
    (foreign_column_in language (columns_in_language language source))

-- what is wrong with a statement of this line that has a fault of this kind
abbrev pub statement_cause : Language → Declared → Sites → List Line → ℕ → DeclaredAreas → List ℕ → Statement → AsmKind
    → Cause
statement_cause language declared anywhere lines number areas source this kinds.Memory = causes.Memory
statement_cause language declared anywhere lines number areas source this kinds.LongLine = causes.LongLine
statement_cause language declared anywhere lines number areas source this kinds.Graphic =
    causes.ForeignByte (foreign_byte language source)
statement_cause language declared anywhere lines number areas source this kinds.Label = label_cause this.label
statement_cause language declared anywhere lines number areas source this kinds.DoubleLabel =
    double_cause declared.sites number areas this.label
statement_cause language declared anywhere lines number areas source this kinds.Operation =
    operation_cause language (columns_in_language language source) this.body
statement_cause language declared anywhere lines number areas source this kinds.Undefined =
    symbol_cause declared anywhere lines number
    (undefined_operand declared.sites anywhere (describe this.body).addressing)
statement_cause language declared anywhere lines number areas source this kinds.Operand =
    operand_cause (operand_flaw_in language (columns_in_language language source)) this.body
statement_cause language declared anywhere lines number areas source this kinds.OutOfCore = causes.OutOfCore
statement_cause language declared anywhere lines number areas source this kinds.NoEnd = causes.NoEnd
statement_cause language declared anywhere lines number areas source this kinds.AfterEnd = causes.AfterEnd

-- the column of a byte that can't be there
abbrev pub foreign_stretch : Language → List ℕ → Stretch
foreign_stretch language columns = stretch (unwrap_or (foreign_column_in language columns) 1) 1

-- the symbol of the second operand, or of the first
abbrev pub base_stretch : Bool → List ℕ → Stretch
base_stretch is_second columns = if is_second then second_base columns else first_base columns

-- the label, or the symbol of an area literal, that is declared already
abbrev pub double_stretch : Sites → ℕ → DeclaredAreas → List ℕ → LabelField → Stretch
double_stretch sites number areas columns label =
    if double_label sites number label then filled 6 (columns_in 6 15 columns)
    else base_stretch (not (double_area sites areas.0)) (columns_in 21 72 columns)

abbrev pub operand_stretch : Option Flaw → Stretch
operand_stretch flaw = option_map_or (λ (found : Flaw). found.columns) flaw (stretch 21 0)

-- the columns of a statement in which it has a fault of this kind
abbrev pub statement_stretch : Language → Declared → Sites → ℕ → DeclaredAreas → List ℕ → Statement → AsmKind → Stretch
statement_stretch language declared anywhere number areas columns this kinds.Memory = stretch 1 0
statement_stretch language declared anywhere number areas columns this kinds.LongLine = stretch 81 0
statement_stretch language declared anywhere number areas columns this kinds.Graphic = foreign_stretch language columns
statement_stretch language declared anywhere number areas columns this kinds.Label = filled 6 (columns_in 6 15 columns)
statement_stretch language declared anywhere number areas columns this kinds.DoubleLabel =
    double_stretch declared.sites number areas columns this.label
statement_stretch language declared anywhere number areas columns this kinds.Operation =
    filled 16 (columns_in 16 20 columns)
statement_stretch language declared anywhere number areas columns this kinds.Undefined =
    base_stretch (is_second declared.sites anywhere (describe this.body).addressing) (columns_in 21 72 columns)
statement_stretch language declared anywhere number areas columns this kinds.Operand =
    operand_stretch (operand_flaw_in language columns)
statement_stretch language declared anywhere number areas columns this kinds.OutOfCore = stretch 1 0
statement_stretch language declared anywhere number areas columns this kinds.NoEnd = stretch 1 0
statement_stretch language declared anywhere number areas columns this kinds.AfterEnd =
    filled 6 (columns_in 6 72 columns)

-- a comment can only be too long, or hold a byte that can't be there
abbrev pub comment_cause : Language → LineCheck → List ℕ → Cause
comment_cause language bytes source =
    if is_long bytes then causes.LongLine else causes.ForeignByte (foreign_byte language source)

abbrev pub comment_stretch : Language → LineCheck → List ℕ → Stretch
comment_stretch language bytes columns = if is_long bytes then stretch 81 0 else foreign_stretch language columns

-- what is wrong with a line of this text that has a fault of this kind, and in which columns
abbrev pub explained_at : Language → Declared → Sites → List Line → ℕ → List ℕ → Line → AsmKind → Explanation
explained_at language declared anywhere lines number source line kind =
    let columns = columns_in_language language source in
    record {
      fault = record { line = number; kind = kind };
      columns =
          option_map_or
          (λ this. statement_stretch language declared anywhere number (areas_of_line line) columns this kind)
          line.statement
          (comment_stretch language line.bytes columns);
      cause =
          option_map_or
          (λ this. statement_cause language declared anywhere lines number (areas_of_line line) source this kind)
          line.statement
          (comment_cause language line.bytes source);
    }

-- a fault of this kind with what is wrong, if there is one
abbrev pub explained : Language → Declared → Sites → List Line → ℕ → List ℕ → Line → Option AsmKind
    → List Explanation
explained language declared anywhere lines number source line None = []
explained language declared anywhere lines number source line (Some kind) =
    explained_at language declared anywhere lines number source line kind ∷ []

-- a fault that no columns of a line show
abbrev pub whole_line : Cause → AsmFault → Explanation
whole_line cause fault = record { fault = fault; columns = stretch 1 0; cause = cause }

-- the faults of lines among all, which have these texts, each with what is wrong
abbrev pub explained_from : Language → Declared → Sites → List Line → Before → List Line → List (List ℕ)
    → List Explanation
explained_from language declared anywhere all this [] sources = map (whole_line causes.NoEnd) (told_end this)
explained_from language declared anywhere all this (line ∷ lines) [] = []
explained_from language declared anywhere all this (line ∷ lines) (source ∷ sources) =
    explained language declared anywhere all this.at.number source line (told declared anywhere this line)
    ++ explained_from language declared anywhere all (before_next declared this line) lines sources

-- the faults of a source's lines in this language, each with what is wrong, but for what isn't in core
abbrev pub explained_lines : Language → List (List ℕ) → List Explanation
explained_lines language sources =
    let lines = lines_said language sources in
    explained_from language (declared_at language lines) (sites_anywhere lines) lines nothing_before lines sources

-- the faults alone
abbrev pub faults_of : List Explanation → List AsmFault
faults_of explanations = map (λ (this : Explanation). this.fault) explanations

-- those lines of a source are explained, and the others have these texts
abbrev pub IsReached : List Line → Reached → Type 0
IsReached lines reached =
    (reached.above ≤ length lines) × (reached.before.at.number ≡ reached.above + 1)
    × (length (drop reached.above lines) ≡ length (lines_of reached.rest.now))

-- the faults of the lines beyond those that are explained
abbrev pub explained_beyond : Language → Declared → Sites → List Line → Reached → List Explanation
explained_beyond language declared anywhere lines reached =
    explained_from language declared anywhere lines reached.before (drop reached.above lines) (lines_of reached.rest.now)

-- those that are left, unless the end has been reached
abbrev pub explanations_left : Bool → Language → Declared → Sites → List Line → Reached → List Explanation
explanations_left is_ended language declared anywhere lines reached =
    if is_ended then [] else explained_beyond language declared anywhere lines reached
