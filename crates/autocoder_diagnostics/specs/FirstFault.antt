-- The faults of a line, and the first line of a source that has one, with its lowest kind (own).
use Rattle.std.specs.Prelude.{◌≡◌, ℕ, ◌+◌, ◌<◌, ◌==◌, Bool, true, false, not, ◌&&◌, ◌||◌, nat_lt, if◌then◌else◌, List}
use Rattle.std.specs.Prelude.{[], ◌∷◌, length, take, fold, slice_get, slice_index_or, Option, Some, None, is_none}
use Rattle.std.specs.Prelude.{is_some}
use Rattle.std.specs.Option.{option_map, option_map_or}
use Rattle.std.specs.List.{list_any}
use Rattle.autocoder_statements.specs.AreaLiterals.{DeclaredAreas, areas_of_line}
use Rattle.autocoder_statements.specs.Statement.{has_bad_label, has_bad_operands, is_end, lacks_field_label}
use Rattle.autocoder_statements.specs.Description.{describe}
use Rattle.autocoder_statements.specs.declared.label.Label.{Label}
use Rattle.autocoder_statements.specs.declared.label.LabelField.{LabelField}
use Rattle.autocoder_statements.specs.declared.label.LabelField.TheVariants as labels
use Rattle.autocoder_statements.specs.declared.language.Language.{Language}
use Rattle.autocoder_statements.specs.declared.language.Language.TheVariants as languages
use Rattle.autocoder_statements.specs.declared.literal.AreaLiteral.{AreaLiteral}
use Rattle.autocoder_statements.specs.declared.literal.Literal.{Literal}
use Rattle.autocoder_statements.specs.declared.literal.Literal.TheVariants as literals
use Rattle.autocoder_statements.specs.declared.address.Base.{Base}
use Rattle.autocoder_statements.specs.declared.address.Base.TheVariants as bases
use Rattle.autocoder_statements.specs.declared.operands.Operand.TheVariants as operands
use Rattle.autocoder_statements.specs.declared.operands.OperandField.{OperandField}
use Rattle.autocoder_statements.specs.declared.operands.OperandField.TheVariants as fields
use Rattle.autocoder_statements.specs.declared.statement.Areas.{Areas}
use Rattle.autocoder_statements.specs.declared.statement.Span.{Span}
use Rattle.autocoder_statements.specs.declared.description.Addressing.{Addressing}
use Rattle.autocoder_statements.specs.declared.description.Addressing.TheVariants as addressing
use Rattle.autocoder_statements.specs.declared.description.AreaRole.{AreaRole}
use Rattle.autocoder_statements.specs.declared.description.AreaRole.TheVariants as roles
use Rattle.autocoder_statements.specs.declared.statement.Body.{Body}
use Rattle.autocoder_statements.specs.declared.statement.LineCheck.{LineCheck}
use Rattle.autocoder_statements.specs.declared.statement.LineCheck.TheVariants as bytes
use Rattle.autocoder_statements.specs.declared.statement.Statement.{Statement}
use Rattle.autocoder_statements.specs.declared.statement.Line.{Line}
use Rattle.autocoder_symbols.specs.Fault.{rank}
use Rattle.autocoder_symbols.specs.Known.{Declared, declared_at, known_of, is_known_before, is_known_at_end}
use Rattle.autocoder_symbols.specs.Symbols.{Sites, is_before, is_label_before}
use Rattle.autocoder_symbols.specs.declared.symbols.Declaration.{Declaration}
use Rattle.autocoder_symbols.specs.declared.fault.AsmKind.{AsmKind}
use Rattle.autocoder_symbols.specs.declared.fault.AsmKind.TheVariants as kinds
use Rattle.autocoder_symbols.specs.declared.fault.AsmFault.{AsmFault}
use Rattle.autocoder_diagnostics.specs.declared.first_fault.LineContext.{LineContext}

-- the length of the areas that a field after these lines would divide: those of a DA, with nothing but its fields,
-- comments and headings after it
abbrev pub areas_by : Option ℕ → AreaRole → Option ℕ
areas_by areas roles.Ends = None
areas_by areas roles.Keeps = areas
areas_by areas (roles.Makes made) = option_map (λ (of : Areas). of.length) made
areas_by areas (roles.Divides span) = areas

abbrev pub areas_with : Option ℕ → Body → Option ℕ
areas_with areas body = areas_by areas (describe body).areas

abbrev pub areas_beyond : Option ℕ → Line → Option ℕ
areas_beyond areas line =
    option_map_or (λ (statement : Statement). areas_with areas statement.body) line.statement areas

-- the place of the first line of a source
abbrev pub first_place : LineContext
first_place = record { number = 1; is_ended = false; areas = None }

-- the place after a line
abbrev pub place_beyond : LineContext → Line → LineContext
place_beyond this line =
    record { number = this.number + 1; is_ended = this.is_ended || is_end line; areas = areas_beyond this.areas line }

abbrev pub is_field : AreaRole → Bool
is_field roles.Ends = false
is_field roles.Keeps = false
is_field (roles.Makes made) = false
is_field (roles.Divides span) = true

-- a field of areas may need a label
abbrev pub bad_label : Option ℕ → Statement → Bool
bad_label areas this = has_bad_label this || (lacks_field_label this && is_some areas)

abbrev pub double_label : Sites → ℕ → LabelField → Bool
double_label sites number labels.Absent = false
double_label sites number labels.Malformed = false
double_label sites number (labels.Label label) = is_before number (sites label)

-- an area literal with this many places
abbrev pub is_area : ℕ → Option Declaration → Bool
is_area places None = false
is_area places (Some declaration) = option_map_or (λ (other : ℕ). other == places) declaration.area false

-- an area literal whose symbol is a label, of the line itself or of one above it, or an area above it of other places
abbrev pub double_area : Sites → Option AreaLiteral → Bool
double_area sites None = false
double_area sites (Some area) = not (is_area area.places (sites area.label))

abbrev pub double_areas : Sites → DeclaredAreas → Bool
double_areas sites areas = double_area sites areas.0 || double_area sites areas.1

-- a label or an area literal whose symbol is declared already
abbrev pub is_double : Sites → ℕ → DeclaredAreas → LabelField → Bool
is_double sites number areas label = double_label sites number label || double_areas sites areas

-- a field under no areas is no operation
abbrev pub bad_operation : Option ℕ → Body → Bool
bad_operation areas body = not (describe body).is_known || (is_field (describe body).areas && is_none areas)

-- the symbol that an operand names
abbrev pub symbol_in_base : Base → Option Label
symbol_in_base (bases.Number number) = None
symbol_in_base (bases.Symbol label) = Some label
symbol_in_base bases.Here = None
symbol_in_base (bases.Register number) = None
symbol_in_base bases.NextHundred = None

-- the symbol in a literal: that of its address, or of its area
abbrev pub symbol_in_literal : Literal → Option Label
symbol_in_literal (literals.Constant constant) = None
symbol_in_literal (literals.Address literal) = symbol_in_base literal.address.base
symbol_in_literal (literals.Area literal) = Some literal.label

abbrev pub symbol_in : OperandField → Option Label
symbol_in fields.Absent = None
symbol_in fields.Malformed = None
symbol_in (fields.Operand (operands.Address address)) = symbol_in_base address.base
symbol_in (fields.Operand (operands.Literal literal)) = symbol_in_literal literal
symbol_in (fields.Operand (operands.Unit unit)) = None

-- a symbol that no line declares
abbrev pub is_undefined : Sites → OperandField → Bool
is_undefined sites field = option_map_or (λ label. is_none (sites label)) (symbol_in field) false

-- ORG and LTORG may name a symbol whose value is known above them
abbrev pub is_unknown_before : Declared → ℕ → OperandField → Bool
is_unknown_before declared number field =
    option_map_or (λ label. not (is_known_before number (known_of declared label))) (symbol_in field) false

-- EQU may name a label of an earlier line, in the wider language each symbol whose value is known once all is placed
abbrev pub may_equal : Language → Declared → ℕ → Label → Bool
may_equal languages.Plain declared number label = is_label_before number (declared.sites label)
may_equal languages.Ibm declared number label = is_known_at_end (known_of declared label)

abbrev pub is_unequal : Declared → ℕ → OperandField → Bool
is_unequal declared number field =
    option_map_or (λ label. not (may_equal declared.language declared number label)) (symbol_in field) false

-- addresses take any symbol that is declared, and some values those that are known by then
abbrev pub undefined_in : Declared → ℕ → Addressing → Bool
undefined_in declared number addressing.Nothing = false
undefined_in declared number (addressing.Addresses of) =
    is_undefined declared.sites of.a || is_undefined declared.sites of.b
undefined_in declared number (addressing.EarlierValue of) = is_unknown_before declared number of.a
undefined_in declared number (addressing.Equal of) = is_unequal declared number of.a
undefined_in declared number (addressing.Value of) = is_undefined declared.sites of.a
undefined_in declared number (addressing.Entry of) = is_undefined declared.sites of.a

abbrev pub undefined : Declared → ℕ → Body → Bool
undefined declared number body = undefined_in declared number (describe body).addressing

-- a field that ends past its area
abbrev pub is_past : Option ℕ → Option Span → Bool
is_past (Some length) (Some span) = nat_lt length span.last
is_past (Some length) None = false
is_past None span = false

abbrev pub is_past_by : Option ℕ → AreaRole → Bool
is_past_by areas roles.Ends = false
is_past_by areas roles.Keeps = false
is_past_by areas (roles.Makes made) = false
is_past_by areas (roles.Divides span) = is_past areas span

abbrev pub is_past_areas : Option ℕ → Body → Bool
is_past_areas areas body = is_past_by areas (describe body).areas

abbrev pub bad_operands : Option ℕ → Body → Bool
bad_operands areas body = has_bad_operands body || is_past_areas areas body

abbrev pub is_long : LineCheck → Bool
is_long bytes.Good = false
is_long bytes.Long = true
is_long bytes.Foreign = false

abbrev pub is_foreign : LineCheck → Bool
is_foreign bytes.Good = false
is_foreign bytes.Long = false
is_foreign bytes.Foreign = true

-- what only a statement up to END is looked at for
abbrev pub up_to_end_has : LineContext → Line → (Statement → Bool) → Bool
up_to_end_has at line test = not at.is_ended && option_map_or test line.statement false

-- a line has a fault of this kind
abbrev pub has_fault : Declared → LineContext → Line → AsmKind → Bool
has_fault declared at line kinds.Memory = false
has_fault declared at line kinds.LongLine = is_long line.bytes
has_fault declared at line kinds.Graphic = is_foreign line.bytes
has_fault declared at line kinds.Label = up_to_end_has at line (bad_label at.areas)
has_fault declared at line kinds.DoubleLabel =
    up_to_end_has at line
    (λ (this : Statement). is_double declared.sites at.number (areas_of_line line) this.label)
has_fault declared at line kinds.Operation =
    up_to_end_has at line (λ (this : Statement). bad_operation at.areas this.body)
has_fault declared at line kinds.Undefined =
    up_to_end_has at line (λ (this : Statement). undefined declared at.number this.body)
has_fault declared at line kinds.Operand = up_to_end_has at line (λ (this : Statement). bad_operands at.areas this.body)
has_fault declared at line kinds.OutOfCore = false
has_fault declared at line kinds.NoEnd = false
has_fault declared at line kinds.AfterEnd = at.is_ended && is_some line.statement

-- the first for which the test holds
abbrev pub first_of : {X : Type 0} → (X → Bool) → List X → Option X
first_of test [] = None
first_of test (x ∷ xs) = if test x then Some x else first_of test xs

-- the kinds that lines are looked at for, the lowest first
abbrev pub scanned : List AsmKind
scanned =
    kinds.LongLine ∷ kinds.Graphic ∷ kinds.Label ∷ kinds.DoubleLabel ∷ kinds.Operation ∷ kinds.Undefined ∷ kinds.Operand
    ∷ kinds.AfterEnd ∷ []

-- the lowest kind of a line's faults
abbrev pub lowest : Declared → LineContext → Line → Option AsmKind
lowest declared at line = first_of (has_fault declared at line) scanned

-- the lowest kind that a statement up to END has, of a line with these area literals
abbrev pub lowest_in : Declared → LineContext → DeclaredAreas → Statement → Option AsmKind
lowest_in declared at areas this =
    if bad_label at.areas this then Some kinds.Label
    else if is_double declared.sites at.number areas this.label then Some kinds.DoubleLabel
    else if bad_operation at.areas this.body then Some kinds.Operation
    else if undefined declared at.number this.body then Some kinds.Undefined
    else if bad_operands at.areas this.body then Some kinds.Operand
    else None

-- a line's fault if it has one, and else that of the lines after it
abbrev pub or_beyond : ℕ → Option AsmKind → Option AsmFault → Option AsmFault
or_beyond number None beyond = beyond
or_beyond number (Some kind) beyond = Some (record { line = number; kind = kind })

-- the first line with a fault, with its lowest kind; the end of a source without END is one
abbrev pub first_fault_from : Declared → LineContext → List Line → Option AsmFault
first_fault_from declared at [] = if at.is_ended then None else Some (record { line = at.number; kind = kinds.NoEnd })
first_fault_from declared at (line ∷ lines) =
    or_beyond at.number (lowest declared at line) (first_fault_from declared (place_beyond at line) lines)

abbrev pub first_fault : Language → List Line → Option AsmFault
first_fault language lines = first_fault_from (declared_at language lines) first_place lines

-- the place of the line with this index: its number, whether one of those before it is an END, and the areas before it
abbrev pub place_at : List Line → ℕ → LineContext
place_at lines k =
    record { number = k + 1; is_ended = list_any is_end (take k lines); areas = fold areas_beyond None (take k lines) }

-- a line has no fault
abbrev pub IsClean : Declared → LineContext → Line → Type 0
IsClean declared at line = (kind : AsmKind) → has_fault declared at line kind ≡ false

-- a line has this fault, and none of a lower kind
abbrev pub IsLowest : Declared → LineContext → Line → AsmKind → Type 0
IsLowest declared at line kind =
    (has_fault declared at line kind ≡ true)
    × ((lower : AsmKind) → rank lower < rank kind → has_fault declared at line lower ≡ false)

-- each line below this index is without fault
abbrev pub AreClean : Declared → List Line → ℕ → Type 0
AreClean declared lines n =
    (k : ℕ) → k < n → (d : Line) → IsClean declared (place_at lines k) (slice_index_or lines k d)

-- the fault of the line with this index: its lowest, or that there was no END up to the last line
abbrev pub IsFaultAt : Declared → List Line → ℕ → Option Line → AsmKind → Type 0
IsFaultAt declared lines n None kind = (n ≡ length lines) × (kind ≡ kinds.NoEnd) × (list_any is_end lines ≡ false)
IsFaultAt declared lines n (Some line) kind = IsLowest declared (place_at lines n) line kind

-- the fault of the first line that has one
pub record IsFirstFault (declared : Declared) (lines : List Line) (fault : AsmFault) : Type 0 where
  pub index : ℕ
  pub numbered : fault.line ≡ index + 1
  pub earlier : AreClean declared lines index
  pub here : IsFaultAt declared lines index (slice_get lines index) fault.kind

-- no line has a fault, and there is an END
abbrev pub IsFaultless : Declared → List Line → Type 0
IsFaultless declared lines = AreClean declared lines (length lines) × (list_any is_end lines ≡ true)
