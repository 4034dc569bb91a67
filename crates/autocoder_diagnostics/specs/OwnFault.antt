-- The faults of a line that don't only follow from one told before (own).
use Rattle.std.specs.Prelude.{ℕ, Bool, true, false, not, ◌&&◌, ◌||◌, if◌then◌else◌, Option, Some, None, is_none}
use Rattle.std.specs.Prelude.{is_some}
use Rattle.std.specs.Option.{option_map_or}
use Rattle.autocoder_statements.specs.AreaLiterals.{DeclaredAreas}
use Rattle.autocoder_statements.specs.Description.{describe}
use Rattle.autocoder_statements.specs.declared.description.Addressing.{Addressing}
use Rattle.autocoder_statements.specs.declared.description.Addressing.TheVariants as addressing
use Rattle.autocoder_statements.specs.declared.description.AreaRole.{AreaRole}
use Rattle.autocoder_statements.specs.declared.description.AreaRole.TheVariants as roles
use Rattle.autocoder_statements.specs.declared.description.Description.{Description}
use Rattle.autocoder_statements.specs.declared.operands.OperandField.{OperandField}
use Rattle.autocoder_statements.specs.declared.statement.Body.{Body}
use Rattle.autocoder_statements.specs.declared.statement.Line.{Line}
use Rattle.autocoder_statements.specs.declared.statement.Statement.{Statement}
use Rattle.autocoder_symbols.specs.Known.{Declared}
use Rattle.autocoder_symbols.specs.Symbols.{Sites}
use Rattle.autocoder_symbols.specs.declared.fault.AsmKind.{AsmKind}
use Rattle.autocoder_symbols.specs.declared.fault.AsmKind.TheVariants as kinds
use Rattle.autocoder_diagnostics.specs.FirstFault.{first_place, place_beyond, is_field, bad_label, is_double, bad_operation}
use Rattle.autocoder_diagnostics.specs.FirstFault.{is_undefined, undefined, bad_operands, up_to_end_has, has_fault, first_of}
use Rattle.autocoder_diagnostics.specs.FirstFault.{scanned, lowest}
use Rattle.autocoder_diagnostics.specs.declared.own_fault.Before.{Before}

-- before the first line of a source
abbrev pub nothing_before : Before
nothing_before =
    record { at = first_place; is_clean = true; lost_areas = false; is_past_end = false; lost_end = false }

-- a DA without a value leaves its fields without areas, and so may a field whose operation can't be read
abbrev pub loses_areas : Bool → Option ℕ → Description → AreaRole → Bool
loses_areas lost areas row roles.Ends = not row.is_known && (lost || is_some areas)
loses_areas lost areas row roles.Keeps = lost
loses_areas lost areas row (roles.Makes None) = true
loses_areas lost areas row (roles.Makes (Some made)) = false
loses_areas lost areas row (roles.Divides span) = lost

abbrev pub loses_areas_at : Before → Body → Bool
loses_areas_at this body = loses_areas this.lost_areas this.at.areas (describe body) (describe body).areas

-- a statement whose operation can't be read may have been END
abbrev pub loses_end : Body → Bool
loses_end body = not (describe body).is_known

-- what is before the line after this one
abbrev pub before_next : Declared → Before → Line → Before
before_next declared this line =
    record {
      at = place_beyond this.at line;
      is_clean = this.is_clean && is_none (lowest declared this.at line);
      lost_areas = option_map_or (λ (of : Statement). loses_areas_at this of.body) line.statement this.lost_areas;
      is_past_end = this.is_past_end || (this.at.is_ended && is_some line.statement);
      lost_end = option_map_or (λ (of : Statement). loses_end of.body) line.statement this.lost_end;
    }

-- a field whose areas a faulty line has lost is no fault of its own
abbrev pub own_bad_operation : Before → Body → Bool
own_bad_operation this body =
    bad_operation this.at.areas body && not (this.lost_areas && is_field (describe body).areas)

-- a symbol that only lines after END declare, which are faulty themselves
abbrev pub is_late : Declared → Sites → OperandField → Bool
is_late declared anywhere field = is_undefined declared.sites field && not (is_undefined anywhere field)

abbrev pub undefined_anywhere : Declared → Sites → Addressing → Bool
undefined_anywhere declared anywhere addressing.Nothing = false
undefined_anywhere declared anywhere (addressing.Addresses of) =
    is_undefined anywhere of.a || is_undefined anywhere of.b
undefined_anywhere declared anywhere (addressing.EarlierValue of) = not (is_late declared anywhere of.a)
undefined_anywhere declared anywhere (addressing.Equal of) = not (is_late declared anywhere of.a)
undefined_anywhere declared anywhere (addressing.Value of) = is_undefined anywhere of.a
undefined_anywhere declared anywhere (addressing.Entry of) = is_undefined anywhere of.a

-- an undefined symbol that no line after END declares either
abbrev pub own_undefined : Declared → Sites → ℕ → Body → Bool
own_undefined declared anywhere number body =
    undefined declared number body && undefined_anywhere declared anywhere (describe body).addressing

-- the lowest kind of a statement's own faults up to END, of a line with these area literals
abbrev pub own_in : Declared → Sites → Before → DeclaredAreas → Statement → Option AsmKind
own_in declared anywhere this areas of =
    if bad_label this.at.areas of then Some kinds.Label
    else if is_double declared.sites this.at.number areas of.label then Some kinds.DoubleLabel
    else if own_bad_operation this of.body then Some kinds.Operation
    else if own_undefined declared anywhere this.at.number of.body then Some kinds.Undefined
    else if bad_operands this.at.areas of.body then Some kinds.Operand
    else None

-- a line has a fault of this kind that doesn't only follow from a line told before; of those after END, the first
abbrev pub is_own : Declared → Sites → Before → Line → AsmKind → Bool
is_own declared anywhere this line kinds.Memory = false
is_own declared anywhere this line kinds.LongLine = has_fault declared this.at line kinds.LongLine
is_own declared anywhere this line kinds.Graphic = has_fault declared this.at line kinds.Graphic
is_own declared anywhere this line kinds.Label = has_fault declared this.at line kinds.Label
is_own declared anywhere this line kinds.DoubleLabel = has_fault declared this.at line kinds.DoubleLabel
is_own declared anywhere this line kinds.Operation =
    up_to_end_has this.at line (λ (of : Statement). own_bad_operation this of.body)
is_own declared anywhere this line kinds.Undefined =
    up_to_end_has this.at line (λ (of : Statement). own_undefined declared anywhere this.at.number of.body)
is_own declared anywhere this line kinds.Operand = has_fault declared this.at line kinds.Operand
is_own declared anywhere this line kinds.OutOfCore = false
is_own declared anywhere this line kinds.NoEnd = false
is_own declared anywhere this line kinds.AfterEnd =
    has_fault declared this.at line kinds.AfterEnd && not this.is_past_end

-- what is told of a line: the lowest kind of its own faults; of the first line with a fault, the lowest of all
abbrev pub told : Declared → Sites → Before → Line → Option AsmKind
told declared anywhere this line =
    if this.is_clean then lowest declared this.at line else first_of (is_own declared anywhere this line) scanned
