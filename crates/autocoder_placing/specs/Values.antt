-- The values of addresses once all is placed, and what isn't in core (Autocoder, "Operand"; what is looked at own).
use Rattle.std.specs.Prelude.{ℕ, ◌+◌, Bool, false, not, ◌&&◌, ◌||◌, nat_lt, if◌then◌else◌, List, [], ◌∷◌, length, ℤ}
use Rattle.std.specs.Prelude.{pos, negsuc, ◌+ℤ◌, int_le, int_lt, Option, Some, None, is_some}
use Rattle.std.specs.Option.{option_map_or}
use Rattle.machine_tables.specs.Operation.{is_fitted}
use Rattle.autocoder_statements.specs.Description.{describe}
use Rattle.autocoder_statements.specs.declared.address.Address.{Address}
use Rattle.autocoder_statements.specs.declared.literal.Literal.{Literal}
use Rattle.autocoder_statements.specs.declared.literal.Literal.TheVariants as literals
use Rattle.autocoder_statements.specs.declared.operands.Operand.TheVariants as operands
use Rattle.autocoder_statements.specs.declared.operands.OperandField.{OperandField}
use Rattle.autocoder_statements.specs.declared.operands.OperandField.TheVariants as fields
use Rattle.autocoder_statements.specs.declared.description.Addressing.{Addressing}
use Rattle.autocoder_statements.specs.declared.description.Addressing.TheVariants as addressing
use Rattle.autocoder_statements.specs.declared.description.Contents.{Contents}
use Rattle.autocoder_statements.specs.declared.description.Contents.TheVariants as contents
use Rattle.autocoder_statements.specs.declared.description.Description.{Description}
use Rattle.autocoder_statements.specs.declared.description.Next.{Next}
use Rattle.autocoder_statements.specs.declared.description.Next.TheVariants as next
use Rattle.autocoder_statements.specs.declared.statement.Body.{Body}
use Rattle.autocoder_statements.specs.declared.statement.Statement.{Statement}
use Rattle.autocoder_statements.specs.declared.statement.Line.{Line}
use Rattle.autocoder_symbols.specs.declared.fault.AsmKind.TheVariants as kinds
use Rattle.autocoder_symbols.specs.declared.fault.AsmFault.{AsmFault}
use Rattle.autocoder_placing.specs.Placement.{Placement, symbols_of, contents_length, pending, beyond_literals}
use Rattle.autocoder_placing.specs.Placement.{start_by}
use Rattle.autocoder_placing.specs.Placement.{instruction_length}
use Rattle.autocoder_placing.specs.Placement.{address_unit, base_value, asked_value, entry_value, placed_after}
use Rattle.autocoder_placing.specs.Placement.{unplaced, placed}
use Rattle.autocoder_placing.specs.declared.literals.LiteralKey.{LiteralKey}

-- the value of an address before indexing, with this place for an asterisk
abbrev pub address_value : Placement → ℤ → Address → ℤ
address_value all here address = base_value (symbols_of all) here address.base +ℤ address.adjustment

-- a value is the address of a place of core storage of this size
abbrev pub is_in_core : ℕ → ℤ → Bool
is_in_core size value = int_le (pos 0) value && int_lt value (pos size)

-- whether the places from the first up to the one before another are in core
abbrev pub are_in_core : ℕ → ℤ → ℤ → Bool
are_in_core size first beyond = int_le (pos 0) first && int_le beyond (pos size)

-- the last place of a length
abbrev pub last_place : ℤ → ℕ → ℤ
last_place first length = first +ℤ pos length +ℤ negsuc 0

-- one of the places of a length isn't in core
abbrev pub places_outside : ℕ → ℤ → ℕ → Bool
places_outside size first length = nat_lt 0 length && not (are_in_core size first (first +ℤ pos length))

-- a literal of an address whose value isn't in core; it is counted from a symbol, so no place is an asterisk in it
abbrev pub literal_outside : ℕ → Placement → Literal → Bool
literal_outside size all (literals.Constant constant) = false
literal_outside size all (literals.Address literal) = not (is_in_core size (address_value all (pos 0) literal.address))
literal_outside size all (literals.Area literal) = false

-- an address whose value isn't in core, as an operand or as a literal; the places of a literal are looked at where it
-- is placed, and a unit is no address, nor is a symbol that names one where it may
abbrev pub operand_outside : ℕ → Placement → Bool → ℤ → OperandField → Bool
operand_outside size all is_unit here fields.Absent = false
operand_outside size all is_unit here fields.Malformed = false
operand_outside size all is_unit here (fields.Operand (operands.Address address)) =
    not (is_in_core size (address_value all here address))
    && not (is_unit && is_some (address_unit (symbols_of all) address))
operand_outside size all is_unit here (fields.Operand (operands.Literal literal)) = literal_outside size all literal
operand_outside size all is_unit here (fields.Operand (operands.Unit unit)) = false

-- the first address may name a unit in an instruction that the machine hasn't got, as each with a unit is
abbrev pub may_name_unit : Contents → Bool
may_name_unit contents.Nothing = false
may_name_unit (contents.Instruction instruction of) = not (is_fitted instruction.operation (instruction_length of))
may_name_unit (contents.MarkedConstant constant) = false
may_name_unit (contents.Constant constant) = false
may_name_unit (contents.Space places) = false
may_name_unit (contents.Areas made) = false
may_name_unit (contents.Chain chain) = false
may_name_unit (contents.AddressConstant constant) = false

-- literals that are placed from here on and aren't in core
abbrev pub literals_outside : ℕ → ℤ → List LiteralKey → Bool
literals_outside size from literals =
    nat_lt 0 (length literals) && not (are_in_core size from (beyond_literals from literals))

-- literals that a statement places and that aren't in core
abbrev pub next_outside : ℕ → Placement → Description → Next → Bool
next_outside size this row next.Beyond = false
next_outside size this row next.Literals = literals_outside size (start_by this row next.Literals) (pending this)
next_outside size this row next.Value = false
next_outside size this row next.LiteralsAtValue =
    literals_outside size (start_by this row next.LiteralsAtValue) (pending this)
next_outside size this row next.Elsewhere = false

-- a value that isn't in core; the next place may be the one after the last
abbrev pub value_outside : ℕ → ℤ → Next → Bool
value_outside size value next.Beyond = not (is_in_core size value)
value_outside size value next.Literals = not (is_in_core size value)
value_outside size value next.Value = not (are_in_core size value value)
value_outside size value next.LiteralsAtValue = not (are_in_core size value value)
value_outside size value next.Elsewhere = not (is_in_core size value)

-- an address or a value that isn't in core
abbrev pub addresses_outside : ℕ → Placement → Placement → Description → Addressing → Bool
addresses_outside size all this row addressing.Nothing = false
addresses_outside size all this row (addressing.Addresses of) =
    let last = last_place this.next (contents_length row.contents) in
    operand_outside size all (may_name_unit row.contents) last of.a || operand_outside size all false last of.b
addresses_outside size all this row (addressing.EarlierValue of) =
    value_outside size (asked_value this this row.next (addressing.EarlierValue of)) row.next
addresses_outside size all this row (addressing.Equal of) =
    value_outside size (asked_value all this row.next (addressing.Equal of)) row.next
addresses_outside size all this row (addressing.Value of) =
    value_outside size (asked_value all this row.next (addressing.Value of)) row.next
addresses_outside size all this row (addressing.Entry of) = not (is_in_core size (entry_value all of.a))

-- a place of a statement that isn't in core, a literal that it places, or a value
abbrev pub row_outside : ℕ → Placement → Placement → Description → Bool
row_outside size all this row =
    places_outside size (start_by this row row.next) (contents_length row.contents)
    || next_outside size this row row.next
    || addresses_outside size all this row row.addressing

abbrev pub body_outside : ℕ → Placement → Placement → Body → Bool
body_outside size all this body = row_outside size all this (describe body)

abbrev pub line_outside : ℕ → Placement → Placement → Line → Bool
line_outside size all this line =
    option_map_or (λ (statement : Statement). body_outside size all this statement.body) line.statement false

-- the first line of which something isn't in core
abbrev pub first_outside_from : ℕ → Placement → ℕ → Placement → List Line → Option AsmFault
first_outside_from size all number this [] = None
first_outside_from size all number this (line ∷ lines) =
    if line_outside size all this line then Some (record { line = number; kind = kinds.OutOfCore })
    else first_outside_from size all (number + 1) (placed_after this line) lines

abbrev pub first_outside : ℕ → List Line → Option AsmFault
first_outside size lines = first_outside_from size (placed lines) 1 (unplaced (placed lines)) lines
