-- The addresses that places mean now (own; A24-1403, "Indexing").
use Rattle.std.specs.Prelude.{ℕ, ◌+◌, ◌-◌, ◌==◌, nat_lt, ℤ, pos, nat_abs, int_le, int_lt, Bool, ◌&&◌, if◌then◌else◌}
use Rattle.std.specs.Prelude.{List, length, slice_index_or, Option, None, Some, is_none, Result, Ok, Err, codes}
use Rattle.std.specs.List.{find}
use Rattle.std.specs.Option.{ok_or, option_and_then}
use Rattle.autocoder_listing.specs.declared.rows.Row.{Row}
use Rattle.autocoder_listing.specs.declared.symbol_table.Symbol.{Symbol}
use Rattle.core_1401.specs.Address.{addresses, index_register, indexed_by}
use Rattle.core_1401.specs.Storage.{Storage}
use Rattle.cpu_1401.specs.State.{State}
use Rattle.operate_orders.specs.declared.places.Adjustment.{Adjustment}
use Rattle.operate_orders.specs.declared.places.Adjustment.TheVariants.{Plus, Minus, Indexed}
use Rattle.operate_orders.specs.declared.places.Base.{Base}
use Rattle.operate_orders.specs.declared.places.Base.TheVariants as base
use Rattle.operate_orders.specs.declared.places.IndexRegister.{IndexRegister}
use Rattle.operate_orders.specs.declared.places.IndexRegister.TheVariants.{X1, X2, X3}
use Rattle.operate_orders.specs.declared.places.Place.{Place}
use Rattle.operate_orders.specs.declared.places.Register.{Register}
use Rattle.operate_orders.specs.declared.places.Register.TheVariants.{I, A, B}
use Rattle.operate_orders.specs.Text.{kept}
use Rattle.operate_program.specs.Known.{Known, symbol_named}
use Rattle.operate_program.specs.declared.fault.PlaceFault.{PlaceFault}
use Rattle.operate_program.specs.declared.fault.PlaceFault.TheVariants as fault

infixl 10 ◌>>=◌
-- what is on the left, and if it has no fault, what follows it
abbrev pub ◌>>=◌ : {X Y : Type 0} → Result X PlaceFault → (X → Result Y PlaceFault) → Result Y PlaceFault
Ok value >>= beyond = beyond value
Err fault >>= beyond = Err fault

-- a value as an address, if it is one
unfoldable pub place_of : ℤ → Option ℕ
place_of value = if int_le (pos 0) value && int_lt value (pos addresses) then Some (nat_abs value) else None

abbrev place_of_symbol : List ℕ → Option Symbol → Result ℕ PlaceFault
place_of_symbol label None = Err (fault.Label label)
place_of_symbol label (Some symbol) = ok_or (place_of symbol.value) (fault.NoPlace label)

-- the place that a label names
unfoldable pub label_value : List Symbol → List ℕ → Result ℕ PlaceFault
label_value symbols label = place_of_symbol label (symbol_named symbols label)

-- the row of a line
unfoldable pub row_of_line : List Row → ℕ → Option Row
row_of_line rows number = find (λ (row : Row). row.number == number) rows

-- the first place that a line of the source fills
unfoldable pub line_value : List Row → ℕ → Result ℕ PlaceFault
line_value rows number =
    ok_or (option_and_then (λ (row : Row). place_of row.address) (row_of_line rows number)) (fault.Line number)

abbrev pub index_number : IndexRegister → ℕ
index_number X1 = 1
index_number X2 = 2
index_number X3 = 3

abbrev pub index_name : IndexRegister → List ℕ
index_name X1 = codes "X1"
index_name X2 = codes "X2"
index_name X3 = codes "X3"

-- the units place of an index register
abbrev pub units_place : IndexRegister → ℕ
units_place register = index_register (index_number register) + 2

abbrev place_or_units : IndexRegister → Option Symbol → Result ℕ PlaceFault
place_or_units register None = Ok (units_place register)
place_or_units register (Some symbol) = ok_or (place_of symbol.value) (fault.NoPlace (kept (index_name register)))

-- a place has no adjustment
abbrev pub is_unadjusted : Place → Bool
is_unadjusted place =
    is_none (slice_index_or place.adjustments 0 None) && is_none (slice_index_or place.adjustments 1 None)
    && is_none (slice_index_or place.adjustments 2 None)

-- a label goes before the index register of its name
unfoldable pub index_value : List Symbol → IndexRegister → Result ℕ PlaceFault
index_value symbols register = place_or_units register (symbol_named symbols (index_name register))

-- what a register holds
abbrev pub held_by : State → Register → ℕ
held_by s I = s.i
held_by s A = s.a
held_by s B = s.b

-- what an address begins with is worth
abbrev pub base_value : Known → State → Base → Result ℕ PlaceFault
base_value known s (base.Number number) = Ok number
base_value known s (base.Label label) = label_value known.symbols label
base_value known s (base.Line number) = line_value known.rows number
base_value known s (base.Index register) = index_value known.symbols register
base_value known s (base.Held register) = Ok (held_by s register)

-- an address, and what an index register holds now, as the machine adds them
unfoldable pub indexed_value : Storage → IndexRegister → ℕ → Result ℕ PlaceFault
indexed_value storage register value =
    if nat_lt value addresses then Ok (indexed_by storage value (index_number register))
    else Err (fault.NotInCore value (length storage))

abbrev pub lessened : ℕ → ℕ → Result ℕ PlaceFault
lessened value number = if nat_lt value number then Err fault.BelowZero else Ok (value - number)

-- a value with an adjustment
unfoldable pub adjusted : Storage → Option Adjustment → ℕ → Result ℕ PlaceFault
adjusted storage None value = Ok value
adjusted storage (Some (Plus number)) value = Ok (value + number)
adjusted storage (Some (Minus number)) value = lessened value number
adjusted storage (Some (Indexed register)) value = indexed_value storage register value

-- the number that a place means: where it begins, and its adjustments, first to last
unfoldable pub value_of : Known → State → Place → Result ℕ PlaceFault
value_of known s place = do
  base ← base_value known s place.base
  first ← adjusted s.storage (slice_index_or place.adjustments 0 None) base
  second ← adjusted s.storage (slice_index_or place.adjustments 1 None) first
  adjusted s.storage (slice_index_or place.adjustments 2 None) second

-- an address, if it is that of a place
unfoldable pub in_core : Storage → ℕ → Result ℕ PlaceFault
in_core storage value =
    if nat_lt value (length storage) then Ok value else Err (fault.NotInCore value (length storage))

-- the address that a place means
unfoldable pub address_of : Known → State → Place → Result ℕ PlaceFault
address_of known s place = do
  value ← value_of known s place
  in_core s.storage value
