-- Fields by the places that name them (own; A24-1403, "Word Mark", "Indexing").
use Rattle.std.specs.Prelude.{◌≡◌, ℕ, if◌then◌else◌, List, take, Option, None, Some, Result, Ok}
use Rattle.autocoder_listing.specs.declared.symbol_table.Symbol.{Symbol}
use Rattle.bcd_1401.specs.declared.cell.Cell.{Cell}
use Rattle.core_1401.specs.Field.{cells_down, field_at}
use Rattle.core_1401.specs.Storage.{Storage}
use Rattle.cpu_1401.specs.State.{State}
use Rattle.operate_orders.specs.declared.places.Base.{Base}
use Rattle.operate_orders.specs.declared.places.Base.TheVariants as base
use Rattle.operate_orders.specs.declared.places.IndexRegister.{IndexRegister}
use Rattle.operate_orders.specs.declared.places.Place.{Place}
use Rattle.operate_program.specs.Known.{Known, symbol_named}
use Rattle.operate_program.specs.Value.{◌>>=◌, address_of, index_name, is_unadjusted, units_place}
use Rattle.operate_program.specs.declared.fault.PlaceFault.{PlaceFault}
use Rattle.operate_program.specs.declared.field.Field.{Field}
use Rattle.operate_program.specs.declared.field.Field.TheVariants.{Marked, Index}
use Rattle.operate_views.specs.FieldFault.{IsFieldFault}
use Rattle.operate_views.specs.declared.fault.FieldFault.{FieldFault}
use Rattle.operate_views.specs.declared.fault.FieldFault.TheVariants.{Memory}

-- the units place of a field
abbrev pub units_of : Field → ℕ
units_of (Marked at) = at
units_of (Index register) = units_place register

-- the cells of a field, units first: down to the first word mark, or the three of an index register
abbrev pub cells_of : Storage → Field → Option (List Cell)
cells_of storage (Marked at) = field_at storage at
cells_of storage (Index register) = Some (take 3 (cells_down storage (units_place register)))

-- the fault of a field is so; an index register has none
abbrev pub IsFaultOf : Storage → Field → FieldFault → Type 0
IsFaultOf storage (Marked at) why = IsFieldFault storage at why
IsFaultOf storage (Index register) why = why ≡ Memory

abbrev register_if : IndexRegister → Option Symbol → Option IndexRegister
register_if register None = Some register
register_if register (Some symbol) = None

-- the index register whose name an address begins with, unless it is that of a label
abbrev pub register_at : List Symbol → Base → Option IndexRegister
register_at symbols (base.Number number) = None
register_at symbols (base.Label label) = None
register_at symbols (base.Line number) = None
register_at symbols (base.Index register) = register_if register (symbol_named symbols (index_name register))
register_at symbols (base.Held register) = None

-- the index register that a place is by its name alone
unfoldable pub register_named : List Symbol → Place → Option IndexRegister
register_named symbols place = if is_unadjusted place then register_at symbols place.base else None

abbrev marked_at : ℕ → Result Field PlaceFault
marked_at at = Ok (Marked at)

abbrev register_or : Known → State → Place → Option IndexRegister → Result Field PlaceFault
register_or known s place (Some register) = Ok (Index register)
register_or known s place None = do
  at ← address_of known s place
  marked_at at

-- the field that a place names now
unfoldable pub field_of : Known → State → Place → Result Field PlaceFault
field_of known s place = register_or known s place (register_named known.symbols place)
