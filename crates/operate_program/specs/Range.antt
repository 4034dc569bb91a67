-- The places of ranges (own; A24-1403, "Storage Areas").
use Rattle.std.specs.Prelude.{ℕ, ◌+◌, ◌-◌, ◌==◌, nat_le, nat_lt, max, Bool, ◌&&◌, if◌then◌else◌, List, length}
use Rattle.std.specs.Prelude.{Option, None, Some, Result, Ok, Err}
use Rattle.std.specs.List.{list_any}
use Rattle.std.specs.Ordering.{int_eq}
use Rattle.autocoder_listing.specs.declared.rows.Row.{Row}
use Rattle.autocoder_listing.specs.declared.symbol_table.Symbol.{Symbol}
use Rattle.core_1401.specs.Address.{index_register}
use Rattle.core_1401.specs.Storage.{Storage}
use Rattle.cpu_1401.specs.State.{State}
use Rattle.operate_orders.specs.declared.places.Base.{Base}
use Rattle.operate_orders.specs.declared.places.Base.TheVariants as base
use Rattle.operate_orders.specs.Text.{kept}
use Rattle.operate_orders.specs.declared.places.IndexRegister.{IndexRegister}
use Rattle.operate_orders.specs.declared.places.Place.{Place}
use Rattle.operate_orders.specs.declared.ranges.Area.{Area}
use Rattle.operate_orders.specs.declared.ranges.Area.TheVariants.{Read, Punch, Print}
use Rattle.operate_orders.specs.declared.ranges.Range.{Range}
use Rattle.operate_orders.specs.declared.ranges.Range.TheVariants as range
use Rattle.operate_program.specs.Known.{Known, symbol_named}
use Rattle.operate_program.specs.Value.{◌>>=◌, address_of, index_name, index_number, is_unadjusted, place_of}
use Rattle.operate_program.specs.declared.fault.PlaceFault.{PlaceFault}
use Rattle.operate_program.specs.declared.fault.PlaceFault.TheVariants as fault

-- the first of some places, and how many
abbrev pub Places : Type 0
Places = ℕ × ℕ

-- the areas of the reader, the punch and the printer
abbrev pub area_of : Area → Places
area_of Read = (1, 80)
area_of Punch = (101, 80)
area_of Print = (201, 132)

-- so many places, if they are in core
unfoldable pub places_in_core : Storage → ℕ → ℕ → Result Places PlaceFault
places_in_core storage first count =
    if nat_le (first + count) (length storage) then Ok (first, count)
    else Err (fault.NotInCore (first + count - 1) (length storage))

-- the line of a symbol begins at its value, which is the first place of what it names then, and else the last
abbrev pub is_first_of : List Row → Symbol → Bool
is_first_of rows symbol =
    list_any (λ (row : Row). (row.number == symbol.line) && int_eq row.address symbol.value) rows

abbrev one_or_more : Option ℕ → ℕ
one_or_more None = 1
one_or_more (Some length) = max length 1

-- how many places a symbol names: one if it names a value alone
abbrev pub count_named : Symbol → ℕ
count_named symbol = one_or_more symbol.length

-- the first of the places that a symbol with this value names
unfoldable pub first_named : List Row → Symbol → ℕ → ℕ
first_named rows symbol value = if is_first_of rows symbol then value else value + 1 - count_named symbol

abbrev places_from : Storage → List Row → List ℕ → Symbol → Option ℕ → Result Places PlaceFault
places_from storage rows label symbol None = Err (fault.NoPlace label)
places_from storage rows label symbol (Some value) =
    places_in_core storage (first_named rows symbol value) (count_named symbol)

-- the places that a symbol names
unfoldable pub places_named : Storage → List Row → List ℕ → Symbol → Result Places PlaceFault
places_named storage rows label symbol = places_from storage rows label symbol (place_of symbol.value)

abbrev places_of_symbol : Known → Storage → List ℕ → Option Symbol → Result Places PlaceFault
places_of_symbol known storage label None = Err (fault.Label label)
places_of_symbol known storage label (Some symbol) = places_named storage known.rows label symbol

-- the places that a label names
unfoldable pub label_places : Known → Storage → List ℕ → Result Places PlaceFault
label_places known storage label = places_of_symbol known storage label (symbol_named known.symbols label)

abbrev places_to : ℕ → ℕ → Result Places PlaceFault
places_to first last = if nat_lt last first then Err (fault.Backwards first last) else Ok (first, last - first + 1)

abbrev places_of_register : Known → Storage → IndexRegister → Option Symbol → Result Places PlaceFault
places_of_register known storage register None = Ok (index_register (index_number register), 3)
places_of_register known storage register (Some symbol) =
    places_named storage known.rows (kept (index_name register)) symbol

-- the three places of an index register, or those of a label with its name
unfoldable pub index_places : Known → Storage → IndexRegister → Result Places PlaceFault
index_places known storage register =
    places_of_register known storage register (symbol_named known.symbols (index_name register))

-- from a place to another
unfoldable pub between : Known → State → Place → Place → Result Places PlaceFault
between known s first last = do
  first ← address_of known s first
  last ← address_of known s last
  places_to first last

-- so many places, one at least
unfoldable pub counted : Known → State → Place → ℕ → Result Places PlaceFault
counted known s first count = do
  first ← address_of known s first
  places_in_core s.storage first (max count 1)

abbrev place_alone : ℕ → Result Places PlaceFault
place_alone at = Ok (at, 1)

-- the place that an address means
unfoldable pub one_place : Known → State → Place → Result Places PlaceFault
one_place known s place = do
  at ← address_of known s place
  place_alone at

-- a place that begins so, without an adjustment: all places of a label, or of an index register
abbrev pub unadjusted : Known → State → Place → Base → Result Places PlaceFault
unadjusted known s place (base.Label label) = label_places known s.storage label
unadjusted known s place (base.Number number) = one_place known s place
unadjusted known s place (base.Line number) = one_place known s place
unadjusted known s place (base.Index register) = index_places known s.storage register
unadjusted known s place (base.Held register) = one_place known s place

-- a place alone
abbrev pub lone : Known → State → Place → Result Places PlaceFault
lone known s place =
    if is_unadjusted place then unadjusted known s place place.base else one_place known s place

-- the places of a range
abbrev pub range_of : Known → State → Range → Result Places PlaceFault
range_of known s (range.Area area) = Ok (area_of area)
range_of known s (range.Between first last) = between known s first last
range_of known s (range.Counted first count) = counted known s first count
range_of known s (range.At place) = lone known s place
