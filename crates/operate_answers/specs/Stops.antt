-- Breaks and watches together (own): what they remember in a run, how they are counted, set and taken away.
use Rattle.std.specs.Prelude.{ℕ, ◌+◌, ◌-◌, ◌^◌, ◌==◌, min, Bool, true, false, not, nat_lt, if◌then◌else◌, List, [], ◌∷◌, ◌++◌}
use Rattle.std.specs.Prelude.{length, map, filter, slice_index_or, Option, None, Some, is_none, Result, Ok, Err}
use Rattle.std.specs.List.{list_any}
use Rattle.bcd_1401.specs.declared.cell.Cell.{Cell}
use Rattle.cpu_1401.specs.State.{State}
use Rattle.operate_orders.specs.declared.places.Place.{Place}
use Rattle.operate_orders.specs.declared.ranges.Range.{Range}
use Rattle.operate_orders.specs.declared.ranges.Range.TheVariants as range
use Rattle.operate_orders.specs.declared.orders.Watched.{Watched}
use Rattle.operate_orders.specs.declared.orders.Watched.TheVariants as watched
use Rattle.operate_orders.specs.declared.values.Condition.{Condition}
use Rattle.operate_program.specs.Comparison.{condition_of}
use Rattle.operate_program.specs.Field.{cells_of, field_of, units_of}
use Rattle.operate_program.specs.Known.{Known}
use Rattle.operate_program.specs.Range.{Places, range_of}
use Rattle.operate_program.specs.Value.{address_of}
use Rattle.operate_program.specs.declared.comparison.Comparison.{Comparison}
use Rattle.operate_program.specs.declared.fault.PlaceFault.{PlaceFault}
use Rattle.operate_program.specs.declared.field.Field.{Field}
use Rattle.operate_sitting.specs.PlaceWatch.{watch_begun}
use Rattle.operate_sitting.specs.PlaceWatch as place_watch
use Rattle.operate_sitting.specs.declared.device_watch.Device.{Device}
use Rattle.operate_sitting.specs.declared.device_watch.Device.TheVariants.{Reader, Punch, Printer}
use Rattle.operate_views.specs.declared.fault.FieldFault.TheVariants.{NoMark}
use Rattle.operate_answers.specs.StopTest.{is_test_met, test_begun, test_seen}
use Rattle.operate_answers.specs.declared.asked.Asked.{Asked}
use Rattle.operate_answers.specs.declared.asked.Asked.TheVariants as asked
use Rattle.operate_answers.specs.declared.fault.LookFault.{LookFault}
use Rattle.operate_answers.specs.declared.fault.LookFault.TheVariants as fault
use Rattle.operate_answers.specs.declared.stop_test.StopTest.{StopTest}
use Rattle.operate_answers.specs.declared.stop_test.StopTest.TheVariants as test
use Rattle.operate_answers.specs.declared.stops.NumberedStop.{NumberedStop}
use Rattle.operate_answers.specs.declared.stops.Said.{Said}
use Rattle.operate_answers.specs.declared.stops.Said.TheVariants as said

-- the breaks and watches, in the order in which they were set, and the number of the last
pub record AllStops : Type 0 where
  pub stops : List NumberedStop
  pub last : ℕ

abbrev pub no_stops : AllStops
no_stops = record { stops = []; last = 0 }

-- what one of them remembers as a search begins, and after a step
abbrev pub stop_begun : NumberedStop → State → NumberedStop
stop_begun stop s = record stop { test = test_begun stop.test s }

abbrev pub stop_seen : NumberedStop → State → NumberedStop
stop_seen stop s = record stop { test = test_seen stop.test s }

-- what they remember as a search begins
abbrev pub stops_begun : AllStops → State → AllStops
stops_begun all s = record all { stops = map (λ (stop : NumberedStop). stop_begun stop s) all.stops }

-- what they remember after a step
abbrev pub stops_seen : AllStops → State → AllStops
stops_seen all s = record all { stops = map (λ (stop : NumberedStop). stop_seen stop s) all.stops }

-- whether the last step met one of them
abbrev pub is_stop_met : NumberedStop → Bool
is_stop_met stop = is_test_met stop.test

abbrev pub is_any_met : AllStops → Bool
is_any_met all = list_any is_stop_met all.stops

-- it is a break at this address
abbrev pub is_break_test_at : ℕ → StopTest → Bool
is_break_test_at at (test.Arrival it) = it.address == at
is_break_test_at at (test.Places it) = false
is_break_test_at at (test.Device it) = false

abbrev pub is_break_at : ℕ → NumberedStop → Bool
is_break_at at stop = is_break_test_at at stop.test

-- a run ended that its last step met: each of them that it met counts one run more
abbrev pub most_times : ℕ
most_times = 2 ^ 64 - 1

abbrev pub stop_counted : NumberedStop → NumberedStop
stop_counted stop =
    if is_stop_met stop then record stop { times = min (stop.times + 1) most_times } else stop

abbrev pub stops_counted : AllStops → AllStops
stops_counted all = record all { stops = map stop_counted all.stops }

-- the number of the next one: 1 if there is none, else the one after the last
abbrev pub most_number : ℕ
most_number = 2 ^ 32 - 1

abbrev pub next_number : AllStops → ℕ
next_number all = if length all.stops == 0 then 1 else min (all.last + 1) most_number

-- one more
abbrev pub with_stop : Said → StopTest → AllStops → AllStops
with_stop said test all = record {
  stops = all.stops ++ record { number = next_number all; said = said; times = 0; test = test } ∷ [];
  last = next_number all;
}

-- it is a break
abbrev pub is_said_break : Said → Bool
is_said_break (said.Break after condition) = true
is_said_break (said.Watch it) = false

abbrev pub is_break : NumberedStop → Bool
is_break stop = is_said_break stop.said

-- the most breaks that are set at a time, and the most watches
abbrev pub most_of_a_kind : ℕ
most_of_a_kind = 100

-- one more, if so many of its kind aren't too many
abbrev if_few : ℕ → LookFault → Said → StopTest → AllStops → Result AllStops LookFault
if_few count why said test all = if nat_lt count most_of_a_kind then Ok (with_stop said test all) else Err why

-- one more, unless there are as many of its kind as are set at a time
abbrev pub one_more : Said → StopTest → AllStops → Result AllStops LookFault
one_more said test all =
    if is_said_break said then if_few (length (filter is_break all.stops)) fault.Breaks said test all
    else if_few (length all.stops - length (filter is_break all.stops)) fault.Watches said test all

infixl 10 ◌>>=◌
-- what is on the left, and if it has no fault, what follows it
abbrev pub ◌>>=◌ : {X Y : Type 0} → Result X LookFault → (X → Result Y LookFault) → Result Y LookFault
Ok value >>= beyond = beyond value
Err why >>= beyond = Err why

-- what a place means, or its fault
abbrev pub if_place : {X : Type 0} → Result X PlaceFault → Result X LookFault
if_place (Ok it) = Ok it
if_place (Err why) = Err (fault.Place why)

abbrev if_compared : Result Comparison PlaceFault → Result Asked LookFault
if_compared (Ok it) = Ok (asked.Compared it)
if_compared (Err why) = Err (fault.Place why)

-- what must hold where a break is come to
abbrev pub asked_by : Known → State → Option Condition → Result Asked LookFault
asked_by known s None = Ok asked.Anything
asked_by known s (Some condition) = if_compared (condition_of known s condition)

-- a break at an address, at the visit of this number, or at each
abbrev pub break_test : ℕ → Option ℕ → Asked → StopTest
break_test address nth it =
    test.Arrival (record { address = address; condition = it; only = nth; is_met = false })

abbrev break_with : Option ℕ → Option Condition → AllStops → ℕ → Asked → Result AllStops LookFault
break_with nth condition all address it = one_more (said.Break nth condition) (break_test address nth it) all

-- a break more, at the address that its place means now, unless there are 100
unfoldable pub break_added : Known → State → Place → Option ℕ → Option Condition → AllStops → Result AllStops LookFault
break_added known s place nth condition all = do
  address ← if_place (address_of known s place)
  it ← asked_by known s condition
  break_with nth condition all address it

-- the places of a field: the lowest, and how many
abbrev field_places : Field → Option (List Cell) → Result Places LookFault
field_places field None = Err (fault.Field (NoMark (units_of field)))
field_places field (Some cells) = Ok (units_of field + 1 - length cells, length cells)

-- those of the field that a place names now
unfoldable pub places_of_field : Known → State → Place → Result Places LookFault
places_of_field known s place = do
  field ← if_place (field_of known s place)
  field_places field (cells_of s.storage field)

-- the places that a watch names: those of a field, or of a range
abbrev pub watched_places : Known → State → Range → Result Places LookFault
watched_places known s (range.At place) = places_of_field known s place
watched_places known s (range.Area area) = if_place (range_of known s (range.Area area))
watched_places known s (range.Between first last) = if_place (range_of known s (range.Between first last))
watched_places known s (range.Counted first count) = if_place (range_of known s (range.Counted first count))

-- a watch on places, which has seen what they hold
abbrev pub places_test : State → Places → Result StopTest LookFault
places_test s places = Ok (test.Places (watch_begun (place_watch.watched places.0 places.1) s.storage))

-- a watch on a device
abbrev pub device_test : Device → Asked → StopTest
device_test device it = test.Device (record { device = device; condition = it; held = 0; is_met = false })

-- a watch on the places that a range names
unfoldable pub range_test : Known → State → Range → Result StopTest LookFault
range_test known s range = do
  places ← watched_places known s range
  places_test s places

abbrev pub watch_test : Known → State → Watched → Result StopTest LookFault
watch_test known s (watched.Places range) = range_test known s range
watch_test known s (watched.Paper None) = Ok (device_test Printer asked.Anything)
watch_test known s (watched.Paper (Some text)) = Ok (device_test Printer (asked.Printed text))
watch_test known s watched.Reader = Ok (device_test Reader asked.Anything)
watch_test known s watched.Punch = Ok (device_test Punch asked.Anything)

abbrev watch_with : Watched → AllStops → StopTest → Result AllStops LookFault
watch_with it all test = one_more (said.Watch it) test all

-- a watch more, unless there are 100
unfoldable pub watch_added : Known → State → Watched → AllStops → Result AllStops LookFault
watch_added known s it all = do
  test ← watch_test known s it
  watch_with it all test

-- a number is among those that are listed
abbrev pub is_number : ℕ → Option ℕ → Bool
is_number number None = false
is_number number (Some listed) = listed == number

abbrev pub is_listed : List (Option ℕ) → ℕ → Bool
is_listed numbers number = list_any (is_number number) numbers

-- a break or a watch has this number
abbrev pub has_number : List NumberedStop → ℕ → Bool
has_number stops number = list_any (λ (stop : NumberedStop). stop.number == number) stops

abbrev missing_or : List NumberedStop → Option ℕ → Option ℕ → Option ℕ
missing_or stops None later = later
missing_or stops (Some number) later = if has_number stops number then later else Some number

-- the first of the numbers that none has
abbrev pub first_missing : List NumberedStop → List (Option ℕ) → Option ℕ
first_missing stops [] = None
first_missing stops (number ∷ numbers) = missing_or stops number (first_missing stops numbers)

abbrev unless_missing : List (Option ℕ) → AllStops → Option ℕ → Result AllStops LookFault
unless_missing numbers all (Some number) = Err (fault.NoStop number)
unless_missing numbers all None =
    Ok (record all { stops = filter (λ (stop : NumberedStop). not (is_listed numbers stop.number)) all.stops })

-- without those that are listed; without any if none is
unfoldable pub stops_deleted : List (Option ℕ) → AllStops → Result AllStops LookFault
stops_deleted numbers all =
    if is_none (slice_index_or numbers 0 None) then Ok (record all { stops = [] })
    else unless_missing numbers all (first_missing all.stops numbers)
