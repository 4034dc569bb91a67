-- The places of a served room's seats (own).
use Rattle.std.specs.Prelude.{ℕ, ◌-◌, ◌<◌, ◌≤◌, Bool, true, false, not, ◌&&◌, if◌then◌else◌, is_some, List, [], ◌∷◌}
use Rattle.std.specs.Prelude.{◌≡◌, get_or, map, slice_set, Option, None, Some}
use Rattle.std.specs.List.{Contains}
use Rattle.room_1401.specs.Seen.{SeatView}
use Rattle.serving_room.specs.declared.desk.Admission.{Admission}
use Rattle.serving_room.specs.declared.desk.Admission.TheVariants as admission
use Rattle.serving_room.specs.declared.fault.SeatsFault.{SeatsFault}
use Rattle.serving_room.specs.declared.input.InputEnd.{InputEnd}
use Rattle.serving_room.specs.declared.input.InputEnd.TheVariants as input
use Rattle.serving_room.specs.declared.fault.SeatsFault.TheVariants.{Input}

-- what contracts see of a place: its number, its seat if that is there, and whether it is given to a connection
pub record PlaceView : Type 0 where
  pub number : ℕ
  pub seat : Option SeatView
  pub is_given : Bool

-- the free place of a seat
abbrev pub free_place : SeatView → PlaceView
free_place seat = record { number = seat.number; seat = Some seat; is_given = false }

-- the seat is there
abbrev pub has_seat : PlaceView → Bool
has_seat place = is_some place.seat

-- the seat is there, and no connection has the place
abbrev pub is_free : PlaceView → Bool
is_free place = has_seat place && not place.is_given

-- a place that is given to a connection
abbrev pub given : PlaceView → PlaceView
given place = record { number = place.number; seat = place.seat; is_given = true }

-- a place that no connection has any more
abbrev pub taken_back : PlaceView → PlaceView
taken_back place = record { number = place.number; seat = place.seat; is_given = false }

-- a place whose seat was taken
abbrev pub without_seat : PlaceView → PlaceView
without_seat place = record { number = place.number; seat = None; is_given = place.is_given }

-- the seat of a place that no connection has
abbrev pub free_seat : PlaceView → Option SeatView
free_seat place = if place.is_given then None else place.seat

-- a place whose seat was taken, if no connection has the place
abbrev pub without_free_seat : PlaceView → PlaceView
without_free_seat place = if place.is_given then place else without_seat place

-- a place to which its seat has come back, and which is free
abbrev pub with_seat : SeatView → PlaceView → PlaceView
with_seat seat place = record { number = place.number; seat = Some seat; is_given = false }

-- what contracts see of a desk: the places in the order of their numbers, from 1 on, what went wrong first, and whether
-- the room is being closed
pub record DeskView : Type 0 where
  pub places : List PlaceView
  pub fault : Option SeatsFault
  pub is_closing : Bool

-- the numbers of these places
abbrev pub numbers_in : List PlaceView → List ℕ
numbers_in places = map (λ (place : PlaceView). place.number) places

-- the number of the first place that is free
abbrev pub lowest_free : List PlaceView → Option ℕ
lowest_free [] = None
lowest_free (place ∷ places) = if is_free place then Some place.number else lowest_free places

-- the numbers of the places that aren't free
abbrev pub taken_in : List PlaceView → List ℕ
taken_in [] = []
taken_in (place ∷ places) = if is_free place then taken_in places else place.number ∷ taken_in places

-- no place at all
abbrev pub nowhere : PlaceView
nowhere = record { number = 0; seat = None; is_given = false }

-- the place of this number
abbrev pub place_at : ℕ → List PlaceView → PlaceView
place_at number places = get_or places (number - 1) nowhere

-- a desk at which the place of this number has changed so, and nothing else has
abbrev pub with_place : ℕ → (PlaceView → PlaceView) → DeskView → DeskView
with_place number change desk = record desk {
  places = slice_set desk.places (number - 1) (change (place_at number desk.places));
}

-- what went wrong first, if this did now
abbrev pub first_fault : Option SeatsFault → SeatsFault → SeatsFault
first_fault None fault = fault
first_fault (Some before) fault = before

-- a desk at which this went wrong
abbrev pub noted : SeatsFault → DeskView → DeskView
noted fault desk = record desk { fault = Some (first_fault desk.fault fault) }

-- a desk once the input has ended so
abbrev pub after_input : InputEnd → DeskView → DeskView
after_input input.Quit desk = desk
after_input input.End desk = desk
after_input input.Failed desk = noted Input desk

-- a desk of a room that is being closed, since the input has ended so
abbrev pub closed : InputEnd → DeskView → DeskView
closed end desk = record (after_input end desk) { is_closing = true }

-- what is at these places: a seat at each that has its own
abbrev pub seats_in : List PlaceView → List (Option SeatView)
seats_in places = map (λ (place : PlaceView). place.seat) places

-- each of these places has its seat, and these are they
abbrev pub AreBack : List PlaceView → List SeatView → Type 0
AreBack places seats = seats_in places ≡ map (λ (seat : SeatView). Some seat) seats

-- one of these places hasn't its seat
abbrev pub IsOneMissing : List PlaceView → Type 0
IsOneMissing places = Contains (seats_in places) None

-- what becomes of a connection for which this is the lowest free seat
abbrev pub admission_to : Option ℕ → Admission
admission_to None = admission.Full
admission_to (Some number) = admission.Given number

-- what becomes of a connection: it has the lowest free seat, unless the room is being closed
abbrev pub admission_at : DeskView → Admission
admission_at desk = if desk.is_closing then admission.Closing else admission_to (lowest_free desk.places)

-- a desk after that: the place of the seat is given, and nothing else has changed
abbrev pub after_admission : Admission → DeskView → DeskView
after_admission (admission.Given number) desk = with_place number given desk
after_admission admission.Full desk = desk
after_admission admission.Closing desk = desk

-- a connection is given a seat of this many
abbrev pub IsAdmission : ℕ → Admission → Type 0
IsAdmission seats (admission.Given number) = (0 < number) × (number ≤ seats)
IsAdmission seats admission.Full = Unit {0}
IsAdmission seats admission.Closing = Unit {0}
