-- Places and the numbers of their seats.
use Rattle.std.proofs.Common.{◌≡◌, ℕ, zero, suc, ◌+◌, ◌-◌, ◌<◌, ◌≤◌, ◌⊎◌, inl, inr, Bool, true, false, if◌then◌else◌}
use Rattle.std.proofs.Common.{List, [], ◌∷◌, ◌++◌, length, map, get_or, slice_set, Option, Some, None}
use Rattle.std.proofs.Common.{refl, sym, ap, ◌∙◌, arith}
use Rattle.std.proofs.lemmas.Bool.{cases_lt}
use Rattle.std.proofs.lemmas.Option.{same_Some}
use Rattle.std.proofs.lemmas.List.{get_or-map, get_or_append_left, get_or_default, get_or_push, get_or_read, length-map}
use Rattle.std.proofs.lemmas.List.{length_push, map-append}
use Rattle.std.proofs.Math.Seq.{map-set_same}
use Rattle.std.specs.List.{Contains}
use Rattle.room_1401.specs.Seen.{SeatView, newcomer, newcomers}
use Rattle.console_1401.specs.Served.{numbers_of}
use Rattle.serving_room.specs.declared.fault.SeatsFault.{SeatsFault}
use Rattle.serving_room.specs.Places.{AreBack, DeskView, IsOneMissing, PlaceView, free_place, is_free, lowest_free}
use Rattle.serving_room.specs.Places.{nowhere, numbers_in, place_at, with_place, without_free_seat, without_seat}

numbers_more : (n : ℕ) → numbers_of (newcomers (suc n)) ≡ numbers_of (newcomers n) ++ suc n ∷ []
numbers_more n = map-append (λ (seat : SeatView). seat.number) (newcomers n) (newcomer (suc n) ∷ [])

-- a room has as many seats as numbers
length_numbers : (n : ℕ) → length (numbers_of (newcomers n)) ≡ n
length_numbers zero = refl
length_numbers (suc n) =
    omega (arith, ap length (numbers_more n), length_push (numbers_of (newcomers n)) (suc n), length_numbers n)

number_by : (n k : ℕ) → (k < n) ⊎ (n ≤ k) → k < suc n → (k < n → get_or (numbers_of (newcomers n)) k 0 ≡ k + 1)
    → get_or (numbers_of (newcomers n) ++ suc n ∷ []) k 0 ≡ k + 1
number_by n k (inl before) less more =
    get_or_append_left (numbers_of (newcomers n)) (suc n ∷ []) 0 k (omega (arith, length_numbers n)) ∙ more before
number_by n k (inr last) less more =
    get_or_push (numbers_of (newcomers n)) (suc n) 0 k (omega (arith, length_numbers n)) ∙ omega arith

-- the seat at a place has the next number
pub number_at : (n k : ℕ) → k < n → get_or (numbers_of (newcomers n)) k 0 ≡ k + 1
number_at zero k less = absurd (omega arith)
number_at (suc n) k less =
    ap (λ numbers. get_or numbers k 0) (numbers_more n) ∙ number_by n k (cases_lt k n) less (number_at n k)

-- all seats are as many as the room has
pub length_seats : (n : ℕ) (seats : List SeatView) → numbers_of seats ≡ numbers_of (newcomers n) → length seats ≡ n
length_seats n seats all =
    sym (length-map seats (λ (seat : SeatView). seat.number)) ∙ ap length all ∙ length_numbers n

-- all places are as many as the seats
pub length_places : (n : ℕ) (places : List PlaceView) → numbers_in places ≡ numbers_of (newcomers n) → length places ≡ n
length_places n places all =
    sym (length-map places (λ (place : PlaceView). place.number)) ∙ ap length all ∙ length_numbers n

-- the place at an index is that of the next number
place_number : (n : ℕ) (places : List PlaceView) (k : ℕ) (d : PlaceView)
    → numbers_in places ≡ numbers_of (newcomers n) → k < n → (get_or places k d).number ≡ k + 1
place_number n places k d all less =
    sym (get_or-map (λ (place : PlaceView). place.number) places k d 0 (omega (arith, length_places n places all)))
    ∙ ap (λ numbers. get_or numbers k 0) all ∙ number_at n k less

-- the place that an index gives
pub indexed_number : (n : ℕ) (places : List PlaceView) (k : ℕ) (place : PlaceView)
    → numbers_in places ≡ numbers_of (newcomers n) → k < n → place ≡ get_or places k place → place.number ≡ k + 1
indexed_number n places k place all less is =
    ap (λ (it : PlaceView). it.number) is ∙ place_number n places k place all less

-- the numbers stay if a place changes and keeps its number
pub numbers_stay : (places : List PlaceView) (k : ℕ) (new d : PlaceView) → new.number ≡ (get_or places k d).number
    → numbers_in (slice_set places k new) ≡ numbers_in places
numbers_stay places k new d same = map-set_same (λ (place : PlaceView). place.number) places k new d same

-- the place that is read at the index of a number
pub place_read : (places : List PlaceView) (number : ℕ) (place : PlaceView) → number - 1 < length places
    → place ≡ get_or places (number - 1) place → place ≡ place_at number places
place_read places number place inside is = get_or_read places (number - 1) place inside is nowhere

-- what contracts see of a desk with these places and this fault
abbrev pub desk_of : List PlaceView → Option SeatsFault → Bool → DeskView
desk_of places fault is_closing = record { places = places; fault = fault; is_closing = is_closing }

-- a desk at which the place that was read has changed
pub changed : (places : List PlaceView) (fault : Option SeatsFault) (is_closing : Bool) (number at : ℕ)
    (change : PlaceView → PlaceView) (place new : PlaceView) (desk : DeskView)
    → desk_of places fault is_closing ≡ desk → at ≡ number → at - 1 < length places
    → place ≡ get_or places (at - 1) place → new ≡ change place
    → desk_of (slice_set places (at - 1) new) fault is_closing ≡ with_place number change desk
changed places fault is_closing number at change place new desk view same inside is done =
    ap (λ after. desk_of (slice_set places (at - 1) after) fault is_closing)
    (done ∙ ap change (place_read places at place inside is))
    ∙ ap (λ of. with_place of change (desk_of places fault is_closing)) same
    ∙ ap (with_place number change) view

kept_by : (is_given : Bool) (place : PlaceView)
    → (if is_given then place else without_seat place).number ≡ place.number
kept_by true place = refl
kept_by false place = refl

-- a place keeps its number when its free seat is taken
pub number_kept : (place : PlaceView) → (without_free_seat place).number ≡ place.number
number_kept place = kept_by place.is_given place

lowest_by : (test : Bool) (place : PlaceView) (places : List PlaceView) (number : ℕ) → is_free place ≡ test
    → (lowest_free places ≡ Some number → Contains (numbers_in places) number)
    → lowest_free (place ∷ places) ≡ Some number → Contains (numbers_in (place ∷ places)) number
lowest_by true place places number is more found =
    let first = ap (λ (test : Bool). if test then Some place.number else lowest_free places) is in
    (0, omega arith, same_Some place.number number (sym first ∙ found))
lowest_by false place places number is more found =
    let rest = ap (λ (test : Bool). if test then Some place.number else lowest_free places) is in
    let there = more (sym rest ∙ found) in
    (suc there.0, omega (arith, there.1), there.2)

-- the first free place is one of these
lowest_in : (places : List PlaceView) (number : ℕ) → lowest_free places ≡ Some number
    → Contains (numbers_in places) number
lowest_in [] number found = cc
lowest_in (place ∷ places) number found =
    lowest_by (is_free place) place places number refl (lowest_in places number) found

-- and so it is that of a seat
pub lowest_bound : (n : ℕ) (places : List PlaceView) (number : ℕ) → numbers_in places ≡ numbers_of (newcomers n)
    → lowest_free places ≡ Some number → (0 < number) × (number ≤ n)
lowest_bound n places number all found =
    let there = lowest_in places number found in
    let at : ℕ = there.0 in
    let less : at < n = omega (arith, there.1, ap length all, length_numbers n) in
    let is : number ≡ at + 1 =
    sym there.2 ∙ ap (λ numbers. get_or numbers at number) all
    ∙ get_or_default (numbers_of (newcomers n)) at number 0 (omega (arith, less, length_numbers n))
    ∙ number_at n at less in
    (omega (arith, is), omega (arith, is, less))

-- the free places of seats have their numbers
pub numbers_free : (seats : List SeatView) → numbers_in (map free_place seats) ≡ numbers_of seats
numbers_free [] = refl
numbers_free (seat ∷ seats) = ap (λ numbers. seat.number ∷ numbers) (numbers_free seats)

-- one free place more
pub free_more : (places : List PlaceView) (seats : List SeatView) (place : PlaceView) (seat : SeatView)
    → places ≡ map free_place seats → place ≡ free_place seat
    → places ++ place ∷ [] ≡ map free_place (seats ++ seat ∷ [])
free_more places seats place seat all one =
    ap (λ before. before ++ place ∷ []) all ∙ ap (λ last. map free_place seats ++ last ∷ []) one
    ∙ sym (map-append free_place seats (seat ∷ []))

-- one seat more is back, of a place
pub numbers_more_back : (places : List PlaceView) (seats : List SeatView) (place : PlaceView) (seat : SeatView)
    → numbers_of seats ≡ numbers_in places → seat.number ≡ place.number
    → numbers_of (seats ++ seat ∷ []) ≡ numbers_in (places ++ place ∷ [])
numbers_more_back places seats place seat all one =
    map-append (λ (it : SeatView). it.number) seats (seat ∷ [])
    ∙ ap (λ numbers. numbers ++ seat.number ∷ []) all ∙ ap (λ number. numbers_in places ++ number ∷ []) one
    ∙ sym (map-append (λ (it : PlaceView). it.number) places (place ∷ []))

pub back_more : (places : List PlaceView) (seats : List SeatView) (place : PlaceView) (seat : SeatView)
    → AreBack places seats → place.seat ≡ Some seat → AreBack (places ++ place ∷ []) (seats ++ seat ∷ [])
back_more places seats place seat all one =
    map-append (λ (it : PlaceView). it.seat) places (place ∷ [])
    ∙ ap (λ before. before ++ place.seat ∷ []) all
    ∙ ap (λ last. map (λ (it : SeatView). Some it) seats ++ last ∷ []) one
    ∙ sym (map-append (λ (it : SeatView). Some it) seats (seat ∷ []))

-- a place without its seat is one of these
pub one_missing : (places : List PlaceView) (at : ℕ) (place : PlaceView) → at < length places
    → place ≡ get_or places at place → place.seat ≡ None → IsOneMissing places
one_missing places at place inside is none = (
  at,
  omega (arith, inside, length-map places (λ (it : PlaceView). it.seat)),
  get_or-map (λ (it : PlaceView). it.seat) places at place None inside
      ∙ ap (λ (it : PlaceView). it.seat) (sym is) ∙ none,
)
