-- How many seats a room has.
use Rattle.std.proofs.Common.{◌≡◌, ℕ, zero, suc, List, length, refl, ◌∙◌, sym, ap, arith}
use Rattle.std.proofs.lemmas.List.{length-map, length_push}
use Rattle.room_1401.specs.Seen.{SeatView, newcomer, newcomers}
use Rattle.console_1401.specs.Served.{AreAllSeats, numbers_of}

length_newcomers : (n : ℕ) → length (newcomers n) ≡ n
length_newcomers zero = refl
length_newcomers (suc n) = omega (arith, length_push (newcomers n) (newcomer (suc n)), length_newcomers n)

length_numbers : (seats : List SeatView) → length (numbers_of seats) ≡ length seats
length_numbers seats = length-map seats (λ (seat : SeatView). seat.number)

-- all seats of a room are as many as it has
pub length_all : (n : ℕ) (seats : List SeatView) → AreAllSeats n seats → length seats ≡ n
length_all n seats all =
    sym (length_numbers seats) ∙ ap length all ∙ length_numbers (newcomers n) ∙ length_newcomers n
