-- What closing a shared room says of its seats (own).
use Rattle.std.specs.Prelude.{◌≡◌, ℕ, zero, suc, ◌+◌, ◌≤◌, ◌<◌, ◌==◌, ◌||◌, ◌⊎◌, Bool, true, false, cond}
use Rattle.std.specs.Prelude.{List, [], ◌∷◌, length}
use mathlib.Core.List.{IsPrefix}
use Rattle.room_alone.specs.declared.entry.SeatedCommand.{SeatedCommand}
use Rattle.room_alone.specs.declared.entry.Entry.{Entry}
use Rattle.room_1401.specs.declared.fault.CloseFault.{CloseFault}
use Rattle.room_1401.specs.declared.fault.CloseFault.TheVariants.{Unreturned, NoReading}
use Rattle.room_alone.specs.Journal.{pairs_of}
use Rattle.room_1401.specs.Seen.{SeatView, own}

-- whether a seat of this number is there
abbrev pub has_seat : ℕ → List SeatView → Bool
has_seat number [] = false
has_seat number (seat ∷ seats) = (seat.number == number) || has_seat number seats

-- how many of the numbers from 1 to n have a seat there
abbrev pub back_of : ℕ → List SeatView → ℕ
back_of zero seats = 0
back_of (suc n) seats = cond (has_seat (suc n) seats) 1 0 + back_of n seats

-- how many commands these seats made together
abbrev pub made_of : List SeatView → ℕ
made_of [] = 0
made_of (seat ∷ seats) = seat.made + made_of seats

-- What each seat has seen is a prefix of the commands, in which it has at least what it made.
abbrev pub AllFit : List SeatedCommand → List SeatView → Type 0
AllFit pairs [] = Unit {0}
AllFit pairs (seat ∷ seats) =
    (IsPrefix seat.list pairs × (seat.made ≤ own seat.number pairs)) × AllFit pairs seats

-- One of the seats has seen more commands than these.
abbrev pub OneBeyond : List SeatedCommand → List SeatView → Type 0
OneBeyond pairs [] = ⊥
OneBeyond pairs (seat ∷ seats) = (length pairs < length seat.list) ⊎ OneBeyond pairs seats

-- What each seat has seen is a prefix of the commands, in which it has exactly what it made.
abbrev pub AllExact : List SeatedCommand → List SeatView → Type 0
AllExact pairs [] = Unit {0}
AllExact pairs (seat ∷ seats) =
    (IsPrefix seat.list pairs × (own seat.number pairs ≡ seat.made)) × AllExact pairs seats

-- Each command is of one of the seats.
abbrev pub AllSeated : List SeatView → List SeatedCommand → Type 0
AllSeated seats [] = Unit {0}
AllSeated seats (pair ∷ pairs) = (has_seat pair.seat seats ≡ true) × AllSeated seats pairs

-- Each command of a closed journal is of one of the seats. What each seat has seen is a prefix of the journal, in which
-- it has exactly what it made; so the journal is as long as all that they made.
pub record IsSettled (journal : List Entry) (seats : List SeatView) : Type 0 where
  pub seated : AllSeated seats (pairs_of journal)
  pub exact : AllExact (pairs_of journal) seats
  pub made : length journal ≡ made_of seats

-- Why a room of n seats wasn't closed: not all of their numbers are back; or all are, and one has seen more commands
-- than are shown at some moment.
abbrev pub ClosesBy : (List SeatedCommand → Type 0) → ℕ → List SeatView → CloseFault → Type 0
ClosesBy Shown n seats (Unreturned back total) = (back ≡ back_of n seats) × (total ≡ n) × (back < n)
ClosesBy Shown n seats NoReading =
    (back_of n seats ≡ n) × ((shown : List SeatedCommand) × Shown shown × OneBeyond shown seats)
