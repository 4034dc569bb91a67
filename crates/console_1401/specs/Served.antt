-- What a shared room that listened for its consoles says of them (own).
use Rattle.std.specs.Prelude.{◌≡◌, ℕ, ◌<◌, List, map, Option, None, Some}
use Rattle.room_1401.specs.Seen.{SeatView, newcomers}
use Rattle.console_1401.specs.declared.serving.ServeFault.{ServeFault}
use Rattle.console_1401.specs.declared.serving.ServeFault.TheVariants.{Accept, Thread}

-- the numbers of these seats
abbrev pub numbers_of : List SeatView → List ℕ
numbers_of seats = map (λ (seat : SeatView). seat.number) seats

-- all seats of a room that has this number of them, in the order of their numbers
abbrev pub AreAllSeats : ℕ → List SeatView → Type 0
AreAllSeats n seats = numbers_of seats ≡ numbers_of (newcomers n)

-- each seat had its console, or for a fault not all of them had
abbrev pub CountsConsoles : ℕ → ℕ → Option ServeFault → Type 0
CountsConsoles seats consoles None = consoles ≡ seats
CountsConsoles seats consoles (Some fault) = consoles < seats

-- the number of a fault
abbrev pub serve_fault_number : ServeFault → ℕ
serve_fault_number Accept = 1
serve_fault_number Thread = 2
