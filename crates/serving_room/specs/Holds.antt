-- A machine that one page holds: meanwhile no other page gives it lines (own). Times are in seconds.
use Rattle.std.specs.Prelude.{ℕ, ◌==◌, nat_le, nat_lt, Bool, true, false, not, ◌&&◌, if◌then◌else◌, List, [], ◌∷◌, ◌++◌, codes}
use Rattle.std.specs.Prelude.{◌-◌, Option, None, Some}
use Rattle.machine_notation.specs.Digits.{digits_in}
use Rattle.serving_room.specs.declared.hold.Hold.{Hold}
use Rattle.serving_room.specs.declared.last.Last.{Last}
use Rattle.serving_room.specs.Lasts.{act_text}

-- how many seconds a hold still has: 60 from its beginning on, if its page was seen within the last 5
abbrev pub seconds_held : Hold → ℕ → ℕ
seconds_held hold now =
    if nat_le hold.since now && nat_lt (now - hold.seen) 5 then 60 - (now - hold.since) else 0

-- the hold that still goes on
abbrev pub going_on : Option Hold → ℕ → Option Hold
going_on None now = None
going_on (Some hold) now = if nat_lt 0 (seconds_held hold now) then Some hold else None

-- the hold after a page asked for one: its own, unless one goes on
abbrev pub held_by : Option Hold → ℕ → ℕ → Option Hold
held_by None seat now = Some (record { seat = seat; since = now; seen = now })
held_by (Some hold) seat now = Some hold

-- the hold after a page ended its own
abbrev pub ended_by : Option Hold → ℕ → Option Hold
ended_by None seat = None
ended_by (Some hold) seat = if hold.seat == seat then None else Some hold

-- the hold after a page was seen
abbrev pub seen_by : Option Hold → ℕ → ℕ → Option Hold
seen_by None seat now = None
seen_by (Some hold) seat now =
    if hold.seat == seat then Some (record { seat = seat; since = hold.since; seen = now }) else Some hold

-- another page than that of this seat holds the machine
abbrev pub is_kept_off : Option Hold → ℕ → Bool
is_kept_off None seat = false
is_kept_off (Some hold) seat = not (hold.seat == seat)

-- who holds the machine, and for how many seconds
abbrev pub hold_line : Option Hold → ℕ → List ℕ
hold_line None now = codes "HOLD FREE\n"
hold_line (Some hold) now =
    codes "HOLD " ++ digits_in 1 hold.seat ++ codes " FOR " ++ digits_in 1 (seconds_held hold now) ++ codes "\n"

-- the last command, and the seat that gave it
abbrev pub last_line : Option Last → List ℕ
last_line None = codes "LAST NONE\n"
last_line (Some last) = codes "LAST " ++ digits_in 1 last.seat ++ codes " " ++ act_text last.act ++ codes "\n"

-- numbers of seats
abbrev pub numbers_text : List ℕ → List ℕ
numbers_text [] = []
numbers_text (number ∷ numbers) = codes " " ++ digits_in 1 number ++ numbers_text numbers

-- the seats at which somebody sits
abbrev pub taken_line : List ℕ → List ℕ
taken_line taken = codes "TAKEN" ++ numbers_text taken ++ codes "\n"

-- whether the room was begun with an image or with cards
abbrev pub beginning_line : Bool → List ℕ
beginning_line prepared = if prepared then codes "BEGAN PREPARED\n" else codes "BEGAN PLAIN\n"
