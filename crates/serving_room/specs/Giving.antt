-- The commands of a journal, given again by the seats of a room (own).
use Rattle.std.specs.Prelude.{◌≡◌, ℕ, ◌+◌, ◌≤◌, nat_lt, ◌||◌, max, if◌then◌else◌, List, [], ◌∷◌, ◌++◌, Option, None}
use Rattle.std.specs.Prelude.{Some}
use Rattle.machine_commands.specs.declared.answer.Answer.{Answer}
use Rattle.room_alone.specs.declared.entry.Entry.{Entry}
use Rattle.room_1401.specs.Seen.{SeatView, Carries}
use Rattle.serving_room.specs.declared.giving.GiveFault.{GiveFault}
use Rattle.serving_room.specs.declared.giving.GiveFault.TheVariants as fault

-- the seat of the first of these entries that is of no seat from the least to the most
abbrev pub foreign_in : ℕ → ℕ → List Entry → Option ℕ
foreign_in least most [] = None
foreign_in least most (entry ∷ entries) =
    if nat_lt entry.seat least || nat_lt most entry.seat then Some entry.seat else foreign_in least most entries

-- an entry is of one of the seats from the least to the most
abbrev pub IsSeated : ℕ → ℕ → Entry → Type 0
IsSeated least most entry = (least ≤ entry.seat) × (entry.seat ≤ most)

-- why commands aren't given again, if this seat is the first that the room hasn't
abbrev pub IsWhyNotGiven : Option ℕ → GiveFault → Type 0
IsWhyNotGiven foreign (fault.NoSeat seat) = foreign ≡ Some seat
IsWhyNotGiven foreign (fault.Refused why) = foreign ≡ None

-- the seat that gives an entry's command: a console's, which is seat 0, is given by the first
abbrev pub giver : Entry → ℕ
giver entry = max entry.seat 1

-- One of these seats gave the command of an entry, and the others are as they were.
pub record Gives (size : ℕ) (entry : Entry) (old new : List SeatView) : Type 0 where
  pub front : List SeatView
  pub beyond : List SeatView
  pub before : SeatView
  pub after : SeatView
  pub old_is : old ≡ front ++ before ∷ beyond
  pub new_is : new ≡ front ++ after ∷ beyond
  pub of : before.number ≡ giver entry
  pub number : after.number ≡ before.number
  pub made : after.made ≡ before.made + 1
  pub answer : Answer
  pub carried : Carries size before.list after.list before.number entry.command answer

-- These seats gave the commands of all entries in turn.
abbrev pub GiveAll : ℕ → List Entry → List SeatView → List SeatView → Type 0
GiveAll size [] old new = old ≡ new
GiveAll size (entry ∷ entries) old new =
    (seats : List SeatView) × Gives size entry old seats × GiveAll size entries seats new
