-- What a seat of a shared room knows (own).
use Rattle.std.specs.Prelude.{◌≡◌, ℕ, zero, suc, ◌+◌, ◌==◌, cond, List, [], ◌∷◌, ◌++◌}
use mathlib.Core.List.{IsPrefix}
use Rattle.machine_commands.specs.declared.answer.Answer.{Answer}
use Rattle.machine_commands.specs.declared.command.Command.{Command}
use Rattle.room_alone.specs.declared.entry.SeatedCommand.{SeatedCommand}
use Rattle.room_alone.specs.Replay.{pair, reply_to}

-- its number, how many of its commands were carried out, and the commands that it has seen, oldest first
pub record SeatView : Type 0 where
  pub number : ℕ
  pub made : ℕ
  pub list : List SeatedCommand

-- how many of these commands are of a seat
abbrev pub own : ℕ → List SeatedCommand → ℕ
own seat [] = 0
own seat (pair ∷ pairs) = cond (pair.seat == seat) 1 0 + own seat pairs

-- A list goes on to another one, which ends with this command of the seat. It is answered as the sequential machine of
-- this size answers it after the commands before it.
pub record Carries (size : ℕ) (before after : List SeatedCommand) (seat : ℕ) (command : Command) (answer : Answer)
    : Type 0 where
  pub front : List SeatedCommand
  pub begins : IsPrefix before front
  pub ends : after ≡ front ++ pair seat command ∷ []
  pub answered : answer ≡ reply_to size front command

-- a seat of a new room: it made nothing and has seen nothing
abbrev pub newcomer : ℕ → SeatView
newcomer number = record { number = number; made = 0; list = [] }

-- the seats of a new room, numbered from 1 in order
abbrev pub newcomers : ℕ → List SeatView
newcomers zero = []
newcomers (suc n) = newcomers n ++ newcomer (suc n) ∷ []

-- the most seats that a shared room has
abbrev pub most_seats : ℕ
most_seats = 8
