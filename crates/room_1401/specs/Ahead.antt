-- A command that is carried out before the room's machine moves (own).
use Rattle.std.specs.Prelude.{◌≡◌, ℕ, List, length}
use Rattle.cpu_1401.specs.State.{State}
use Rattle.machine_commands.specs.declared.answer.Answer.{Answer}
use Rattle.machine_commands.specs.declared.command.Command.{Command}
use Rattle.cpu_1401.specs.CarryOut.{carry_out}
use Rattle.room_alone.specs.declared.entry.Entry.{Entry}
use Rattle.room_alone.specs.Journal.{answer_to, state_of}

-- the machine of a room of this size with this journal, after a command
abbrev pub state_ahead : ℕ → List Entry → Command → State
state_ahead size journal command = (carry_out (state_of size journal) command).state

-- The machine is the one that the room's becomes by the command, and this is the answer.
pub record IsAhead (size : ℕ) (journal : List Entry) (command : Command) (machine : State) (answer : Answer)
    : Type 0 where
  pub machine_is : machine ≡ state_ahead size journal command
  pub storage : length machine.storage ≡ size
  pub answer_is : answer ≡ answer_to size journal command
