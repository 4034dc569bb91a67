-- The sequential machine that carries out commands in turn from power-on (own).
use Rattle.std.specs.Prelude.{ℕ, List, [], ◌∷◌}
use Rattle.bcd_1401.specs.declared.cell.Cell.{Cell}
use Rattle.core_1401.specs.Storage.{cell_at}
use Rattle.cpu_1401.specs.State.{State, power_on}
use Rattle.machine_commands.specs.declared.answer.Answer.{Answer}
use Rattle.machine_commands.specs.declared.command.Command.{Command}
use Rattle.room_alone.specs.declared.entry.SeatedCommand.{SeatedCommand}
use Rattle.cpu_1401.specs.CarryOut.{carry_out}

-- a command of a seat
abbrev pub pair : ℕ → Command → SeatedCommand
pair seat command = record { seat = seat; command = command }

-- the machine after these commands
abbrev pub state_after : State → List SeatedCommand → State
state_after s [] = s
state_after s (pair ∷ pairs) = state_after (carry_out s pair.command).state pairs

-- what these commands are answered
abbrev pub answers_after : State → List SeatedCommand → List Answer
answers_after s [] = []
answers_after s (pair ∷ pairs) =
    let carried = carry_out s pair.command in carried.answer ∷ answers_after carried.state pairs

-- the machine of this size after these commands, from power-on
abbrev pub replay : ℕ → List SeatedCommand → State
replay size pairs = state_after (power_on size) pairs

-- what these commands are answered by the machine of this size, from power-on
abbrev pub answers_of : ℕ → List SeatedCommand → List Answer
answers_of size pairs = answers_after (power_on size) pairs

-- what the machine of this size answers to a command after these commands
abbrev pub reply_to : ℕ → List SeatedCommand → Command → Answer
reply_to size pairs command = (carry_out (replay size pairs) command).answer

-- the cell at a place after these commands
abbrev pub cell_after : ℕ → List SeatedCommand → ℕ → Cell
cell_after size pairs address = cell_at (replay size pairs).storage address
