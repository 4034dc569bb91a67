-- The machine after each instruction that a run, a command or a journal carries out (own).
use Rattle.std.specs.Prelude.{ℕ, ◌==◌, ◌&&◌, zero, suc, nat_le, if◌then◌else◌, List, [], ◌∷◌, ◌++◌, Option, None, Some}
use Rattle.machine_tables.specs.declared.stop.Stop.{Stop}
use Rattle.cpu_1401.specs.Run.{carried_out_by, most_steps}
use Rattle.cpu_1401.specs.State.{State, power_on}
use Rattle.cpu_1401.specs.Fitting.{fitted_step}
use Rattle.machine_commands.specs.declared.command.Command.{Command}
use Rattle.machine_commands.specs.declared.command.Command.TheVariants as command
use Rattle.cpu_1401.specs.CarryOut.{carry_out}
use Rattle.room_alone.specs.declared.entry.Entry.{Entry}
use Rattle.room_alone.specs.declared.entry.SeatedCommand.{SeatedCommand}
use Rattle.room_alone.specs.Journal.{pairs_of}

-- the machines from a step on, which left this one: a step that stops the machine carries out a halt or nothing
abbrev pub machines_on : State → Option Stop → List State → List State
machines_on t None rest = t ∷ rest
machines_on t (Some why) rest = if carried_out_by why == 0 then [] else t ∷ []

-- the machine after each instruction of a run
unfoldable pub machines_for : ℕ → State → List State
machines_for zero s = []
machines_for (suc limit) s =
    let done = fitted_step s in machines_on done.state done.stop (machines_for limit done.state)

-- the machine after each instruction that a command carries out: a run does, if its limit isn't refused
abbrev pub machines_by : State → Command → List State
machines_by s (command.Run limit) = if nat_le 1 limit && nat_le limit most_steps then machines_for limit s else []
machines_by s (command.Deposit address cells) = []
machines_by s (command.Examine address count) = []
machines_by s command.Registers = []
machines_by s (command.SetI address) = []
machines_by s (command.Switch n on) = []
machines_by s (command.Feed card) = []
machines_by s command.LoadKey = []
machines_by s command.TakeLine = []
machines_by s command.TakeCard = []
machines_by s (command.Fit features) = []

-- the machine after each instruction that these commands carry out
abbrev pub machines_after : State → List SeatedCommand → List State
machines_after s [] = []
machines_after s (pair ∷ pairs) =
    machines_by s pair.command ++ machines_after (carry_out s pair.command).state pairs

-- the machine of this size after each instruction of a journal, from power-on
abbrev pub machines_of : ℕ → List Entry → List State
machines_of size journal = machines_after (power_on size) (pairs_of journal)
