-- What a command does to the machine, and what it is answered (own).
use Rattle.std.specs.Prelude.{ℕ, ◌+◌, ◌==◌, ◌&&◌, Bool, List, [], ◌∷◌, ◌++◌}
use Rattle.std.specs.Prelude.{length, take, drop, nat_le, if◌then◌else◌}
use Rattle.bcd_1401.specs.declared.cell.Cell.{Cell}
use Rattle.core_1401.specs.Cells.{most_cells}
use Rattle.core_1401.specs.Storage.{Storage, is_in_core}
use Rattle.cpu_1401.specs.CardsAndPrinter.{load, with_devices}
use Rattle.cpu_1401.specs.Run.{Finished, most_steps, run_for}
use Rattle.cpu_1401.specs.State.{State, fitted_with, regs_of, with_switch}
use Rattle.machine_tables.specs.SwitchName.{switch_number}
use Rattle.devices_1401.specs.Devices.{after_card, after_line, fed, is_full}
use Rattle.devices_1401.specs.declared.card.Card.{Card}
use Rattle.devices_1401.specs.declared.print_line.PrintLine.{PrintLine}
use Rattle.machine_commands.specs.declared.answer.Answer.{Answer}
use Rattle.machine_commands.specs.declared.answer.Answer.TheVariants.{Done, Cells, Regs, Ran, Refused}
use Rattle.machine_commands.specs.declared.answer.Answer.TheVariants as answer
use Rattle.machine_commands.specs.declared.answer.Refusal.{Refusal}
use Rattle.machine_commands.specs.declared.answer.Refusal.TheVariants.{Address, Hopper, Reader, Empty, Limit, Count}
use Rattle.machine_commands.specs.declared.command.Command.{Command}
use Rattle.machine_commands.specs.declared.command.Command.TheVariants.{Deposit, Examine, Registers, SetI, Switch, Feed}
use Rattle.machine_commands.specs.declared.command.Command.TheVariants.{LoadKey, Run, TakeLine, TakeCard, Fit}

-- what a command leaves: the machine, and the answer
pub record Carried : Type 0 where
  pub state : State
  pub answer : Answer

-- a command refused leaves the machine as it was
abbrev pub refuse : Refusal → State → Carried
refuse why s = record { state = s; answer = Refused why }

-- a command that asks leaves the machine as it was
abbrev pub tell : Answer → State → Carried
tell answer s = record { state = s; answer = answer }

-- a command that changes the machine
abbrev pub change_to : State → Carried
change_to s = record { state = s; answer = Done }

-- whether these places, from an address on, are in core
abbrev pub are_in_core : Storage → ℕ → ℕ → Bool
are_in_core storage address count = nat_le (address + count) (length storage)

-- these cells at an address and the ones above it
abbrev pub deposited : Storage → ℕ → List Cell → Storage
deposited storage address cells = take address storage ++ cells ++ drop (address + length cells) storage

-- the cells from an address on
abbrev pub examined : Storage → ℕ → ℕ → List Cell
examined storage address count = take count (drop address storage)

-- cells put at an address and the ones above it, if all of these places are in core
abbrev pub deposit : ℕ → List Cell → State → Carried
deposit address cells s =
    if are_in_core s.storage address (length cells)
    then change_to (record s { storage = deposited s.storage address cells })
    else refuse Address s

-- the cells from an address on are shown, if all of these places are in core
abbrev pub show_cells : Storage → ℕ → ℕ → Answer
show_cells storage address count =
    if are_in_core storage address count then Cells (examined storage address count) else Refused Address

-- what is answered for the cells from an address on: the count is looked at before the places
abbrev pub examine : Storage → ℕ → ℕ → Answer
examine storage address count =
    if nat_le 1 count && nat_le count most_cells then show_cells storage address count else Refused Count

-- the next instruction is taken from an address that is in core
abbrev pub set_i : ℕ → State → Carried
set_i address s = if is_in_core s.storage address then change_to (record s { i = address }) else refuse Address s

-- a card added to the hopper, if it has room for one more
abbrev pub feed : Card → State → Carried
feed card s = if is_full s.devices.hopper then refuse Hopper s else change_to (with_devices (fed s.devices card) s)

-- the load key, if there is a card in the hopper
abbrev pub load_key : State → Carried
load_key s = if length s.devices.hopper == 0 then refuse Reader s else change_to (load s)

-- what a run leaves, with the I register afterwards
abbrev pub run_answer : Finished → Carried
run_answer run = record { state = run.state; answer = Ran run.steps run.stop run.state.i }

-- a run, if the limit is one that a run has
abbrev pub run : ℕ → State → Carried
run limit s = if nat_le 1 limit && nat_le limit most_steps then run_answer (run_for limit s) else refuse Limit s

-- the oldest line taken from the paper, if there is one
abbrev pub oldest_line : List PrintLine → State → Carried
oldest_line [] s = refuse Empty s
oldest_line (line ∷ lines) s = record { state = with_devices (after_line s.devices) s; answer = answer.Line line }

abbrev pub take_line : State → Carried
take_line s = oldest_line s.devices.paper s

-- the oldest card taken from the stacker, if there is one
abbrev pub oldest_card : List Card → State → Carried
oldest_card [] s = refuse Empty s
oldest_card (card ∷ cards) s = record { state = with_devices (after_card s.devices) s; answer = answer.Card card }

abbrev pub take_card : State → Carried
take_card s = oldest_card s.devices.stacker s

-- what a command does, and what it is answered
unfoldable pub carry_out : State → Command → Carried
carry_out s (Deposit address cells) = deposit address cells s
carry_out s (Examine address count) = tell (examine s.storage address count) s
carry_out s Registers = tell (Regs (regs_of s)) s
carry_out s (SetI address) = set_i address s
carry_out s (Switch n on) = change_to (with_switch s (switch_number n) on)
carry_out s (Feed card) = feed card s
carry_out s LoadKey = load_key s
carry_out s (Run limit) = run limit s
carry_out s TakeLine = take_line s
carry_out s TakeCard = take_card s
carry_out s (Fit features) = change_to (fitted_with features s)
