-- A step with features reads at most one card, prints at most one line and punches at most one card.
use Rattle.std.proofs.Common.{ℕ, Bool, Option, None, Some}
use Rattle.std.specs.Prelude.{is_some}
use Rattle.bcd_1401.specs.declared.cell.Cell.{Cell}
use Rattle.devices_1401.specs.Devices.{Devices}
use Rattle.fields_1401.specs.Load.{has_places}
use Rattle.cpu_1401.specs.Branch.{branch_on_cell, has_char, passes}
use Rattle.cpu_1401.specs.Chaining.{again, keeping, shares_bit}
use Rattle.cpu_1401.specs.Fitting.{after_second, fitted_at, fitted_instruction, fitted_step, perform_fitted, step_as}
use Rattle.cpu_1401.specs.Frame.{UsesOne}
use Rattle.cpu_1401.specs.State.{State}
use Rattle.cpu_1401.specs.Step.{step}
use Rattle.cpu_1401.specs.Stepped.{Stepped}
use Rattle.machine_tables.specs.declared.fitted.Fitted.{Fitted}
use Rattle.machine_tables.specs.declared.fitted.Fitted.TheVariants as fitted
use Rattle.cpu_1401.specs.declared.instruction.Instruction.{Instruction}
use Rattle.cpu_1401.proofs.UseLemmas.{either, field_uses, on_cell_uses, step_uses, store_uses, uses_none}

keeping_uses : (old : Devices) (d : ℕ) (t : Stepped) → UsesOne old t.state.devices
    → UsesOne old (keeping d t).state.devices
keeping_uses old d t u = either old (is_some t.stop) _ _ u u

branch_uses : (test : Cell → Bool) (d : ℕ) (this : Instruction) (s : State)
    → UsesOne s.devices (keeping d (branch_on_cell test this s)).state.devices
branch_uses test d this s = keeping_uses s.devices d (branch_on_cell test this s) (on_cell_uses test this s)

second_uses : (this : Instruction) (s : State) → UsesOne s.devices (after_second this s).state.devices
second_uses this s =
    either s.devices (has_places s.storage this.a 3) _ _ (uses_none s.devices) (uses_none s.devices)

fitted_uses : (made : Fitted) (this : Instruction) (s : State)
    → UsesOne s.devices (perform_fitted made this s).state.devices
fitted_uses fitted.OnCell this s = keeping_uses s.devices this.d (step s) (step_uses s)
fitted_uses fitted.OnBits this s = branch_uses (shares_bit this.d) this.d this s
fitted_uses fitted.CharacterAgain this s = branch_uses (has_char s.chained) s.chained (again this s) s
fitted_uses fitted.CellAgain this s = branch_uses (passes s.chained) s.chained (again this s) s
fitted_uses fitted.BitsAgain this s =
    either s.devices s.features.lengths _ _ (branch_uses (shares_bit s.chained) s.chained (again this s) s)
    (uses_none s.devices)
fitted_uses fitted.StoreA this s = store_uses s.a this s
fitted_uses fitted.StoreB this s = store_uses s.b this s
fitted_uses fitted.StoreSecond this s = second_uses this s
fitted_uses fitted.Halt this s = uses_none s.devices
fitted_uses fitted.Feed this s = uses_none s.devices
fitted_uses fitted.Multiply this s = field_uses this s _
fitted_uses fitted.Divide this s = field_uses this s _
fitted_uses fitted.MoveRecord this s = field_uses this s _
fitted_uses fitted.ModifyAddress this s = field_uses this s _
fitted_uses fitted.MoveTape this s = uses_none s.devices
fitted_uses fitted.LoadTape this s = uses_none s.devices
fitted_uses fitted.ControlTape this s = uses_none s.devices
fitted_uses fitted.NoLength this s = uses_none s.devices

as_uses : (found : Option Fitted) (s : State) → UsesOne s.devices (step_as found s).state.devices
as_uses None s = step_uses s
as_uses (Some made) s = fitted_uses made (fitted_instruction s) s

pub fitted_step_uses : (s : State) → UsesOne s.devices (fitted_step s).state.devices
unfolding fitted_step
fitted_step_uses s = as_uses (fitted_at s) s
