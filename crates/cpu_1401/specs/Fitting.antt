-- One step of a machine that is fitted with features (A24-1403, "Special Features", from memory; what the registers hold
-- afterwards, and that a feed takes no time, are own).
use Rattle.std.specs.Prelude.{false, Option, None, Some, slice_index, if◌then◌else◌}
use Rattle.bcd_1401.specs.Graphic.{graphics}
use Rattle.core_1401.specs.Storage.{cell_at}
use Rattle.fields_1401.specs.Load.{has_places}
use Rattle.fields_1401.specs.Outcome.{below_by}
use Rattle.machine_tables.specs.declared.operation.Operation.TheVariants as op
use Rattle.machine_tables.specs.declared.stop.Stop.TheVariants as stop
use Rattle.fields_1401.specs.AddressSums.{address_sum_at}
use Rattle.fields_1401.specs.Products.{product_at}
use Rattle.fields_1401.specs.Quotients.{quotient_at}
use Rattle.fields_1401.specs.Records.{record_at}
use Rattle.cpu_1401.specs.Branch.{go_on}
use Rattle.cpu_1401.specs.Chaining.{again, keeping, on_bits, on_cell, on_character}
use Rattle.cpu_1401.specs.FieldStep.{after_field}
use Rattle.cpu_1401.specs.Fetched.{cells_at}
use Rattle.machine_tables.specs.Fitted.{fitted_in}
use Rattle.cpu_1401.specs.Instruction.{begins_at, instruction_of}
use Rattle.cpu_1401.specs.RegisterStep.{after_store, stored}
use Rattle.cpu_1401.specs.State.{State}
use Rattle.cpu_1401.specs.Step.{step}
use Rattle.cpu_1401.specs.Stepped.{Stepped, step_to, stopped}
use Rattle.cpu_1401.specs.Tape.{control_letters, tape_stop, transfer_letters}
use Rattle.machine_tables.specs.declared.fitted.Fitted.{Fitted}
use Rattle.machine_tables.specs.declared.fitted.Fitted.TheVariants as fitted
use Rattle.cpu_1401.specs.declared.instruction.Instruction.{Instruction}

-- the second address stored at the first: it is in the B register afterwards
abbrev pub after_second : Instruction → State → Stepped
after_second this s =
    if has_places s.storage this.a 3
    then step_to (record s {
      storage = stored s.storage this.a this.b;
      i = this.next;
      a = below_by this.a 3;
      b = this.b;
    })
    else stopped stop.Address s

-- What a feature makes of an instruction. A branch by bits has one character only on a machine with the lengths. This
-- machine has no reels, so each tape operation stops it.
abbrev pub perform_fitted : Fitted → Instruction → State → Stepped
perform_fitted fitted.OnCell this s = keeping this.d (step s)
perform_fitted fitted.OnBits this s = on_bits this s
perform_fitted fitted.CharacterAgain this s = on_character (again this s) s
perform_fitted fitted.CellAgain this s = on_cell (again this s) s
perform_fitted fitted.BitsAgain this s =
    if s.features.lengths then on_bits (again this s) s else stopped stop.Length s
perform_fitted fitted.StoreA this s = after_store s.a this s
perform_fitted fitted.StoreB this s = after_store s.b this s
perform_fitted fitted.StoreSecond this s = after_second this s
perform_fitted fitted.Halt this s = record { state = go_on false this s; stop = Some stop.Halt }
perform_fitted fitted.Feed this s = step_to (go_on false this s)
perform_fitted fitted.Multiply this s = after_field this s (product_at s.storage this.a this.b)
perform_fitted fitted.Divide this s = after_field this s (quotient_at s.storage this.a this.b)
perform_fitted fitted.MoveRecord this s = after_field this s (record_at s.storage this.a this.b)
perform_fitted fitted.ModifyAddress this s = after_field this s (address_sum_at s.storage this.a this.b)
perform_fitted fitted.MoveTape this s = stopped (tape_stop transfer_letters this s) s
perform_fitted fitted.LoadTape this s = stopped (tape_stop transfer_letters this s) s
perform_fitted fitted.ControlTape this s = stopped (tape_stop control_letters this s) s
perform_fitted fitted.NoLength this s = stopped stop.Length s

-- what a feature makes of the instruction at the I register; none if none claims it, or no instruction begins there
abbrev pub fitted_at : State → Option Fitted
fitted_at s =
    if begins_at s.storage s.i
    then fitted_in s.features (slice_index graphics (cell_at s.storage s.i).char) (cells_at s.storage s.i)
    else None

-- the instruction at the I register, which takes its addresses as an addition does
abbrev pub fitted_instruction : State → Instruction
fitted_instruction s = instruction_of op.Add (cells_at s.storage s.i) s

-- an instruction that no feature claims is that of a machine without features
abbrev pub step_as : Option Fitted → State → Stepped
step_as None s = step s
step_as (Some fitted) s = perform_fitted fitted (fitted_instruction s) s

-- one step of the machine with its features
unfoldable pub fitted_step : State → Stepped
fitted_step s = step_as (fitted_at s) s
