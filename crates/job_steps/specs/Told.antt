-- What is reported of a machine that ended a run with a stop (own).
use Rattle.std.specs.Prelude.{◌≡◌, ◌≢◌, ◌⊎◌, Option, Some, None, IfSome, IsSome, option_map}
use Rattle.machine_tables.specs.declared.stop.Stop.{Stop}
use Rattle.machine_tables.specs.declared.stop.Stop.TheVariants as stop
use Rattle.job_steps.specs.declared.reason.Reason.{Reason}
use Rattle.job_steps.specs.declared.reason.Reason.TheVariants as reason
use Rattle.job_steps.specs.Reason.{stop_named}

-- there is a reason exactly if the next step has this stop, and what it says is so
pub record IsReasonFor (next : Option Stop) (IsSo : Reason → Type 0) (why : Stop) (found : Option Reason) : Type 0 where
  pub there : next ≡ Some why → IsSome found
  pub only : IsSome found → next ≡ Some why
  pub so : IfSome found IsSo

-- what is told of a stop of a machine whose next step has this one, if what a reason says is so: nothing of a halt and of the limit; of a device, that it has no card or no room; of the
-- instruction, why the next step stops
abbrev pub IsTold : Option Stop → (Reason → Type 0) → Stop → Option Reason → Type 0
IsTold next IsSo stop.Limit found = found ≡ None
IsTold next IsSo stop.Halt found = found ≡ None
IsTold next IsSo stop.Reader found = found ≡ Some reason.NoCard
IsTold next IsSo stop.Forms found = found ≡ Some reason.PaperFull
IsTold next IsSo stop.Stacker found = found ≡ Some reason.StackerFull
IsTold next IsSo stop.NoMark found = IsReasonFor next IsSo stop.NoMark found
IsTold next IsSo stop.OpCode found = IsReasonFor next IsSo stop.OpCode found
IsTold next IsSo stop.Length found = IsReasonFor next IsSo stop.Length found
IsTold next IsSo stop.Address found = IsReasonFor next IsSo stop.Address found
IsTold next IsSo stop.Overlap found = IsReasonFor next IsSo stop.Overlap found
IsTold next IsSo stop.Carriage found = IsReasonFor next IsSo stop.Carriage found
IsTold next IsSo stop.NotFitted found = IsReasonFor next IsSo stop.NotFitted found
IsTold next IsSo stop.DChar found = IsReasonFor next IsSo stop.DChar found
IsTold next IsSo stop.Tape found = IsReasonFor next IsSo stop.Tape found

-- a reason is reported if it is one for this stop
abbrev pub IsKept : Stop → Option Reason → Option Reason → Type 0
IsKept why found told =
    ((option_map stop_named found ≡ Some why) × (told ≡ found))
    ⊎ ((option_map stop_named found ≢ Some why) × (told ≡ None))

-- what is reported of a stop, where this reason was found for the next step
abbrev pub IsToldOf : Stop → Option Reason → Option Reason → Type 0
IsToldOf stop.Limit found told = told ≡ None
IsToldOf stop.Halt found told = told ≡ None
IsToldOf stop.Reader found told = told ≡ Some reason.NoCard
IsToldOf stop.Forms found told = told ≡ Some reason.PaperFull
IsToldOf stop.Stacker found told = told ≡ Some reason.StackerFull
IsToldOf stop.NoMark found told = IsKept stop.NoMark found told
IsToldOf stop.OpCode found told = IsKept stop.OpCode found told
IsToldOf stop.Length found told = IsKept stop.Length found told
IsToldOf stop.Address found told = IsKept stop.Address found told
IsToldOf stop.Overlap found told = IsKept stop.Overlap found told
IsToldOf stop.Carriage found told = IsKept stop.Carriage found told
IsToldOf stop.NotFitted found told = IsKept stop.NotFitted found told
IsToldOf stop.DChar found told = IsKept stop.DChar found told
IsToldOf stop.Tape found told = IsKept stop.Tape found told
