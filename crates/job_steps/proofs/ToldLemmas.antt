-- A reason that is reported if it is one for a stop.
use Rattle.std.proofs.Common.{◌≡◌, inl, inr, refl, sym, ◌∙◌, subst, false, true}
use Rattle.std.proofs.lemmas.Option.{none-some}
use Rattle.std.specs.Prelude.{Option, None, Some, IfSome, IsSome}
use Rattle.std.specs.Option.{option_map}
use Rattle.machine_tables.specs.declared.stop.Stop.{Stop}
use Rattle.machine_tables.specs.declared.stop.Stop.TheVariants as stop
use Rattle.job_steps.specs.declared.reason.Reason.{Reason}
use Rattle.job_steps.specs.Reason.{stop_named}
use Rattle.job_steps.specs.Told.{IsKept, IsReasonFor, IsTold, IsToldOf}

-- a reason that is reported as a stop is there
there_is : (why : Stop) (found : Option Reason) → option_map stop_named found ≡ Some why → IsSome found
there_is why None e = absurd (none-some why e)
there_is why (Some reason) e = refl

-- and its stop is that stop
named_as : (why : Stop) (found : Option Reason) → option_map stop_named found ≡ Some why
    → IfSome found (λ each. stop_named each ≡ why)
named_as why None e = tt
named_as why (Some reason) e = cc

-- a reason that is kept for a stop is one for it
reason_for : (next : Option Stop) (IsSo : Reason → Type 0) (why : Stop) (found kept : Option Reason)
    → option_map stop_named found ≡ next → IfSome found IsSo → IsKept why found kept → IsReasonFor next IsSo why kept
reason_for next IsSo why found kept is so (inl told) = record {
  there = λ _. subst (λ (each : Option Reason). IsSome each) (sym told.1) (there_is why found told.0);
  only = λ _. sym is ∙ told.0;
  so = subst (λ (each : Option Reason). IfSome each IsSo) (sym told.1) so;
}
reason_for next IsSo why found kept is so (inr other) = record {
  there = λ e. absurd (other.0 (is ∙ e));
  only = λ (some : IsSome kept). let no : false ≡ true = subst (λ (each : Option Reason). IsSome each) other.1 some in cc;
  so = subst (λ (each : Option Reason). IfSome each IsSo) (sym other.1) tt;
}

named_so : (why : Stop) (found kept : Option Reason) → IsKept why found kept
    → IfSome kept (λ each. stop_named each ≡ why)
named_so why found kept (inl told) =
    subst (λ (each : Option Reason). IfSome each (λ one. stop_named one ≡ why)) (sym told.1) (named_as why found told.0)
named_so why found kept (inr other) =
    subst (λ (each : Option Reason). IfSome each (λ one. stop_named one ≡ why)) (sym other.1) tt

-- what is reported of a stop
pub told_so : (next : Option Stop) (IsSo : Reason → Type 0) (why : Stop) (found told : Option Reason)
    → option_map stop_named found ≡ next → IfSome found IsSo → IsToldOf why found told → IsTold next IsSo why told
told_so next IsSo stop.Limit found told is so e = e
told_so next IsSo stop.Halt found told is so e = e
told_so next IsSo stop.Reader found told is so e = e
told_so next IsSo stop.Forms found told is so e = e
told_so next IsSo stop.Stacker found told is so e = e
told_so next IsSo stop.NoMark found told is so kept = reason_for next IsSo stop.NoMark found told is so kept
told_so next IsSo stop.OpCode found told is so kept = reason_for next IsSo stop.OpCode found told is so kept
told_so next IsSo stop.Length found told is so kept = reason_for next IsSo stop.Length found told is so kept
told_so next IsSo stop.Address found told is so kept = reason_for next IsSo stop.Address found told is so kept
told_so next IsSo stop.Overlap found told is so kept = reason_for next IsSo stop.Overlap found told is so kept
told_so next IsSo stop.Carriage found told is so kept = reason_for next IsSo stop.Carriage found told is so kept
told_so next IsSo stop.NotFitted found told is so kept = reason_for next IsSo stop.NotFitted found told is so kept
told_so next IsSo stop.DChar found told is so kept = reason_for next IsSo stop.DChar found told is so kept
told_so next IsSo stop.Tape found told is so kept = reason_for next IsSo stop.Tape found told is so kept

pub told_named : (why : Stop) (found told : Option Reason) → IsToldOf why found told
    → IfSome told (λ each. stop_named each ≡ why)
told_named stop.Limit found told e = subst (λ (each : Option Reason). IfSome each (λ one. stop_named one ≡ stop.Limit)) (sym e) tt
told_named stop.Halt found told e = subst (λ (each : Option Reason). IfSome each (λ one. stop_named one ≡ stop.Halt)) (sym e) tt
told_named stop.Reader found told e = subst (λ (each : Option Reason). IfSome each (λ one. stop_named one ≡ stop.Reader)) (sym e) refl
told_named stop.Forms found told e = subst (λ (each : Option Reason). IfSome each (λ one. stop_named one ≡ stop.Forms)) (sym e) refl
told_named stop.Stacker found told e = subst (λ (each : Option Reason). IfSome each (λ one. stop_named one ≡ stop.Stacker)) (sym e) refl
told_named stop.NoMark found told kept = named_so stop.NoMark found told kept
told_named stop.OpCode found told kept = named_so stop.OpCode found told kept
told_named stop.Length found told kept = named_so stop.Length found told kept
told_named stop.Address found told kept = named_so stop.Address found told kept
told_named stop.Overlap found told kept = named_so stop.Overlap found told kept
told_named stop.Carriage found told kept = named_so stop.Carriage found told kept
told_named stop.NotFitted found told kept = named_so stop.NotFitted found told kept
told_named stop.DChar found told kept = named_so stop.DChar found told kept
told_named stop.Tape found told kept = named_so stop.Tape found told kept
