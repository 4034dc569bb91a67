-- A file that can't be made is one of the job's.
use Rattle.std.proofs.Common.{inl, inr, string_bytes}
use Rattle.std.specs.Prelude.{option_map}
use Rattle.program_run.proofs.FaultLemmas.{unwritten_of}
use Rattle.program_run.proofs.outputs.create_outputs.Goals as goal

pub returns-in-Err : goal.returns-in-Err
returns-in-Err g c =
    unwritten_of c.args.job.now (option_map string_bytes c.args.job.now.paper) c.in-Err.fault (λ name e. inl e)
    c.in-Err.ensures

pub returns-in-Err-create_if_named : goal.returns-in-Err-create_if_named
returns-in-Err-create_if_named g c =
    unwritten_of c.args.job.now (option_map string_bytes c.args.job.now.punch) c.in-Err-create_if_named.fault
    (λ name e. inr (inl e)) c.in-Err-create_if_named.ensures

pub returns : goal.returns
returns g c =
    unwritten_of c.args.job.now (option_map string_bytes c.args.job.now.trace) c.in-Err-create_if_named-2.fault
    (λ name e. inr (inr (inl e))) c.in-Err-create_if_named-2.ensures
