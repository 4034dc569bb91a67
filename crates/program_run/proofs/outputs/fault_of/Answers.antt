-- A file that isn't written is one of the job's.
use Rattle.std.proofs.Common.{inl, inr, string_bytes}
use Rattle.std.specs.Prelude.{option_map}
use Rattle.program_run.proofs.FaultLemmas.{memory_of, output_of}
use Rattle.program_run.proofs.outputs.fault_of.Goals as goal

pub returns-in-Memory : goal.returns-in-Memory
returns-in-Memory c = memory_of c.args.job.now

pub returns-in-Paper : goal.returns-in-Paper
returns-in-Paper c =
    output_of c.args.job.now (option_map string_bytes c.args.job.now.paper) c.unwritten.result (λ name e. inl e)
    c.unwritten.ensures

pub returns-in-Punch : goal.returns-in-Punch
returns-in-Punch c =
    output_of c.args.job.now (option_map string_bytes c.args.job.now.punch) c.unwritten-in-Punch.result
    (λ name e. inr (inl e)) c.unwritten-in-Punch.ensures

pub returns-in-Trace : goal.returns-in-Trace
returns-in-Trace c =
    output_of c.args.job.now (option_map string_bytes c.args.job.now.trace) c.unwritten-in-Trace.result
    (λ name e. inr (inr (inl e))) c.unwritten-in-Trace.ensures
