-- What isn't read reports no stop.
use Rattle.std.proofs.Common.{◌≡◌, ◌⊎◌, List, Option, inl, subst}
use Rattle.program_run.specs.RunEnd.{HandsOverAfter, Ran}
use Rattle.program_run.specs.WrittenReels.{ReelFile, known_files}
use Rattle.program_run.proofs.FaultLemmas.{no_stop_ran}
use Rattle.program_run.proofs.running.run_lent.Goals as goal

pub returns-in-Err-clause-ran : goal.returns-in-Err-clause-ran
returns-in-Err-clause-ran g c =
    no_stop_ran c.args.job.now _ _ c.in-Err.fault c.in-Err.ensures.fault

pub returns-in-Ok-clause-ran : goal.returns-in-Ok-clause-ran
returns-in-Ok-clause-ran g c =
    subst (λ (handed : Option (List ReelFile)). Ran c.args.job.now
    (known_files (g.D.ReelFiles.given c.args.files.now) handed) (known_files (g.D.ReelFiles.given c.run_begun.new.files)
    (g.D.ReelFiles.handed c.run_begun.new.files)) c.run_begun.result) c.read_job.ensures.handed
    (c.run_begun.ensures.ran (g.D.ReelFiles.given c.args.files.now) c.in-Ok.ensures.read)

pub returns-in-Ok-clause-handed : goal.returns-in-Ok-clause-handed
returns-in-Ok-clause-handed g c =
    subst (λ (old : Option (List ReelFile)). (g.D.ReelFiles.handed c.run_begun.new.files ≡ old)
    ⊎ HandsOverAfter c.args.job.now (known_files (g.D.ReelFiles.given c.args.files.now) old)
    (known_files (g.D.ReelFiles.given c.run_begun.new.files) (g.D.ReelFiles.handed c.run_begun.new.files)))
    c.read_job.ensures.handed
    (c.run_begun.ensures.handed (g.D.ReelFiles.given c.args.files.now) c.in-Ok.ensures.read)

pub returns-in-Err-clause-handed : goal.returns-in-Err-clause-handed
returns-in-Err-clause-handed g c = inl c.read_job.ensures.handed
