-- Once its files can be made, the machine is fitted and its switches are set.
use Rattle.std.proofs.Common.{inl, inr, refl}
use Rattle.program_run.proofs.FaultLemmas.{no_stop_ran}
use Rattle.program_run.proofs.running.run_begun.Goals as goal

pub returns-in-Err-clause-ran : goal.returns-in-Err-clause-ran
returns-in-Err-clause-ran g c = λ before read. no_stop_ran c.args.job.now _ _ c.in-Err.fault c.in-Err.ensures

pub returns-clause-ran : goal.returns-clause-ran
returns-clause-ran g c = λ before read.
    c.run_and_tell.ensures.ran before (record {
      machine = c.args.begun.now.taped.machine;
      begun = read.begun;
      reels = read.reels;
      machine_is = c.set_up.ensures;
    })

pub returns-in-Err-clause-handed : goal.returns-in-Err-clause-handed
returns-in-Err-clause-handed g c = λ before read. inl refl

pub returns-clause-handed : goal.returns-clause-handed
returns-clause-handed g c = λ before read.
    inr (c.run_and_tell.ensures.handed before (record {
      machine = c.args.begun.now.taped.machine;
      begun = read.begun;
      reels = read.reels;
      machine_is = c.set_up.ensures;
    }))
