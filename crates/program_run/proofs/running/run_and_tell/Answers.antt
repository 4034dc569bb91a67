-- The job has come to its end, and a reel that isn't written is one of the job's.
use Rattle.std.proofs.Common.{IfErr, List, OnOk, Option, subst, sym}
use Rattle.job_runner.specs.Unattended.{taped_with_deck}
use Rattle.program_arguments.specs.declared.call.MountedReel.{MountedReel}
use Rattle.program_run.specs.GivenReels.{GivenReel}
use Rattle.program_run.specs.RunEnd.{IsBegunFor}
use Rattle.program_run.specs.RunReels.{IsUnwrittenReel}
use Rattle.program_run.specs.WrittenReels.{AreHandedOver, HandsOver, files_of, known_files}
use Rattle.program_run.proofs.EndLemmas.{at_end_off, ended_ran, ends_if_whole, hands_over_after}
use Rattle.program_run.proofs.FaultLemmas.{no_stop_ran}
use Rattle.program_run.proofs.running.run_and_tell.Goals as goal

pub returns-in-Ok-clause-ran : goal.returns-in-Ok-clause-ran
returns-in-Ok-clause-ran g c = λ before begun.
    let job = c.args.job.now in
    let given' = g.D.ReelFiles.given c.write_reels-written.new.files in
    let old = g.D.ReelFiles.handed c.args.files.now in
    let new = g.D.ReelFiles.handed c.write_reels-written.new.files in
    let known = known_files before old in
    let known' = known_files given' new in
    let begun' =
    subst (λ (each : Option (List GivenReel)). IsBegunFor job before each c.args.begun.now)
    (sym c.write_reels-written.ensures.given) begun in
    let after = c.run_inputs-ran.new.begun.taped in
    let written = c.write_reels-written.result in
    let files = subst (λ (each : List MountedReel). OnOk written (HandsOver old new (files_of after.tapes each)))
    c.as_slice.ensures.value c.write_reels-written.ensures.whole in
    let unwritten = subst (λ (each : List MountedReel). IfErr written (IsUnwrittenReel each)) c.as_slice.ensures.value
    c.write_reels-written.ensures.fault in
    ended_ran job known known' c.of-ending.result written c.tell_both.result c.tell_both.ensures.whole c.tell_both.ensures.err
    (ends_if_whole job c.args.begun.now c.of-ending.result c.in-Ok.report known known' after written begun'
    c.in-Ok.ensures.report c.in-Ok.ensures.end c.of-ending.ensures.report c.of-ending.ensures.reels c.of-ending.ensures.so files) unwritten

pub returns-in-Err-clause-ran : goal.returns-in-Err-clause-ran
returns-in-Err-clause-ran g c = λ before begun.
    no_stop_ran c.args.job.now _ _ c.in-Err.fault c.in-Err.ensures.fault

pub returns-in-Ok-clause-handed : goal.returns-in-Ok-clause-handed
returns-in-Ok-clause-handed g c = λ before begun.
    let job = c.args.job.now in
    let given' = g.D.ReelFiles.given c.write_reels-written.new.files in
    let old = g.D.ReelFiles.handed c.args.files.now in
    let new = g.D.ReelFiles.handed c.write_reels-written.new.files in
    let after = c.run_inputs-ran.new.begun.taped in
    let begun' =
    subst (λ (each : Option (List GivenReel)). IsBegunFor job before each c.args.begun.now)
    (sym c.write_reels-written.ensures.given) begun in
    hands_over_after job c.args.begun.now (known_files before old) (known_files given' new) after.tapes begun'
    (at_end_off job.start job.limit (taped_with_deck c.args.begun.now.cards c.args.begun.now.taped) after c.in-Ok.ensures.end)
    (subst (λ (each : List MountedReel). AreHandedOver after.tapes each old new) c.as_slice.ensures.value
    c.write_reels-written.ensures.handed)

pub returns-in-Err-clause-handed : goal.returns-in-Err-clause-handed
returns-in-Err-clause-handed g c = λ before begun.
    let job = c.args.job.now in
    let given' = g.D.ReelFiles.given c.write_reels-written.new.files in
    let old = g.D.ReelFiles.handed c.args.files.now in
    let new = g.D.ReelFiles.handed c.write_reels-written.new.files in
    let after = c.run_inputs-ran.new.begun.taped in
    let begun' =
    subst (λ (each : Option (List GivenReel)). IsBegunFor job before each c.args.begun.now)
    (sym c.write_reels-written.ensures.given) begun in
    hands_over_after job c.args.begun.now (known_files before old) (known_files given' new) after.tapes begun'
    c.in-Err.ensures.broke_off
    (subst (λ (each : List MountedReel). AreHandedOver after.tapes each old new) c.as_slice.ensures.value
    c.write_reels-written.ensures.handed)
