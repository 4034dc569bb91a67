-- What was read, and faults of a job.
use Rattle.std.proofs.Common.{List, refl, subst}
use Rattle.machine_tapes.specs.Tapes.{no_tapes}
use Rattle.program_arguments.specs.declared.call.MountedReel.{MountedReel}
use Rattle.program_run.specs.RunReels.{AreMounted, IsUnmounted}
use Rattle.program_run.proofs.EndLemmas.{read_for}
use Rattle.program_run.proofs.FaultLemmas.{unmounted_of, unread_of}
use Rattle.program_run.proofs.running.read_job.Goals as goal

pub returns-in-Err-read_inputs-clause-fault : goal.returns-in-Err-read_inputs-clause-fault
returns-in-Err-read_inputs-clause-fault g c =
    unread_of c.args.job.now c.in-Err-read_inputs.fault c.in-Err-read_inputs.ensures.fault

pub returns-in-Ok-read_reels-clause-read : goal.returns-in-Ok-read_reels-clause-read
returns-in-Ok-read_reels-clause-read g c =
    let inputs = c.in-Ok-read_inputs.inputs in
    let tapes = c.in-Ok-read_reels.tapes in
    let before = g.D.ReelFiles.given c.args.files.now in
    let after = g.D.ReelFiles.given c.read_reels.new.files in
    read_for c.args.job.now before after _ inputs.machine inputs.cards tapes refl refl refl c.in-Ok-read_inputs.ensures.begun
    (subst (λ (reels : List MountedReel). AreMounted reels before after no_tapes tapes) c.as_slice.ensures.value
    c.in-Ok-read_reels.ensures.mounted)

pub returns-in-Err-read_reels-clause-fault : goal.returns-in-Err-read_reels-clause-fault
returns-in-Err-read_reels-clause-fault g c =
    let why = c.in-Err-read_reels.fault in
    unmounted_of c.args.job.now why
    (subst (λ (reels : List MountedReel). IsUnmounted reels why) c.as_slice.ensures.value c.in-Err-read_reels.ensures.fault)
