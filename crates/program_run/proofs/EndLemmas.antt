-- How a run of files ends, by what its parts say.
use Rattle.std.proofs.Common.{◌≡◌, ◌∙◌, ℕ, List, Option, ap, arith, inr, refl, string_bytes, subst, sym}
use Rattle.std.proofs.Common.{OnOk, IfErr, Result, Ok, Err}
use Rattle.std.specs.Prelude.{⊤, option_map}
use Rattle.cpu_1401.specs.State.{State}
use Rattle.devices_1401.specs.declared.card.Card.{Card}
use Rattle.job_runner.specs.Unattended.{taped_with_deck}
use Rattle.machine_tables.specs.declared.stop.Stop.{Stop}
use Rattle.machine_tables.specs.declared.stop.Stop.TheVariants as stop
use Rattle.machine_tapes.specs.Tapes.{Tapes, no_tapes}
use Rattle.machine_tapes.specs.declared.taped_machine.TapedMachine.{TapedMachine}
use Rattle.program_arguments.specs.declared.call.Job.{Job}
use Rattle.program_arguments.specs.declared.call.Start.{Start}
use Rattle.program_run.specs.Run.{job_outcome, outcome_after}
use Rattle.program_run.specs.ReelPlaces.{places_of}
use Rattle.program_run.specs.WhyStopped.{IsWhyStopped}
use Rattle.program_run.specs.RunDeck.{BrokeOff, IsAtEndOf, started_job}
use Rattle.program_run.specs.RunEnd.{EndsAs, EndsWith, HandsOverAfter, IfStopped, IsBegunFor, IsHalt, IsReadFor, Ran}
use Rattle.program_run.specs.RunFile.{IsFaultOf, written_of}
use Rattle.program_run.specs.RunJob.{HasHalted, IsBegun, ReportsJob, begun_with, report_on}
use Rattle.program_run.specs.GivenReels.{GivenReel}
use Rattle.program_run.specs.RunReels.{AreMounted, IsUnwrittenReel}
use Rattle.program_run.specs.WrittenReels.{AreHandedOver, HandsOver, KnownFiles, files_of}
use Rattle.program_run.specs.declared.ending.Ending.{Ending}
use Rattle.program_run.specs.declared.fault.RunFault.{RunFault}
use Rattle.program_run.specs.declared.fault.RunFault.TheVariants as fault
use Rattle.program_run.specs.declared.job_report.JobReport.{JobReport}
use Rattle.program_run.specs.declared.running.Begun.{Begun}
use Rattle.program_run.proofs.FaultLemmas.{no_stop, unwritten_reel_untold}
use Rattle.program_run.proofs.ReelLemmas.{unwritten_of_run}

-- what was read for a job
pub read_for : (job : Job) (before after : Option (List GivenReel)) (it : Begun) (machine : State) (cards : List Card) (tapes : Tapes)
    → it.taped.machine ≡ machine → it.taped.tapes ≡ tapes → it.cards ≡ cards
    → IsBegun job.start job.language job.size (option_map string_bytes job.cards) machine cards
    → AreMounted job.reels.items before after no_tapes tapes → IsReadFor job before after it
read_for job before after it machine cards tapes machine_is tapes_are cards_are begun reels = record {
  begun =
      subst (λ (s : State). IsBegun job.start job.language job.size (option_map string_bytes job.cards) s it.cards)
      (sym machine_is)
      (subst (λ (each : List Card). IsBegun job.start job.language job.size (option_map string_bytes job.cards) machine each)
      (sym cards_are) begun);
  reels = subst (λ (each : Tapes). AreMounted job.reels.items before after no_tapes each) (sym tapes_are) reels;
}

-- what is reported of a job that has ended
outcome_ran : (job : Job) (old new : KnownFiles) (ending : Ending) → EndsAs job ending old new
    → Ran job old new (job_outcome ending)
outcome_ran job old new ending is = by ending.report.stop refl
  where
    by : (why : Stop) → ending.report.stop ≡ why → Ran job old new (outcome_after why ending)
    by stop.Limit e = (inr (inr (inr (λ h. cc))), is)
    by stop.Halt e = record { ending = ending; is = is; halt = e }
    by stop.Reader e = (inr (inr (inr (λ h. cc))), is)
    by stop.Forms e = (inr (inr (inr (λ h. cc))), is)
    by stop.Stacker e = (inr (inr (inr (λ h. cc))), is)
    by stop.NoMark e = (inr (inr (inr (λ h. cc))), is)
    by stop.OpCode e = (inr (inr (inr (λ h. cc))), is)
    by stop.Length e = (inr (inr (inr (λ h. cc))), is)
    by stop.Address e = (inr (inr (inr (λ h. cc))), is)
    by stop.Overlap e = (inr (inr (inr (λ h. cc))), is)
    by stop.Carriage e = (inr (inr (inr (λ h. cc))), is)
    by stop.NotFitted e = (inr (inr (inr (λ h. cc))), is)
    by stop.DChar e = (inr (inr (inr (λ h. cc))), is)
    by stop.Tape e = (inr (inr (inr (λ h. cc))), is)

-- and of one whose reels may not all be written
pub ended_ran : (job : Job) (old new : KnownFiles) (ending : Ending) (written result : Result ⊤ RunFault)
    → OnOk written (result ≡ job_outcome ending) → IfErr written (λ (why : RunFault). result ≡ Err why)
    → OnOk written (EndsAs job ending old new) → IfErr written (IsUnwrittenReel job.reels.items)
    → Ran job old new result
ended_ran job old new ending (Ok done) result whole err is unwritten =
    subst (Ran job old new) (sym whole) (outcome_ran job old new ending is)
ended_ran job old new ending (Err why) result whole err is unwritten =
    subst (Ran job old new) (sym err) (
      inr (inr (inr (unwritten_of_run (written_of job) why unwritten))),
      no_stop _ why (unwritten_reel_untold job.reels.items why unwritten),
    )

-- the job has come to its end, with each reel that is written
pub ends_if_whole : (job : Job) (it : Begun) (ending : Ending) (report : JobReport) (old new : KnownFiles)
    (after : TapedMachine) (written : Result ⊤ RunFault) → IsBegunFor job old.given new.given it
    → report ≡ report_on job.start job.limit (taped_with_deck it.cards it.taped)
    → IsAtEndOf (started_job job.start job.limit (taped_with_deck it.cards it.taped)) after
    → ending.report ≡ report → ending.reels ≡ places_of after.tapes
    → IsWhyStopped job.start after report.stop ending.reason
    → OnOk written (HandsOver old.handed new.handed (files_of after.tapes job.reels.items)) → OnOk written (EndsAs job ending old new)
ends_if_whole job it ending report old new after (Ok done) is report_is end same places so files = record {
  machine = is.machine;
  cards = it.cards;
  tapes = it.taped.tapes;
  begun = is.begun;
  reels = is.reels;
  ended =
      subst (λ (s : State). EndsWith job.start job.limit (begun_with s it.taped.tapes it.cards) job.reels.items ending old.handed new.handed)
      is.machine_is
      (record {
        after = after;
        end = end;
        report_is = same ∙ report_is;
        places_are = places;
        reason_is =
            subst (λ (each : JobReport). IsWhyStopped job.start after each.stop ending.reason) (sym same) so;
        files = files;
      });
}
ends_if_whole job it ending report old new after (Err why) is report_is end same places so files = tt

-- so the clauses of a run are known
pub halts : (job : Job) (old new : KnownFiles) (result : Result ⊤ RunFault) → Ran job old new result
    → OnOk result (IsHalt (λ ending. EndsAs job ending old new))
halts job old new (Ok done) ran = ran
halts job old new (Err why) ran = tt

pub has_halted : (job : Job) (old new : KnownFiles) (result : Result ⊤ RunFault) → Ran job old new result
    → OnOk result (HasHalted job)
has_halted job old new (Ok done) ran = (
  ran.ending.report,
  record {
    machine = ran.is.machine;
    cards = ran.is.cards;
    tapes = ran.is.tapes;
    before = old.given;
    after = new.given;
    begun = ran.is.begun;
    reels = ran.is.reels;
    report_is = ran.is.ended.report_is;
  },
  ran.halt,
)
has_halted job old new (Err why) ran = tt

pub fails : (job : Job) (old new : KnownFiles) (result : Result ⊤ RunFault) → Ran job old new result
    → IfErr result (IsFaultOf job)
fails job old new (Ok done) ran = tt
fails job old new (Err why) ran = ran.0

pub tells : (job : Job) (old new : KnownFiles) (result : Result ⊤ RunFault) → Ran job old new result
    → IfErr result (IfStopped (λ ending. EndsAs job ending old new))
tells job old new (Ok done) ran = tt
tells job old new (Err why) ran = ran.1

told_reports : (job : Job) (old new : KnownFiles) (why : RunFault)
    → IfStopped (λ ending. EndsAs job ending old new) why → ReportsJob job why
told_reports job old new fault.Output is = tt
told_reports job old new fault.Size is = tt
told_reports job old new (fault.File name why) is = tt
told_reports job old new (fault.Unwritten name) is = tt
told_reports job old new (fault.OneFile first second) is = tt
told_reports job old new (fault.Deck name why) is = tt
told_reports job old new (fault.Unloaded why) is = tt
told_reports job old new (fault.Stopped ending) is =
    record {
      machine = is.machine;
      cards = is.cards;
      tapes = is.tapes;
      before = old.given;
      after = new.given;
      begun = is.begun;
      reels = is.reels;
      report_is = is.ended.report_is;
    }
told_reports job old new (fault.Source why) is = tt
told_reports job old new (fault.Image why) is = tt
told_reports job old new (fault.Reel name why) is = tt
told_reports job old new (fault.Exists name) is = tt
told_reports job old new (fault.Replaced name beside) is = tt
told_reports job old new fault.Memory is = tt

pub reports : (job : Job) (old new : KnownFiles) (result : Result ⊤ RunFault) → Ran job old new result
    → IfErr result (ReportsJob job)
reports job old new (Ok done) ran = tt
reports job old new (Err why) ran = told_reports job old new why ran.1

-- the reels of a job that ended or broke off
pub hands_over_after : (job : Job) (it : Begun) (old new : KnownFiles) (units : Tapes)
    → IsBegunFor job old.given new.given it
    → BrokeOff job.start job.limit (taped_with_deck it.cards it.taped) units
    → AreHandedOver units job.reels.items old.handed new.handed → HandsOverAfter job old new
hands_over_after job it old new units is off handed = record {
  machine = is.machine;
  cards = it.cards;
  tapes = it.taped.tapes;
  begun = is.begun;
  reels = is.reels;
  units = units;
  broke_off =
      subst (λ (s : State). BrokeOff job.start job.limit (begun_with s it.taped.tapes it.cards) units) is.machine_is off;
  handed = handed;
}

-- the units of a job at its end are those after all of its steps
pub at_end_off : (how : Start) (limit : ℕ) (t after : TapedMachine) → IsAtEndOf (started_job how limit t) after
    → BrokeOff how limit t after.tapes
at_end_off how limit t after end =
    inr (limit, omega arith, ap (λ (each : TapedMachine). each.tapes) (sym end.state))
