-- How a run of files ends (own): what is reported, and the reels that are handed over to be written.
use Rattle.std.specs.Prelude.{◌≡◌, ℕ, ⊤, List, Option, Result, Ok, Err, option_map, string_bytes}
use Rattle.cpu_1401.specs.State.{State}
use Rattle.devices_1401.specs.declared.card.Card.{Card}
use Rattle.machine_tables.specs.declared.stop.Stop.TheVariants as stop
use Rattle.machine_tapes.specs.Tapes.{Tapes, no_tapes}
use Rattle.machine_tapes.specs.declared.taped_machine.TapedMachine.{TapedMachine}
use Rattle.program_arguments.specs.declared.call.Job.{Job}
use Rattle.program_arguments.specs.declared.call.MountedReel.{MountedReel}
use Rattle.program_arguments.specs.declared.call.Start.{Start}
use Rattle.program_run.specs.ReelPlaces.{places_of}
use Rattle.program_run.specs.WhyStopped.{IsWhyStopped}
use Rattle.program_run.specs.RunDeck.{BrokeOff, IsAtEndOf, started_job}
use Rattle.program_run.specs.RunFile.{IsFaultOf}
use Rattle.program_run.specs.RunJob.{IsBegun, begun_with, report_on, set_up}
use Rattle.program_run.specs.RunReels.{AreMounted}
use Rattle.program_run.specs.GivenReels.{GivenReel}
use Rattle.program_run.specs.WrittenReels.{AreHandedOver, HandsOver, KnownFiles, ReelFile, files_of}
use Rattle.program_run.specs.declared.ending.Ending.{Ending}
use Rattle.program_run.specs.declared.fault.RunFault.{RunFault}
use Rattle.program_run.specs.declared.fault.RunFault.TheVariants as fault
use Rattle.program_run.specs.declared.running.Begun.{Begun}

-- the job of a machine that is started so has come to its end: its report, why it stopped, and how far its reels are, is
-- what is reported, and each file of a reel is handed over with the text of the reel on its unit
pub record EndsWith (how : Start) (limit : ℕ) (begun : TapedMachine) (reels : List MountedReel) (ending : Ending)
    (old new : Option (List ReelFile)) : Type 0 where
  pub after : TapedMachine
  pub end : IsAtEndOf (started_job how limit begun) after
  pub report_is : ending.report ≡ report_on how limit begun
  pub places_are : ending.reels ≡ places_of after.tapes
  pub reason_is : IsWhyStopped how after ending.report.stop ending.reason
  pub files : HandsOver old new (files_of after.tapes reels)

-- the same of a job: its files are read, its reels are mounted, the machine is fitted and its switches are set
pub record EndsAs (job : Job) (ending : Ending) (old new : KnownFiles) : Type 0 where
  pub machine : State
  pub cards : List Card
  pub tapes : Tapes
  pub begun : IsBegun job.start job.language job.size (option_map string_bytes job.cards) machine cards
  pub reels : AreMounted job.reels.items old.given new.given no_tapes tapes
  pub ended :
      EndsWith job.start job.limit (begun_with (set_up job.features job.switches machine) tapes cards) job.reels.items
      ending old.handed new.handed

-- one of these endings, which is a halt
pub record IsHalt (Is : Ending → Type 0) : Type 0 where
  pub ending : Ending
  pub is : Is ending
  pub halt : ending.report.stop ≡ stop.Halt

-- a fault that reports a stop has one of these endings
abbrev pub IfStopped : (Ending → Type 0) → RunFault → Type 0
IfStopped Is fault.Output = ⊤
IfStopped Is fault.Size = ⊤
IfStopped Is (fault.File name why) = ⊤
IfStopped Is (fault.Unwritten name) = ⊤
IfStopped Is (fault.OneFile first second) = ⊤
IfStopped Is (fault.Deck name why) = ⊤
IfStopped Is (fault.Unloaded why) = ⊤
IfStopped Is (fault.Stopped ending) = Is ending
IfStopped Is (fault.Source why) = ⊤
IfStopped Is (fault.Image why) = ⊤
IfStopped Is (fault.Reel name why) = ⊤
IfStopped Is (fault.Exists name) = ⊤
IfStopped Is (fault.Replaced name beside) = ⊤
IfStopped Is fault.Memory = ⊤

-- what became of a job: it has come to a halt, or why not
abbrev pub Ran : Job → KnownFiles → KnownFiles → Result ⊤ RunFault → Type 0
Ran job old new (Ok done) = IsHalt (λ ending. EndsAs job ending old new)
Ran job old new (Err why) = IsFaultOf job why × IfStopped (λ ending. EndsAs job ending old new) why

-- a fault of a job that reports no stop
abbrev pub IsNoStopOf : Job → RunFault → Type 0
IsNoStopOf job why = IsFaultOf job why × IfStopped (λ _. ⊥) why

-- its files were read, and its reels are mounted
pub record IsReadFor (job : Job) (before after : Option (List GivenReel)) (read : Begun) : Type 0 where
  pub begun :
      IsBegun job.start job.language job.size (option_map string_bytes job.cards) read.taped.machine read.cards
  pub reels : AreMounted job.reels.items before after no_tapes read.taped.tapes

-- and the machine is fitted, and its switches are set
pub record IsBegunFor (job : Job) (before after : Option (List GivenReel)) (it : Begun) : Type 0 where
  pub machine : State
  pub begun : IsBegun job.start job.language job.size (option_map string_bytes job.cards) machine it.cards
  pub reels : AreMounted job.reels.items before after no_tapes it.taped.tapes
  pub machine_is : it.taped.machine ≡ set_up job.features job.switches machine

-- each reel that is written is handed over with the text of what its unit has after some of the steps of the job
pub record HandsOverAfter (job : Job) (old new : KnownFiles) : Type 0 where
  pub machine : State
  pub cards : List Card
  pub tapes : Tapes
  pub begun : IsBegun job.start job.language job.size (option_map string_bytes job.cards) machine cards
  pub reels : AreMounted job.reels.items old.given new.given no_tapes tapes
  pub units : Tapes
  pub broke_off :
      BrokeOff job.start job.limit (begun_with (set_up job.features job.switches machine) tapes cards) units
  pub handed : AreHandedOver units job.reels.items old.handed new.handed
