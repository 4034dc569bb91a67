-- What runs do (own). A run is rounds: what devices want, and then a slice, which is a search that breaks, watches and
-- devices end. It says what a slice looks for and how long it is, and after which round a run is over.
use Rattle.std.specs.Prelude.{◌≡◌, ◌⊎◌, ℕ, ◌+◌, ◌-◌, min, nat_le, Bool, true, false, ◌||◌, if◌then◌else◌, List, [], ◌∷◌, ◌++◌}
use Rattle.std.specs.Prelude.{Option, None, Some, unwrap_or, Result, Ok, Err}
use Rattle.cpu_1401.specs.Run.{most_steps}
use Rattle.cpu_1401.specs.State.{State}
use Rattle.operate_sitting.specs.FullDevices.{wants_hands}
use Rattle.operate_sitting.specs.RunOf.{answer_of, run_of}
use Rattle.operate_sitting.specs.Search.{search}
use Rattle.operate_sitting.specs.declared.breaks.Always.{Always}
use Rattle.operate_sitting.specs.declared.breaks.Break.{Break}
use Rattle.operate_sitting.specs.declared.full_devices.FullDevices.{FullDevices}
use Rattle.operate_sitting.specs.declared.one_of.OneOf.{OneOf}
use Rattle.operate_sitting.specs.declared.search.Found.{Found}
use Rattle.operate_sitting.specs.declared.search.SearchEnd.{SearchEnd}
use Rattle.operate_sitting.specs.declared.search.SearchEnd.TheVariants as end
use Rattle.operate_answers.specs.StopTest.{break_begun, break_seen}
use Rattle.operate_answers.specs.Stops.{AllStops, is_any_met, stops_begun, stops_counted, stops_seen}
use Rattle.operate_answers.specs.declared.endings.Ended.{Ended}
use Rattle.operate_answers.specs.declared.endings.Ended.TheVariants as ended
use Rattle.operate_sitting.specs.Notes.{hand_of}
use Rattle.operate_sitting.specs.Sitting.{SittingAccount, journal_of, machine_of, tending_of, watching}
use Rattle.operate_sitting.specs.Tending.{CarriedAll, CarriedPart}
use Rattle.operate_console.specs.declared.ends.Failure.{Failure}
use Rattle.operate_console.specs.declared.extent.Reach.{Reach}
use Rattle.operate_console.specs.declared.rounds.Progress.{Progress}
use Rattle.operate_console.specs.declared.rounds.Progress.TheVariants as progress
use Rattle.operate_console.specs.declared.running.Ran.{Ran}
use Rattle.operate_console.specs.declared.running.Ran.TheVariants as ran
use Rattle.operate_console.specs.declared.run_stops.RunStops.{RunStops}
use Rattle.room_alone.specs.Journal.{entry}

-- what is noted next to a sitting: breaks and watches, whether the line that is being done had a fault, and whether the
-- input has ended
pub record NotebookAccount : Type 0 where
  pub stops : AllStops
  pub is_faulted : Bool
  pub has_ended : Bool

-- a fault is reported
abbrev pub faulted : NotebookAccount → NotebookAccount
faulted it = record it { is_faulted = true }

-- a line begins
abbrev pub unfaulted : NotebookAccount → NotebookAccount
unfaulted it = record it { is_faulted = false }

-- more was read, after which the input has ended or not
abbrev pub read_on : Bool → NotebookAccount → NotebookAccount
read_on has_ended it = record it { has_ended = has_ended }

-- what lines change: the sitting, and breaks and watches
pub record AtConsole : Type 0 where
  pub sitting : SittingAccount
  pub stops : AllStops

abbrev pub at_console : SittingAccount → NotebookAccount → AtConsole
at_console sitting notebook = record { sitting = sitting; stops = notebook.stops }

-- an address at which no instruction is
abbrev pub nowhere : ℕ
nowhere = 65535

-- the break at the address up to which a run goes, if it goes up to one
abbrev pub IsUntil : Option ℕ → Break Always → Type 0
IsUntil until it = (it.address ≡ unwrap_or until nowhere) × (it.only ≡ None)

-- what the address, breaks and watches remember as a slice begins
abbrev pub ends_begun : RunStops → State → RunStops
ends_begun it s =
    record { until = break_begun it.until; stops = stops_begun it.stops s; is_met = false }

-- and after a step: whether it comes to the address, or meets a break or a watch
abbrev pub ends_seen : RunStops → State → RunStops
ends_seen it s =
    let until = break_seen true it.until s in
    let stops = stops_seen it.stops s in
    record { until = until; stops = stops; is_met = until.is_met || is_any_met stops }

-- the same with devices that want hands
abbrev pub RunTest : Type 0
RunTest = OneOf RunStops FullDevices

abbrev pub test_begun : RunTest → State → RunTest
test_begun it s = record { first = ends_begun it.first s; second = record it.second { is_met = false } }

abbrev pub test_seen : RunTest → State → RunTest
test_seen it s = record {
  first = ends_seen it.first s;
  second = record it.second { is_met = wants_hands it.second.has_more_cards s.devices };
}

abbrev pub is_test_met : RunTest → Bool
is_test_met it = it.first.is_met || it.second.is_met

-- nothing was recorded
pub record IsSame (before after : SittingAccount) : Type 0 where
  pub journal : journal_of after ≡ journal_of before
  pub size : after.account.room.size ≡ before.account.room.size
  pub notes : after.notes ≡ before.notes

-- a run: the sitting, and what ends the run
pub record AtRun : Type 0 where
  pub sitting : SittingAccount
  pub ends : RunStops

abbrev pub at_run : SittingAccount → RunTest → AtRun
at_run sitting test = record { sitting = sitting; ends = test.first }

-- a run that has carried out this many instructions
pub record AfterRounds : Type 0 where
  pub at : AtRun
  pub steps : ℕ

-- A slice of this many instructions at most: the machine goes until a step comes to the address, meets a break or a
-- watch or stops it, until devices want hands, or for all of them, and one command is recorded.
pub record SliceDid (most : ℕ) (found : Found) (before after : AtRun) : Type 0 where
  pub left : RunTest
  pub search_is : search test_seen is_test_met most
      (test_begun (record { first = before.ends; second = watching (hand_of before.sitting.notes) })
      (machine_of before.sitting))
      (machine_of before.sitting) ≡ record { state = machine_of after.sitting; memory = left; found = found }
  pub ends : after.ends ≡ left.first
  pub recorded : journal_of after.sitting
      ≡ journal_of before.sitting ++ entry 0 (run_of found) (answer_of found (machine_of after.sitting)) ∷ []
  pub size : after.sitting.account.room.size ≡ before.sitting.account.room.size
  pub notes : after.sitting.notes ≡ before.sitting.notes

-- all that devices want was done
pub record TendedAll (before after : SittingAccount) : Type 0 where
  pub carried : CarriedAll before.account.room.size (tending_of before) (journal_of before) (journal_of after)
      before.notes.given after.notes.given
  pub size : after.account.room.size ≡ before.account.room.size
  pub notes : after.notes ≡ record before.notes { given = after.notes.given }

-- the first of it, or all, or nothing
pub record TendedPart (before after : SittingAccount) : Type 0 where
  pub carried : CarriedPart before.account.room.size (tending_of before) (journal_of before) (journal_of after)
      before.notes.given after.notes.given
  pub size : after.account.room.size ≡ before.account.room.size
  pub notes : after.notes ≡ record before.notes { given = after.notes.given }

-- a round: all that devices want, and then a slice of this many instructions at most
pub record RoundDid (most : ℕ) (found : Found) (before after : AtRun) : Type 0 where
  pub middle : SittingAccount
  pub tended : TendedAll before.sitting middle
  pub slice : SliceDid most found (record { sitting = middle; ends = before.ends }) after

-- what devices want, or the first of it, and no slice
pub record RoundBegun (before after : AtRun) : Type 0 where
  pub tended : TendedPart before.sitting after.sitting
  pub ends : after.ends ≡ before.ends

-- a round, after which something was refused
pub record WholeRound (most : ℕ) (before after : AtRun) : Type 0 where
  pub found : Found
  pub round : RoundDid most found before after

-- a round that something was refused in, or before which, or after which
abbrev pub CutRound : ℕ → AtRun → AtRun → Type 0
CutRound most before after = RoundBegun before after ⊎ WholeRound most before after

-- the same of a slice: it has not begun, or its entry isn't kept
pub record NoSlice (before after : AtRun) : Type 0 where
  pub same : IsSame before.sitting after.sitting
  pub ends : after.ends ≡ before.ends

pub record WholeSlice (most : ℕ) (before after : AtRun) : Type 0 where
  pub found : Found
  pub slice : SliceDid most found before after

abbrev pub CutSlice : ℕ → AtRun → AtRun → Type 0
CutSlice most before after = NoSlice before after ⊎ WholeSlice most before after

-- how many instructions the next slice has at most, after this many: those that are left, as far as one command goes
abbrev pub slice_after : Option ℕ → ℕ → ℕ
slice_after None steps = most_steps
slice_after (Some most) steps = min (most - steps) most_steps

-- whether a slice ends the run: the machine stopped, or the last step came to the address or met a break or a watch
abbrev pub ends_run : SearchEnd → Bool → Bool
ends_run (end.Stop why) is_met = true
ends_run end.Met is_met = is_met
ends_run end.Limit is_met = false

-- whether a run ends with a slice since its last step came to the address or met a break or a watch
abbrev pub is_end_met : SearchEnd → Bool → Bool
is_end_met (end.Stop why) is_met = false
is_end_met end.Met is_met = is_met
is_end_met end.Limit is_met = false

-- the same, as the code has it
abbrev pub is_why_met : Ended → Bool
is_why_met (ended.Stopped why) = false
is_why_met ended.Met = true
is_why_met ended.Counted = false
is_why_met ended.Interrupted = false
is_why_met ended.Unattended = false

abbrev pub was_met_after : Progress → Bool
was_met_after (progress.On all) = false
was_met_after (progress.Ended why all) = is_why_met why

-- whether a run has no more instructions
abbrev pub is_spent : Option ℕ → ℕ → Bool
is_spent None steps = false
is_spent (Some most) steps = nat_le most steps

-- whether a run is over after a round
abbrev pub is_over : Option ℕ → Found → AfterRounds → Bool
is_over most found it = ends_run found.end it.at.ends.is_met || is_spent most it.steps

-- a round more, after which the run is over or isn't, and whose last step met what ends it or didn't
pub record RoundMore (most : Option ℕ) (over met : Bool) (before after : AfterRounds) : Type 0 where
  pub found : Found
  pub round : RoundDid (slice_after most before.steps) found before.at after.at
  pub steps : after.steps ≡ before.steps + found.steps
  pub over_is : is_over most found after ≡ over
  pub met_is : is_end_met found.end after.at.ends.is_met ≡ met

-- the same, as the code has it
abbrev pub ProgressDid : Option ℕ → Progress → AfterRounds → AtRun → Type 0
ProgressDid most (progress.On all) before after =
    RoundMore most false false before (record { at = after; steps = all })
ProgressDid most (progress.Ended why all) before after =
    RoundMore most true (is_why_met why) before (record { at = after; steps = all })

-- how many instructions a run has carried out
abbrev pub steps_of : Progress → ℕ
steps_of (progress.On all) = all
steps_of (progress.Ended why all) = all

-- a run goes on, or is over
abbrev pub ProgressIs : Progress → Bool → Type 0
ProgressIs (progress.On all) over = over ≡ false
ProgressIs (progress.Ended why all) over = over ≡ true

-- a run that isn't over may end after a round only if a person interrupts it; where runs have a limit there is nobody
abbrev pub MayEnd : Option ℕ → Bool → Type 0
MayEnd limit true = Unit {0}
MayEnd limit false = limit ≡ None

-- the last round of a run
pub record LastRound (limit : Option ℕ) (met : Bool) (most : Option ℕ) (before : AfterRounds) (after : AtRun)
    : Type 0 where
  pub over : Bool
  pub steps : ℕ
  pub round : RoundMore most over met before (record { at = after; steps = steps })
  pub may_end : MayEnd limit over

-- a run that may carry out no instruction at all
pub record NoneLeft (met : Bool) (most : Option ℕ) (before : AfterRounds) (after : AtRun) : Type 0 where
  pub spent : is_spent most before.steps ≡ true
  pub same : after ≡ before.at
  pub unmet : met ≡ false

-- a run that is cut off, for memory or a full journal, or since a read, a write or the keeper failed
pub record RunCut (is_cut met : Bool) (most : Option ℕ) (before : AfterRounds) (after : AtRun) : Type 0 where
  pub is_so : is_cut ≡ true
  pub unmet : met ≡ false
  pub round : CutRound (slice_after most before.steps) before.at after

-- how a run ends: after a round, before the first, or in a round or between two
abbrev pub RunEnds : Option ℕ → Bool → Bool → Option ℕ → AfterRounds → AtRun → Type 0
RunEnds limit is_cut met most before after =
    LastRound limit met most before after ⊎ (NoneLeft met most before after ⊎ RunCut is_cut met most before after)

-- a relation in turn through these, the last of them first
abbrev pub InTurn : {S : Type 0} → (S → S → Type 0) → S → List S → S → Type 0
InTurn related before [] after = after ≡ before
InTurn related before (last ∷ earlier) after = InTurn related before earlier last × related last after

-- rounds from the beginning of a run, after which it isn't over
abbrev pub RoundsSoFar : Option ℕ → AtRun → AfterRounds → Type 0
RoundsSoFar most before after =
    (between : List AfterRounds) × InTurn (RoundMore most false false) (record { at = before; steps = 0 }) between after

-- a run of this many instructions at most, if there is a bound: rounds after which it isn't over, and then its end,
-- which its last step met or didn't
pub record RunDid (limit : Option ℕ) (is_cut met : Bool) (most : Option ℕ) (before after : AtRun) : Type 0 where
  pub last : AfterRounds
  pub rounds : RoundsSoFar most before last
  pub ends : RunEnds limit is_cut met most last after

-- whether a run was cut off
abbrev pub is_refused : Ran → Bool
is_refused (ran.Ended why steps) = false
is_refused (ran.Refused fault) = true

abbrev pub was_cut : Result Ran Failure → Bool
was_cut (Ok how) = is_refused how
was_cut (Err why) = true

-- whether the last step of a run ended it
abbrev pub is_ran_met : Ran → Bool
is_ran_met (ran.Ended why steps) = is_why_met why
is_ran_met (ran.Refused fault) = false

abbrev pub was_met : Result Ran Failure → Bool
was_met (Ok how) = is_ran_met how
was_met (Err why) = false

-- breaks and watches after a run: those that its last step met count it, if that ended it
abbrev pub counted_if : Bool → AllStops → AllStops
counted_if met all = if met then stops_counted all else all

-- a run as far as this, at a console: it looks for the breaks and watches that are set, and for the address
pub record RanAsFar (limit : Option ℕ) (is_cut : Bool) (reach : Reach) (before after : AtConsole) : Type 0 where
  pub begun : RunStops
  pub left : RunStops
  pub met : Bool
  pub until : IsUntil reach.until begun.until
  pub stops : begun.stops ≡ before.stops
  pub ran : RunDid limit is_cut met reach.most (record { sitting = before.sitting; ends = begun })
      (record { sitting = after.sitting; ends = left })
  pub counted : after.stops ≡ counted_if met left.stops
