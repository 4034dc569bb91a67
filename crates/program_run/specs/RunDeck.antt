-- What a program that runs with a deck writes and reports (own).
use Rattle.std.specs.Prelude.{◌≡◌, ◌⊎◌, ◌≤◌, ℕ, ◌+◌, ◌-◌, ◌^◌, ◌==◌, Bool, false, IsTrue, if◌then◌else◌}
use Rattle.std.specs.Prelude.{List, [], length, map, min, Option, None, Some, option_map}
use Rattle.std.specs.Io.KnownBytes.{Appends}
use Rattle.std.specs.List.{flat_map}
use Rattle.devices_1401.specs.declared.card.Card.{Card}
use Rattle.devices_1401.specs.declared.print_line.PrintLine.{PrintLine}
use Rattle.machine_tables.specs.declared.stop.Stop.{Stop}
use Rattle.machine_tables.specs.declared.stop.Stop.TheVariants as stop
use Rattle.bcd_1401.specs.Graphics.{ours_of}
use Rattle.bcd_1401.specs.declared.graphics.Graphics.{Graphics}
use Rattle.job_runner.specs.DeckText.{card_text}
use Rattle.job_runner.specs.declared.paper.PaperPlace.{PaperPlace}
use Rattle.job_runner.specs.Paper.{paper_text, place_beyond}
use Rattle.job_runner.specs.Unattended.{Job, after_output, ended, taped_load, taped_with_deck, unattended}
use Rattle.machine_tapes.specs.TapeLoading.{loaded_from}
use Rattle.machine_tapes.specs.TapedStep.{TapedStepped}
use Rattle.machine_tapes.specs.Tapes.{Tapes}
use Rattle.machine_tapes.specs.declared.taped_machine.TapedMachine.{TapedMachine}
use Rattle.bytes_streams.specs.Sink.{AppendsPart}
use Rattle.program_arguments.specs.declared.call.Start.{Start}
use Rattle.program_arguments.specs.declared.call.Start.TheVariants as start
use Rattle.program_run.specs.declared.deck_running.Broken.{Broken}
use Rattle.program_run.specs.declared.deck_running.Broken.TheVariants as broken
use Rattle.program_run.specs.declared.deck_running.Stretch.{Stretch}
use Rattle.program_run.specs.declared.job_report.JobReport.{JobReport}

-- what the files of paper and of punched cards have received, if it is known
pub record Received : Type 0 where
  pub paper : Option (List ℕ)
  pub punch : Option (List ℕ)

abbrev pub received : Option (List ℕ) → Option (List ℕ) → Received
received paper punch = record { paper = paper; punch = punch }

-- the paper begins at the first line of form 1
abbrev pub first_place : PaperPlace
first_place = record { form = 1; line = 1 }

-- punched cards as a deck
abbrev pub cards_text : List Card → List ℕ
cards_text cards = flat_map card_text cards

-- lines and cards were written, and nothing else
pub record HasWritten (place : PaperPlace) (lines : List PrintLine) (cards : List Card) (old new : Received) : Type 0 where
  pub paper : Appends old.paper new.paper (paper_text place lines)
  pub punch : Appends old.punch new.punch (cards_text cards)

-- beginnings of these texts were written, and nothing else
pub record HasWrittenPart (place : PaperPlace) (lines : List PrintLine) (cards : List Card) (old new : Received)
    : Type 0 where
  pub paper : AppendsPart old.paper new.paper (paper_text place lines)
  pub punch : AppendsPart old.punch new.punch (cards_text cards)

-- what was received in the graphics of a chain, in this machine's
abbrev pub in_graphics : Graphics → Option (List ℕ) → Option (List ℕ)
in_graphics chain received = option_map (λ (text : List ℕ). map (ours_of chain) text) received

-- whether a write to a file has failed, if there is one
abbrev pub failed_of : {P : Type 0} → (P → Bool) → Option P → Bool
failed_of has_failed None = false
failed_of has_failed (Some file) = has_failed file

-- why something wasn't written: a write of paper or of cards failed, or none of these failed
abbrev pub IsWhyUnwritten : Broken → Bool → Bool → Bool → Bool → Type 0
IsWhyUnwritten broken.Memory paper paper' punch punch' = (paper' ≡ paper) × (punch' ≡ punch)
IsWhyUnwritten broken.Paper paper paper' punch punch' = IsTrue paper' × (punch' ≡ punch)
IsWhyUnwritten broken.Punch paper paper' punch punch' = (paper' ≡ paper) × IsTrue punch'
IsWhyUnwritten broken.Trace paper paper' punch punch' = (paper' ≡ paper) × (punch' ≡ punch)

-- what is left of a job: nothing if it has stopped
abbrev pub rest_of : Option Stop → ℕ → TapedMachine → Job
rest_of None limit t = unattended limit t
rest_of (Some why) limit t = record { state = t; steps = 0; stop = why; lines = []; cards = [] }

-- a stretch wrote what its steps print and punch, and leaves the rest of the job
pub record RanStretch (limit : ℕ) (place : PaperPlace) (before after : TapedMachine) (old new : Received)
    (stretch : Stretch) : Type 0 where
  pub lines : List PrintLine
  pub cards : List Card
  pub written : HasWritten place lines cards old new
  pub place_is : stretch.place ≡ place_beyond place lines
  pub printed_is : stretch.printed ≡ length lines
  pub punched_is : stretch.punched ≡ length cards
  pub job : unattended limit before
      ≡ after_output lines cards stretch.steps (rest_of stretch.stop (limit - stretch.steps) after)

-- a job that begins with a key pressed: nothing is carried out if the key has stopped it
abbrev pub job_by : Option Stop → ℕ → TapedMachine → Job
job_by None limit t = unattended limit t
job_by (Some why) limit t = ended 0 why t

abbrev pub pressed_job : ℕ → TapedStepped → Job
pressed_job limit pressed = job_by pressed.stop limit pressed.taped

-- the job of a machine that is started at its entry, by the load key, for which there must be a card, or by the key that
-- loads from tape
abbrev pub started_job : Start → ℕ → TapedMachine → Job
started_job start.Entry limit t = unattended limit t
started_job start.LoadKey limit t =
    if length t.machine.devices.hopper == 0 then ended 0 stop.Reader t else unattended limit (taped_load t)
started_job (start.LoadTape unit) limit t = pressed_job limit (loaded_from unit t)

-- a job goes on from the end of its first steps, in what it does with the tape units
abbrev pub LeadsOn : ℕ → TapedMachine → TapedMachine → Type 0
LeadsOn steps before after =
    (more : ℕ) → (unattended (steps + more) before).state.tapes ≡ (unattended more after).state.tapes

-- the tape units of a job that was started so and broke off: those that it began with, or those after some of its steps
abbrev pub BrokeOff : Start → ℕ → TapedMachine → Tapes → Type 0
BrokeOff how limit t tapes =
    (tapes ≡ t.tapes)
    ⊎ ((steps : ℕ) × (steps ≤ limit) × ((started_job how steps t).state.tapes ≡ tapes))

-- a machine with its tape units is that of a job at its end, but for cards of its deck that weren't fed
pub record IsAtEndOf (job : Job) (t : TapedMachine) : Type 0 where
  pub left : List Card
  pub state : taped_with_deck left t ≡ job.state

-- how high lines and cards are counted
abbrev pub most_counted : ℕ
most_counted = 2 ^ 64 - 1

-- what is reported of a job, whose hopper held this many cards
abbrev pub report_of : ℕ → Job → JobReport
report_of held job = record {
  stop = job.stop;
  i = job.state.machine.i;
  steps = job.steps;
  read = held - length job.state.machine.devices.hopper;
  printed = min (length job.lines) most_counted;
  punched = min (length job.cards) most_counted;
}
