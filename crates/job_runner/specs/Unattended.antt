-- A job: a machine with its tape units that nobody attends, whose paper and punched cards are taken out at each step (own).
use Rattle.std.specs.Prelude.{◌≡◌, ◌≤◌, ℕ, ◌+◌, zero, suc, Bool, IsTrue, List, [], ◌++◌, Option, None, Some}
use Rattle.devices_1401.specs.declared.card.Card.{Card}
use Rattle.devices_1401.specs.declared.print_line.PrintLine.{PrintLine}
use Rattle.machine_tables.specs.declared.stop.Stop.{Stop}
use Rattle.machine_tables.specs.declared.stop.Stop.TheVariants as stop
use Rattle.cpu_1401.specs.CardsAndPrinter.{load, with_devices}
use Rattle.cpu_1401.specs.Run.{carried_out_by}
use Rattle.cpu_1401.specs.State.{State}
use Rattle.machine_tapes.specs.TapedStep.{taped_step}
use Rattle.machine_tapes.specs.Tapes.{Tapes}
use Rattle.machine_tapes.specs.declared.taped_machine.TapedMachine.{TapedMachine}
use Rattle.job_runner.specs.declared.fault.JobFault.{JobFault}
use Rattle.job_runner.specs.declared.fault.JobFault.TheVariants as fault

-- the end of a job: the machine with its tape units, how many instructions were carried out, why it ended, and all lines and punched
-- cards, oldest first
pub record Job : Type 0 where
  pub state : TapedMachine
  pub steps : ℕ
  pub stop : Stop
  pub lines : List PrintLine
  pub cards : List Card

-- the machine with paper and stacker emptied
abbrev pub emptied : State → State
emptied s = with_devices (record s.devices { stacker = []; paper = [] }) s

-- a machine with a deck below the cards in its hopper, of any length
abbrev pub with_deck : List Card → State → State
with_deck deck s = with_devices (record s.devices { hopper = s.devices.hopper ++ deck }) s

-- both of a machine with its tape units
abbrev pub taped_emptied : TapedMachine → TapedMachine
taped_emptied t = record t { machine = emptied t.machine }

abbrev pub taped_with_deck : List Card → TapedMachine → TapedMachine
taped_with_deck deck t = record t { machine = with_deck deck t.machine }

-- the load key pressed
abbrev pub taped_load : TapedMachine → TapedMachine
taped_load t = record t { machine = load t.machine }

-- what was on the paper and in the stacker goes out first
abbrev pub taken_first : TapedMachine → Job → Job
taken_first t job = record job {
  lines = t.machine.devices.paper ++ job.lines;
  cards = t.machine.devices.stacker ++ job.cards;
}

-- nothing more is carried out
abbrev pub ended : ℕ → Stop → TapedMachine → Job
ended steps why t =
    record {
      state = taped_emptied t;
      steps = steps;
      stop = why;
      lines = t.machine.devices.paper;
      cards = t.machine.devices.stacker;
    }

-- instructions that were carried out before
abbrev pub after_steps : ℕ → Job → Job
after_steps steps job = record job { steps = steps + job.steps }

-- a job goes on after a step that doesn't stop the machine
abbrev pub go_on : Option Stop → TapedMachine → (TapedMachine → Job) → Job
go_on None t more = after_steps 1 (more t)
go_on (Some why) t more = ended (carried_out_by why) why t

-- paper and stacker emptied, then a step, until the first stop or the limit
unfoldable pub unattended : ℕ → TapedMachine → Job
unattended zero t = ended 0 stop.Limit t
unattended (suc limit) t =
    taken_first t (go_on (taped_step (taped_emptied t)).stop (taped_step (taped_emptied t)).taped (unattended limit))

-- a job with what was written and carried out before it
abbrev pub after_output : List PrintLine → List Card → ℕ → Job → Job
after_output lines cards steps job = record {
  state = job.state;
  steps = steps + job.steps;
  stop = job.stop;
  lines = lines ++ job.lines;
  cards = cards ++ job.cards;
}

-- a list begins with another
pub record IsBeginning {X : Type 0} (part whole : List X) : Type 0 where
  pub rest : List X
  pub joined : part ++ rest ≡ whole

-- lines and cards with which a job's lines and cards begin
pub record IsPartOf (printed : List PrintLine) (punched : List Card) (job : Job) : Type 0 where
  pub lines : IsBeginning printed job.lines
  pub cards : IsBeginning punched job.cards

-- a job after another
abbrev pub after_job : Job → Job → Job
after_job first then_job = after_output first.lines first.cards first.steps then_job

-- a job of more steps goes on from this one's end
abbrev pub GoesOn : ℕ → TapedMachine → Type 0
GoesOn limit t =
    (more : ℕ) → unattended (limit + more) t
    ≡ after_job (unattended limit t) (unattended more (unattended limit t).state)

-- a job of more steps is this one
abbrev pub AtEnd : ℕ → TapedMachine → Type 0
AtEnd limit t = (more : ℕ) → unattended (limit + more) t ≡ unattended limit t

-- the lines and cards of a job of more steps begin with those of this one
abbrev pub Begins : ℕ → TapedMachine → Type 0
Begins limit t =
    (more : ℕ) → IsPartOf (unattended limit t).lines (unattended limit t).cards (unattended (limit + more) t)

-- the tape units of a job that broke off: those after some of its steps
abbrev pub IsLeftOff : ℕ → TapedMachine → Tapes → Type 0
IsLeftOff limit t tapes = (steps : ℕ) × (steps ≤ limit) × ((unattended steps t).state.tapes ≡ tapes)

-- whether a read of the deck and a write of what comes out have failed
pub record Failed : Type 0 where
  pub read : Bool
  pub write : Bool

abbrev pub failed : Bool → Bool → Failed
failed read write = record { read = read; write = write }

-- why a job breaks off: a read has failed, or a write has, or memory was refused and neither has
abbrev pub IsWhyBroken : JobFault → Failed → Failed → Type 0
IsWhyBroken fault.Read before after = IsTrue after.read × (after.write ≡ before.write)
IsWhyBroken fault.Write before after = (after.read ≡ before.read) × IsTrue after.write
IsWhyBroken fault.Memory before after = after ≡ before
