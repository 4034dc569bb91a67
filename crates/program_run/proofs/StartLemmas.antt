-- How a job begins that a key starts.
use Rattle.std.proofs.Common.{◌≡◌, ℕ, ◌==◌, not, Bool, true, false, List, [], length, Option, None, Some, Result, Ok}
use Rattle.std.proofs.Common.{Err, IfOk, MatchOption, OnErr, OnOk, arith, inr, subst, sym, ◌∙◌, ap}
use Rattle.std.proofs.lemmas.Bool.{not-false, not-true}
use Rattle.std.specs.Prelude.{if◌then◌else◌}
use Rattle.devices_1401.specs.declared.card.Card.{Card}
use Rattle.machine_tables.specs.declared.stop.Stop.{Stop}
use Rattle.machine_tables.specs.declared.stop.Stop.TheVariants as stop
use Rattle.cpu_1401.specs.Frame.{Frame}
use Rattle.machine_tapes.specs.TapeLoading.{loaded_from}
use Rattle.machine_tapes.specs.TapedFrame.{TapedStepLaw}
use Rattle.machine_tapes.specs.TapedStep.{TapedStepped}
use Rattle.machine_tapes.specs.Tapes.{Tapes}
use Rattle.machine_tapes.specs.declared.taped_machine.TapedMachine.{TapedMachine}
use Rattle.job_runner.specs.Unattended.{IsLeftOff, Job, ended, taped_load, taped_with_deck, unattended}
use Rattle.program_arguments.specs.declared.call.Start.{Start}
use Rattle.program_arguments.specs.declared.call.Start.TheVariants as start
use Rattle.program_run.specs.RunDeck.{BrokeOff, IsAtEndOf, pressed_job, report_of, started_job}
use Rattle.program_run.specs.RunStart.{GoesOnAs, StopsAs}
use Rattle.program_run.specs.RunTrace.{pressed_trace, started_trace}
use Rattle.program_run.specs.TraceText.{trace_text}
use Rattle.program_run.specs.declared.deck_running.Broken.{Broken}
use Rattle.program_run.specs.declared.job_report.JobReport.{JobReport}

-- from the entry
pub entry_goes_on : (how : Start) (t : TapedMachine) → how ≡ start.Entry → GoesOnAs how t t
entry_goes_on how t is = record {
  job = λ limit. ap (λ (each : Start). started_job each limit t) is;
  trace = λ limit. ap (λ (each : Start). started_trace each limit t) is;
}

-- the load key has read a card
pub key_goes_on : (how : Start) (t after : TapedMachine) → how ≡ start.LoadKey
    → true ≡ not (length t.machine.devices.hopper == 0) → after ≡ taped_load t → GoesOnAs how t after
key_goes_on how t after is some e =
    let held : (length t.machine.devices.hopper == 0) ≡ false = not-true (length t.machine.devices.hopper == 0) (sym some) in
    record {
      job = λ limit.
          ap (λ (each : Start). started_job each limit t) is
          ∙ ap (λ (none : Bool). if none then ended 0 stop.Reader t else unattended limit (taped_load t)) held
          ∙ ap (unattended limit) (sym e);
      trace = λ limit.
          ap (λ (each : Start). started_trace each limit t) is
          ∙ ap (λ (none : Bool). if none then [] else trace_text limit (taped_load t)) held
          ∙ ap (trace_text limit) (sym e);
    }

-- or there was none
pub key_stops : (how : Start) (t after : TapedMachine) → how ≡ start.LoadKey
    → false ≡ not (length t.machine.devices.hopper == 0) → after ≡ t → StopsAs how stop.Reader t after
key_stops how t after is none e =
    let empty : (length t.machine.devices.hopper == 0) ≡ true = not-false (length t.machine.devices.hopper == 0) (sym none) in
    record {
      job = λ limit.
          ap (λ (each : Start). started_job each limit t) is
          ∙ ap (λ (b : Bool). if b then ended 0 stop.Reader t else unattended limit (taped_load t)) empty
          ∙ ap (ended 0 stop.Reader) (sym e);
      trace = λ limit.
          ap (λ (each : Start). started_trace each limit t) is
          ∙ ap (λ (b : Bool). if b then [] else trace_text limit (taped_load t)) empty;
    }

-- a deck below the cards in the hopper isn't seen by the key that loads from tape
abbrev deck_alone : List Card → Frame
deck_alone deck = record { deck = deck; cards = []; lines = [] }

loaded_below : TapedStepLaw → (unit : ℕ) (deck : List Card) (t after : TapedMachine) (found : Option Stop)
    → found ≡ (loaded_from unit t).stop → after ≡ (loaded_from unit t).taped
    → (let x : TapedStepped = record { taped = taped_with_deck deck after; stop = found } in
    loaded_from unit (taped_with_deck deck t) ≡ x)
loaded_below law unit deck t after found stop_is taped_is =
    law.loading (deck_alone deck) unit t
    ∙ ap (λ (u : TapedMachine). let x : TapedStepped =
    record { taped = taped_with_deck deck u; stop = (loaded_from unit t).stop } in x) (sym taped_is)
    ∙ ap (λ (w : Option Stop). let x : TapedStepped = record { taped = taped_with_deck deck after; stop = w } in x)
    (sym stop_is)

-- a record was loaded from tape, or couldn't be
pub tape_pressed : TapedStepLaw → (how : Start) (unit : ℕ) (deck : List Card) (t after : TapedMachine)
    (found : Option Stop) → how ≡ start.LoadTape unit → found ≡ (loaded_from unit t).stop
    → after ≡ (loaded_from unit t).taped
    → MatchOption found (GoesOnAs how (taped_with_deck deck t) (taped_with_deck deck after))
    (λ why. StopsAs how why (taped_with_deck deck t) (taped_with_deck deck after))
tape_pressed law how unit deck t after None is stop_is taped_is =
    let pressed = loaded_below law unit deck t after None stop_is taped_is in
    record {
      job = λ limit. ap (λ (each : Start). started_job each limit (taped_with_deck deck t)) is ∙ ap (pressed_job limit) pressed;
      trace = λ limit.
          ap (λ (each : Start). started_trace each limit (taped_with_deck deck t)) is ∙ ap (pressed_trace limit) pressed;
    }
tape_pressed law how unit deck t after (Some why) is stop_is taped_is =
    let pressed = loaded_below law unit deck t after (Some why) stop_is taped_is in
    record {
      job = λ limit. ap (λ (each : Start). started_job each limit (taped_with_deck deck t)) is ∙ ap (pressed_job limit) pressed;
      trace = λ limit.
          ap (λ (each : Start). started_trace each limit (taped_with_deck deck t)) is ∙ ap (pressed_trace limit) pressed;
    }

-- so the whole job is known, whatever deck its cards are taken from
pub started_as : (how : Start) (limit : ℕ) (cards deck : List Card) (t after : TapedMachine) → deck ≡ cards
    → GoesOnAs how (taped_with_deck deck t) after → started_job how limit (taped_with_deck cards t) ≡ unattended limit after
started_as how limit cards deck t after e known =
    ap (λ (each : List Card). started_job how limit (taped_with_deck each t)) (sym e) ∙ known.job limit

pub traced_as : (how : Start) (limit : ℕ) (cards deck : List Card) (t after : TapedMachine) → deck ≡ cards
    → GoesOnAs how (taped_with_deck deck t) after → started_trace how limit (taped_with_deck cards t) ≡ trace_text limit after
traced_as how limit cards deck t after e known =
    ap (λ (each : List Card). started_trace how limit (taped_with_deck each t)) (sym e) ∙ known.trace limit

pub stopped_as : (how : Start) (why : Stop) (limit : ℕ) (cards deck : List Card) (t after : TapedMachine) → deck ≡ cards
    → StopsAs how why (taped_with_deck deck t) after → started_job how limit (taped_with_deck cards t) ≡ ended 0 why after
stopped_as how why limit cards deck t after e known =
    ap (λ (each : List Card). started_job how limit (taped_with_deck each t)) (sym e) ∙ known.job limit

pub untraced_as : (how : Start) (why : Stop) (limit : ℕ) (cards deck : List Card) (t after : TapedMachine) → deck ≡ cards
    → StopsAs how why (taped_with_deck deck t) after → started_trace how limit (taped_with_deck cards t) ≡ []
untraced_as how why limit cards deck t after e known =
    ap (λ (each : List Card). started_trace how limit (taped_with_deck each t)) (sym e) ∙ known.trace limit

-- what is reported of it
pub reported : (result : Result JobReport Broken) (held held' : ℕ) (job job' : Job) → held ≡ held' → job' ≡ job
    → IfOk result (λ report. report ≡ report_of held job) → IfOk result (λ report. report ≡ report_of held' job')
reported result held held' job job' e_held e_job is =
    subst (λ (each : Job). IfOk result (λ report. report ≡ report_of held' each)) (sym e_job)
    (subst (λ (count : ℕ). IfOk result (λ report. report ≡ report_of count job)) e_held is)

-- and how it leaves the machine
pub left_at_end : (result : Result JobReport Broken) (job job' : Job) (left : List Card) (t : TapedMachine) → job' ≡ job
    → OnOk result (taped_with_deck left t ≡ job.state) → OnOk result (IsAtEndOf job' t)
left_at_end (Ok report) job job' left t e is =
    record { left = left; state = is ∙ ap (λ (each : Job). each.state) (sym e) }
left_at_end (Err why) job job' left t e is = is

-- a job that broke off is one that goes on after the key, or that the key has stopped
pub broke_off_as : (how : Start) (limit : ℕ) (t after : TapedMachine) (tapes : Tapes) (result : Result JobReport Broken)
    → ((steps : ℕ) → started_job how steps t ≡ unattended steps after) → OnErr result (IsLeftOff limit after tapes)
    → OnErr result (BrokeOff how limit t tapes)
broke_off_as how limit t after tapes (Ok report) same off = tt
broke_off_as how limit t after tapes (Err why) same off =
    inr (off.0, off.1, ap (λ (job : Job). job.state.tapes) (same off.0) ∙ off.2)

pub stopped_off_as : (how : Start) (limit : ℕ) (why : Stop) (t after : TapedMachine) (tapes : Tapes)
    (result : Result JobReport Broken) → ((steps : ℕ) → started_job how steps t ≡ ended 0 why after)
    → OnErr result (tapes ≡ after.tapes) → OnErr result (BrokeOff how limit t tapes)
stopped_off_as how limit why t after tapes (Ok report) same off = tt
stopped_off_as how limit why t after tapes (Err broken) same off =
    inr (0, omega arith, ap (λ (job : Job). job.state.tapes) (same 0) ∙ sym off)
