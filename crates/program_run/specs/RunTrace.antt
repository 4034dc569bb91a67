-- What a program that runs with a deck writes to its trace (own).
use Rattle.std.specs.Prelude.{◌≡◌, ⊤, IsTrue, ℕ, ◌-◌, ◌==◌, Bool, true, false, if◌then◌else◌, List, [], ◌++◌, length}
use Rattle.std.specs.Prelude.{Option, None, Some}
use Rattle.std.specs.Io.KnownBytes.{Appends}
use Rattle.machine_tables.specs.declared.stop.Stop.{Stop}
use Rattle.cpu_1401.specs.State.{State}
use Rattle.machine_tapes.specs.TapeLoading.{loaded_from}
use Rattle.machine_tapes.specs.TapedStep.{TapedStepped}
use Rattle.machine_tapes.specs.declared.taped_machine.TapedMachine.{TapedMachine}
use Rattle.job_runner.specs.Unattended.{taped_load}
use Rattle.program_arguments.specs.declared.call.Start.{Start}
use Rattle.program_arguments.specs.declared.call.Start.TheVariants as start
use Rattle.program_run.specs.declared.deck_running.Broken.{Broken}
use Rattle.program_run.specs.declared.deck_running.Broken.TheVariants as broken
use Rattle.job_steps.specs.declared.work.Work.{Work}
use Rattle.job_steps.specs.TraceLine.{Seen, line_of, seen_of}
use Rattle.program_run.specs.TraceText.{trace_text}

-- what is seen of a machine, if there is a trace
abbrev pub seen_if : Bool → State → Option Seen
seen_if true s = Some (seen_of s)
seen_if false s = None

-- a text, if there is a trace
abbrev pub traced : Bool → List ℕ → List ℕ
traced true text = text
traced false text = []

-- the line of a step, if there is a trace
abbrev pub line_if : Option Seen → Work → Option Stop → State → List ℕ
line_if None work why after = []
line_if (Some before) work why after = line_of before work why after

-- what is written after this many steps, of which there is one at most if there is a trace
abbrev pub lines_after : ℕ → Option Seen → Work → Option Stop → State → List ℕ
lines_after steps before work why after = if steps == 0 then [] else line_if before work why after

-- storage has as many places as were seen, if there is a trace
abbrev pub IsOfSize : Option Seen → State → Type 0
IsOfSize None s = ⊤
IsOfSize (Some before) s = length before.storage ≡ length s.storage

-- how many steps are carried out at once: one if there is a trace
abbrev pub most_at_once : Bool → ℕ
most_at_once true = 1
most_at_once false = 500

-- the trace of what is left of a job: nothing if it has stopped
abbrev pub rest_traced : Option Stop → ℕ → TapedMachine → List ℕ
rest_traced None limit t = trace_text limit t
rest_traced (Some why) limit t = []

-- why something wasn't written: if a write to the trace failed, that is reported, and else none has failed
abbrev pub IsWhyUntraced : Broken → Bool → Bool → Type 0
IsWhyUntraced broken.Memory trace trace' = trace' ≡ trace
IsWhyUntraced broken.Paper trace trace' = trace' ≡ trace
IsWhyUntraced broken.Punch trace trace' = trace' ≡ trace
IsWhyUntraced broken.Trace trace trace' = IsTrue trace'

-- a stretch wrote the lines of its steps, and leaves the rest of the trace
pub record TracedStretch (is : Bool) (limit steps : ℕ) (found : Option Stop) (before after : TapedMachine)
    (old new : Option (List ℕ)) : Type 0 where
  pub lines : List ℕ
  pub written : Appends old new lines
  pub whole : traced is (trace_text limit before) ≡ lines ++ traced is (rest_traced found (limit - steps) after)

-- the trace of a job that begins with a key pressed, unless the key has stopped it
abbrev pub pressed_trace : ℕ → TapedStepped → List ℕ
pressed_trace limit pressed = rest_traced pressed.stop limit pressed.taped

-- the trace of the job of a machine that is started at its entry, by the load key, for which there must be a card, or by
-- the key that loads from tape
abbrev pub started_trace : Start → ℕ → TapedMachine → List ℕ
started_trace start.Entry limit t = trace_text limit t
started_trace start.LoadKey limit t =
    if length t.machine.devices.hopper == 0 then [] else trace_text limit (taped_load t)
started_trace (start.LoadTape unit) limit t = pressed_trace limit (loaded_from unit t)
