-- The trace of a job (own): the lines of its steps, that of a stop included.
use Rattle.std.specs.Prelude.{ℕ, zero, suc, List, [], ◌++◌, length, Option, None, Some}
use Rattle.machine_tables.specs.declared.stop.Stop.{Stop}
use Rattle.machine_tapes.specs.Instruction.{tape_instruction}
use Rattle.machine_tapes.specs.TapedStep.{TapedStepped, taped_step}
use Rattle.machine_tapes.specs.Tapes.{Tapes, unit_of}
use Rattle.machine_tapes.specs.declared.taped_machine.TapedMachine.{TapedMachine}
use Rattle.machine_tapes.specs.declared.work.TapeInstruction.{TapeInstruction}
use Rattle.job_runner.specs.Unattended.{taped_emptied}
use Rattle.job_steps.specs.TraceLine.{line_of, seen_of, work_of}
use Rattle.job_steps.specs.declared.work.TapeMark.{TapeMark}

-- how far the reel is of a unit that has carried out an instruction
abbrev pub mark_of : Tapes → ℕ → TapeMark
mark_of tapes unit = record { unit = unit; passed = length (unit_of tapes unit).reel.passed }

-- the same after a step, if it has carried out a tape instruction
abbrev pub mark_after : Option TapeInstruction → Option Stop → Tapes → Option TapeMark
mark_after None why tapes = None
mark_after (Some this) None tapes = Some (mark_of tapes this.unit.number)
mark_after (Some this) (Some why) tapes = None

-- the line of a step: a function of the machine before it and of what it leaves
abbrev pub taped_line : TapedMachine → TapedStepped → List ℕ
taped_line before done =
    line_of (seen_of before.machine)
    (work_of before.machine done.taped.machine (mark_after (tape_instruction before.machine) done.stop done.taped.tapes))
    done.stop done.taped.machine

-- the trace goes on after a step that doesn't stop the machine
abbrev pub trace_on : Option Stop → TapedMachine → (TapedMachine → List ℕ) → List ℕ
trace_on None t more = more t
trace_on (Some why) t more = []

-- the steps of a job, whose paper and punched cards are taken out at each of them
unfoldable pub trace_text : ℕ → TapedMachine → List ℕ
trace_text zero t = []
trace_text (suc limit) t =
    taped_line (taped_emptied t) (taped_step (taped_emptied t))
    ++ trace_on (taped_step (taped_emptied t)).stop (taped_step (taped_emptied t)).taped (trace_text limit)
