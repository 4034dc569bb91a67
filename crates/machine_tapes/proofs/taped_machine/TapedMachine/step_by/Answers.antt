-- A tape instruction is carried out or refused, and another is the machine's own.
use Rattle.std.proofs.Common.{◌≡◌, Option, None, Some, refl, sym, ◌∙◌, ap}
use Rattle.cpu_1401.specs.Run.{Finished}
use Rattle.machine_tapes.specs.Instruction.{tape_instruction}
use Rattle.machine_tapes.specs.TapedStep.{TapedStepped, after_work, step_by}
use Rattle.machine_tapes.specs.Tapes.{unit_of}
use Rattle.machine_tapes.specs.Transfer.{work_at}
use Rattle.machine_tapes.specs.declared.taped_machine.TapedMachine.{TapedMachine}
use Rattle.machine_tapes.specs.declared.work.TapeInstruction.{TapeInstruction}
use Rattle.machine_tapes.proofs.RunLemmas.{one_alone, one_refused, one_step, other_step, stepped_is, with_tapes}
use Rattle.machine_tapes.proofs.taped_machine.TapedMachine.step_by.Goals as goal

pub returns-in-None-clause-run : goal.returns-in-None-clause-run
returns-in-None-clause-run c =
    let t : TapedMachine = c.args.self.now in
    let run : Finished = record { state = c.run.new.self; steps = c.run.result.steps; stop = c.run.result.stop } in
    let none : tape_instruction c.args.self.now.machine ≡ None = sym c.tape_instruction.ensures.value ∙ c.in-None.is in
    one_alone t run (other_step t c.requires ∙ ap (λ (o : Option TapeInstruction). step_by o t) none) c.run.ensures.run

pub returns-in-None-work-clause-run : goal.returns-in-None-work-clause-run
returns-in-None-work-clause-run c =
    let t : TapedMachine = c.args.self.now in
    let u : TapedMachine = with_tapes c.work.new.self c.work.new.machine in
    let this : TapeInstruction = c.in-Some.this in
    let some : tape_instruction c.args.self.now.machine ≡ Some this =
    sym c.tape_instruction.ensures.value ∙ c.in-Some.is in
    let done : TapedStepped = after_work this t (work_at this t.machine (unit_of t.tapes this.unit.number)) in
    one_step t u 1 refl (other_step t c.requires
    ∙ ap (λ (o : Option TapeInstruction). step_by o t) some
    ∙ stepped_is u None done (sym c.in-None-work.is ∙ c.work.ensures.stop) c.work.ensures.taped)

pub returns-in-Some-work-clause-run : goal.returns-in-Some-work-clause-run
returns-in-Some-work-clause-run c =
    let t : TapedMachine = c.args.self.now in
    let u : TapedMachine = with_tapes c.work.new.self c.work.new.machine in
    let this : TapeInstruction = c.in-Some.this in
    let some : tape_instruction c.args.self.now.machine ≡ Some this =
    sym c.tape_instruction.ensures.value ∙ c.in-Some.is in
    let done : TapedStepped = after_work this t (work_at this t.machine (unit_of t.tapes this.unit.number)) in
    one_refused t u c.in-Some-work.stop (other_step t c.requires
    ∙ ap (λ (o : Option TapeInstruction). step_by o t) some
    ∙ stepped_is u (Some c.in-Some-work.stop) done (sym c.in-Some-work.is ∙ c.work.ensures.stop) c.work.ensures.taped)
    c.in-Some-work.ensures.refused
