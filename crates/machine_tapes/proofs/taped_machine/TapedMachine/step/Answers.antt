-- The branch is taken.
use Rattle.std.proofs.Common.{◌≡◌, true, None, refl, sym, ◌∙◌, ap}
use Rattle.machine_tapes.specs.TapedStep.{TapedStepped, takes_file_branch}
use Rattle.machine_tapes.specs.declared.taped_machine.TapedMachine.{TapedMachine}
use Rattle.machine_tapes.proofs.RunLemmas.{branch_step, one_step}
use Rattle.machine_tapes.proofs.taped_machine.TapedMachine.step.Goals as goal

pub returns-then-takes_file_branch-clause-run : goal.returns-then-takes_file_branch-clause-run
returns-then-takes_file_branch-clause-run c =
    let t : TapedMachine = c.args.self.now in
    let u : TapedMachine = c.take_file_branch.new.self in
    let takes : takes_file_branch t ≡ true = sym c.takes_file_branch.ensures ∙ c.if-takes_file_branch.true in
    one_step t u 1 refl (branch_step t takes
    ∙ ap (λ (v : TapedMachine). let x : TapedStepped = record { taped = v; stop = None } in x) (sym c.take_file_branch.ensures.taped))
