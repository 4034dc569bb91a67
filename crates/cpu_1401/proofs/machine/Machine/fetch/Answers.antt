-- What needs places that aren't there is refused.
use Rattle.std.proofs.Common.{◌≡◌, ◌∙◌, rules}
use Rattle.cpu_1401.specs.Fitting.{fitted_step}
use Rattle.cpu_1401.specs.State.{State}
use Rattle.cpu_1401.specs.Stepped.{stopped}
use Rattle.cpu_1401.proofs.FittingLemmas.{refused_operation}
use Rattle.cpu_1401.proofs.machine.Machine.fetch.Goals as goal

pub returns-in-Err-clause-stop : goal.returns-in-Err-clause-stop
returns-in-Err-clause-stop c =
    let s : State = c.args.self.now in
    let refused : fitted_step s ≡ stopped c.in-Err.stop s =
    c.instruction.ensures.fitted
    ∙ refused_operation s c.in-Some.said.now.operation c.instruction.result c.in-Err.stop c.in-Err.ensures.err in
    search rules

pub returns-in-Err-clause-state : goal.returns-in-Err-clause-state
returns-in-Err-clause-state c =
    let s : State = c.args.self.now in
    let refused : fitted_step s ≡ stopped c.in-Err.stop s =
    c.instruction.ensures.fitted
    ∙ refused_operation s c.in-Some.said.now.operation c.instruction.result c.in-Err.stop c.in-Err.ensures.err in
    search rules
