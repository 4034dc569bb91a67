-- The run is of one instruction.
use Rattle.cpu_1401.specs.Fitting.{fitted_step}
use Rattle.operate_sitting.proofs.OneStepLemmas.{IsStep, step_of_run}
use Rattle.operate_sitting.proofs.search.step.Goals as goal

pub returns-clause-stop : goal.returns-clause-stop
returns-clause-stop c =
    let is : IsStep (fitted_step c.args.scout.now).stop (fitted_step c.args.scout.now).state c.run-ran.new.self
    c.stop_of.result = step_of_run c.args.scout.now c.run-ran.new.self c.run-ran.result.steps c.run-ran.result.stop
    c.stop_of.result c.run-ran.ensures.run c.run-ran.ensures.limit c.stop_of.ensures.limit c.stop_of.ensures.other in
    is.stop_is

pub returns-clause-state : goal.returns-clause-state
returns-clause-state c =
    let is : IsStep (fitted_step c.args.scout.now).stop (fitted_step c.args.scout.now).state c.run-ran.new.self
    c.stop_of.result = step_of_run c.args.scout.now c.run-ran.new.self c.run-ran.result.steps c.run-ran.result.stop
    c.stop_of.result c.run-ran.ensures.run c.run-ran.ensures.limit c.stop_of.ensures.limit c.stop_of.ensures.other in
    is.state_is
