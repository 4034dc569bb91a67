-- Each turn runs to a tape instruction and carries one out, or ends the run.
use Rattle.std.proofs.Common.{◌≡◌, ◌≢◌, ℕ, ◌-◌, ◌<◌, ◌≤◌, arith, rules, ◌∙◌}
use Rattle.machine_tables.specs.declared.stop.Stop.TheVariants as stop
use Rattle.machine_tapes.specs.declared.taped_machine.TapedMachine.{TapedMachine}
use Rattle.machine_tapes.proofs.RunLemmas.{ends, first_step, goes_on, limit_met}
use Rattle.machine_tapes.proofs.taped_machine.TapedMachine.run.Goals as goal

pub returns-then-ne-2-clause-run : goal.returns-then-ne-2-clause-run
returns-then-ne-2-clause-run c =
    let first : TapedMachine = c.args.self.now in
    let now : TapedMachine = c.loop-left.self in
    let at_tape : TapedMachine = c.run_to_tape-ran.new.self in
    let next : TapedMachine = c.step-ran.new.self in
    let run : ℕ = c.run_to_tape-ran.result.steps in
    let step : ℕ = c.step-ran.result.steps in
    let tape : c.run_to_tape-ran.result.stop ≡ stop.Tape = search rules in
    let stops : c.step-ran.result.stop ≢ stop.Limit = search rules in
    let before : run < c.loop-left.left = c.run_to_tape-ran.ensures.before tape in
    let few : step ≤ c.loop-left.left - run = omega (arith, before, c.step-ran.ensures.most) in
    let so_far =
    goes_on c.args.limit c.loop-left.left run first now at_tape c.loop-left.invariant.run c.run_to_tape-ran.ensures.most
    (c.run_to_tape-ran.ensures.tape tape) in
    let known =
    first_step (c.loop-left.left - run) step at_tape next c.step-ran.result.stop (omega (arith, before))
    c.step-ran.ensures.limit c.step-ran.ensures.run in
    ends c.args.limit (c.loop-left.left - run) step first at_tape next c.step-ran.result.stop so_far few
    (known.stops stops)

pub loop-left-preserved : goal.loop-left-preserved
loop-left-preserved c =
    let first : TapedMachine = c.args.self.now in
    let now : TapedMachine = c.loop-left.self in
    let at_tape : TapedMachine = c.run_to_tape-ran.new.self in
    let next : TapedMachine = c.step-ran.new.self in
    let run : ℕ = c.run_to_tape-ran.result.steps in
    let step : ℕ = c.step-ran.result.steps in
    let tape : c.run_to_tape-ran.result.stop ≡ stop.Tape = search rules in
    let limit : c.step-ran.result.stop ≡ stop.Limit = search rules in
    let before : run < c.loop-left.left = c.run_to_tape-ran.ensures.before tape in
    let few : step ≤ c.loop-left.left - run = omega (arith, before, c.step-ran.ensures.most) in
    let so_far =
    goes_on c.args.limit c.loop-left.left run first now at_tape c.loop-left.invariant.run c.run_to_tape-ran.ensures.most
    (c.run_to_tape-ran.ensures.tape tape) in
    let known =
    first_step (c.loop-left.left - run) step at_tape next c.step-ran.result.stop (omega (arith, before))
    c.step-ran.ensures.limit c.step-ran.ensures.run in
    record {
      run =
          goes_on c.args.limit (c.loop-left.left - run) step first at_tape next so_far few (known.goes limit);
      size =
          c.step-ran.ensures.size ∙ c.run_to_tape-ran.ensures.size ∙ c.loop-left.invariant.size;
    }

pub returns-clause-run : goal.returns-clause-run
returns-clause-run c =
    limit_met c.args.limit c.loop-left.left c.args.self.now
    c.loop-left.self c.loop-left.invariant.run (omega arith)
