-- Each step leaves the invariant, or ends the run.
use Rattle.std.proofs.Common.{◌≡◌, ◌+◌, ◌-◌, ◌<◌, arith, sym, ◌∙◌, ap, subst}
use Rattle.cpu_1401.specs.Run.{Finished}
use Rattle.cpu_1401.proofs.RunLemmas.{SoFar, nothing_yet, goes_on, stops, limit_met}
use Rattle.cpu_1401.proofs.machine.Machine.run.Goals as goal

pub loop-left-init : goal.loop-left-init
loop-left-init c =
    let none : 0 ≡ c.args.limit - c.args.limit = omega arith in
    record {
      run = subst (λ n. SoFar c.args.limit c.args.self.now c.args.self.now n) none
          (nothing_yet c.args.limit c.args.self.now);
      size = omega arith;
      most = omega arith;
    }

pub returns-in-Some-clause-run : goal.returns-in-Some-clause-run
returns-in-Some-clause-run c =
    let most = c.loop-left.invariant.most in
    let some : 0 < c.loop-left.left = omega arith in
    let before : c.args.limit - c.loop-left.left < c.args.limit = omega arith in
    stops c.args.limit (c.args.limit - c.loop-left.left) c.args.self.now c.loop-left.self c.step.new.self c.in-Some.stop
    before c.loop-left.invariant.run
    (sym c.step.ensures.stop ∙ c.in-Some.is) c.step.ensures.state
    ∙ ap (λ n. let run : Finished = record {
      state = c.step.new.self;
      steps = c.args.limit - c.loop-left.left + n;
      stop = c.in-Some.stop;
    } in run) (sym c.carried_out.ensures.value)

pub loop-left-preserved : goal.loop-left-preserved
loop-left-preserved c =
    let most = c.loop-left.invariant.most in
    let before : c.args.limit - c.loop-left.left < c.args.limit = omega arith in
    let one_more : c.args.limit - c.loop-left.left + 1 ≡ c.args.limit - (c.loop-left.left - 1) = omega arith in
    let run =
    goes_on c.args.limit (c.args.limit - c.loop-left.left) c.args.self.now c.loop-left.self c.step.new.self before
    c.loop-left.invariant.run
    (sym c.step.ensures.stop ∙ c.in_default.is) c.step.ensures.state in
    record {
      run = subst (λ n. SoFar c.args.limit c.args.self.now c.step.new.self n) one_more run;
      size = c.step.ensures.size ∙ c.loop-left.invariant.size;
      most = omega arith;
    }

pub returns-clause-run : goal.returns-clause-run
returns-clause-run c =
    let all : c.args.limit - c.loop-left.left ≡ c.args.limit = omega arith in
    limit_met c.args.limit c.args.self.now c.loop-left.self
    (subst (λ n. SoFar c.args.limit c.args.self.now c.loop-left.self n) all c.loop-left.invariant.run)
