-- Each stretch leaves the whole, or ends it.
use Rattle.std.proofs.Common.{◌≡◌, ◌+◌, ◌-◌, ℕ, arith, length, refl, subst, sym, ◌∙◌, ap, rules}
use Rattle.cpu_1401.specs.State.{State}
use Rattle.machine_tapes.specs.TapedRun.{TapedFinished}
use Rattle.machine_tapes.specs.declared.taped_machine.TapedMachine.{TapedMachine}
use Rattle.job_runner.specs.Unattended.{Job, IsLeftOff, IsPartOf, taped_with_deck, unattended}
use Rattle.job_runner.proofs.JoinLemmas.{at_end, begins, goes_on}
use Rattle.job_runner.proofs.job.run_job.Goals as goal
use Rattle.job_runner.proofs.JobLemmas.{HasRoom, room_for, part_beyond, stretch_begins, waiting_begins, taken_out, with_machine}
use Rattle.job_runner.proofs.JobLemmas.{no_step, run_tapes, stretch_goes_on, stretch_stops, nothing_left}

pub loop-steps-init : goal.loop-steps-init
loop-steps-init g c =
    let out = c.in_ok-take_all.ensures in
    record {
      whole = λ limit few.
          taken_out limit (limit - 0) 0 (g.W.Output.lines c.args.output.now)
          (g.W.Output.lines c.take_all.new.output) (g.W.Output.cards c.args.output.now)
          (g.W.Output.cards c.take_all.new.output) (g.R.Cards.left c.args.cards.now) c.args.taped.now
          (with_machine c.args.taped.now c.take_all.new.machine) out.lines out.cards
          (ap (with_machine c.args.taped.now) out.state) (omega arith);
      stacker = ap (λ (s : State). s.devices.stacker) out.state;
      paper = ap (λ (s : State). s.devices.paper) out.state;
      steps = omega arith;
      read = search rules;
      write = search rules;
      size = ap (λ (s : State). length s.storage) out.state;
    }

pub loop-steps-preserved : goal.loop-steps-preserved
loop-steps-preserved g c =
    let before = c.loop-steps.invariant in
    let left = g.R.Cards.left c.fill_hopper.new.cards in
    let m = c.loop-steps.taped in
    let filled = with_machine m c.fill_hopper.new.machine in
    let fed = c.fill_hopper.ensures in
    let run = c.run-ran.ensures in
    let after = c.run-ran.new.self in
    let out = c.in_ok-take_all-2.ensures in
    let room : HasRoom c.min.result left filled =
    room_for c.min.result left filled (omega arith) c.in_ok-fill_hopper.ensures.full
    (fed.stacker ∙ before.stacker) (fed.paper ∙ before.paper) in
    record {
      whole = λ limit few.
          before.whole limit (omega (arith, few)) ∙ stretch_goes_on c.taped_step_law.ensures limit c.loop-steps.steps c.min.result c.run-ran.result.steps
          c.run-ran.result.stop (g.W.Output.lines c.loop-steps.output) (g.W.Output.lines c.take_all-in-loop-steps.new.output)
          (g.W.Output.cards c.loop-steps.output) (g.W.Output.cards c.take_all-in-loop-steps.new.output)
          (g.R.Cards.left c.loop-steps.cards) left m filled after
          (with_machine after c.take_all-in-loop-steps.new.machine)
          (ap (with_machine m) fed.deck) room (omega (arith, few, run.limit c.in-Limit.is)) run.run c.in-Limit.is (run.limit c.in-Limit.is)
          out.lines out.cards (ap (with_machine after) out.state);
      stacker = ap (λ (s : State). s.devices.stacker) out.state;
      paper = ap (λ (s : State). s.devices.paper) out.state;
      steps = omega arith;
      read = search rules;
      write = search rules;
      size = ap (λ (s : State). length s.storage) out.state ∙ run.size ∙ fed.size ∙ before.size;
    }

pub returns-in_default-clause-job : goal.returns-in_default-clause-job
returns-in_default-clause-job g c =
    let before = c.loop-steps.invariant in
    let left = g.R.Cards.left c.fill_hopper.new.cards in
    let m = c.loop-steps.taped in
    let filled = with_machine m c.fill_hopper.new.machine in
    let fed = c.fill_hopper.ensures in
    let run = c.run-ran.ensures in
    let after = c.run-ran.new.self in
    let out = c.in_ok-take_all-2.ensures in
    let room : HasRoom c.min.result left filled =
    room_for c.min.result left filled (omega arith) c.in_ok-fill_hopper.ensures.full
    (fed.stacker ∙ before.stacker) (fed.paper ∙ before.paper) in
    before.whole c.args.limit before.steps ∙ stretch_stops c.taped_step_law.ensures c.args.limit c.loop-steps.steps c.min.result c.run-ran.result.steps
    c.run-ran.result.stop (g.W.Output.lines c.loop-steps.output) (g.W.Output.lines c.take_all-in-loop-steps.new.output)
    (g.W.Output.cards c.loop-steps.output) (g.W.Output.cards c.take_all-in-loop-steps.new.output)
    (g.R.Cards.left c.loop-steps.cards) left m filled after
    (with_machine after c.take_all-in-loop-steps.new.machine)
    (ap (with_machine m) fed.deck) room (omega arith) run.run c.in_default.not-Limit
    out.lines out.cards (ap (with_machine after) out.state)

pub returns-clause-job : goal.returns-clause-job
returns-clause-job g c =
    let before = c.loop-steps.invariant in
    before.whole c.args.limit before.steps
    ∙ nothing_left c.args.limit c.loop-steps.steps (g.W.Output.lines c.loop-steps.output)
    (g.W.Output.cards c.loop-steps.output) (g.R.Cards.left c.loop-steps.cards) c.loop-steps.taped (omega arith)
    before.stacker before.paper

pub returns-in_err-take_all-clause-part : goal.returns-in_err-take_all-clause-part
returns-in_err-take_all-clause-part g c =
    let whole = taped_with_deck (g.R.Cards.left c.args.cards.now) c.args.taped.now in
    let out = c.in_err-take_all.ensures in
    let part =
    part_beyond (g.W.Output.lines c.args.output.now) (g.W.Output.lines c.take_all.new.output) whole.machine.devices.paper
    (g.W.Output.cards c.args.output.now) (g.W.Output.cards c.take_all.new.output) whole.machine.devices.stacker 0
    (unattended c.args.limit whole) out.part_lines out.part_cards (waiting_begins c.args.limit whole) in
    search (rules, part)

pub returns-in_err-take_all-2-clause-part : goal.returns-in_err-take_all-2-clause-part
returns-in_err-take_all-2-clause-part g c =
    let before = c.loop-steps.invariant in
    let left = g.R.Cards.left c.fill_hopper.new.cards in
    let m = c.loop-steps.taped in
    let filled = with_machine m c.fill_hopper.new.machine in
    let fed = c.fill_hopper.ensures in
    let out = c.in_err-take_all-2.ensures in
    let room : HasRoom c.min.result left filled =
    room_for c.min.result left filled (omega arith) c.in_ok-fill_hopper.ensures.full
    (fed.stacker ∙ before.stacker) (fed.paper ∙ before.paper) in
    let part =
    subst (λ (job : Job). IsPartOf (g.W.Output.lines c.take_all-in-loop-steps.new.output)
    (g.W.Output.cards c.take_all-in-loop-steps.new.output) job) (sym (before.whole c.args.limit before.steps))
    (stretch_begins c.taped_step_law.ensures c.args.limit c.loop-steps.steps c.min.result c.run-ran.result.steps
    c.run-ran.result.stop (g.W.Output.lines c.loop-steps.output) (g.W.Output.lines c.take_all-in-loop-steps.new.output)
    (g.W.Output.cards c.loop-steps.output) (g.W.Output.cards c.take_all-in-loop-steps.new.output)
    (g.R.Cards.left c.loop-steps.cards) left m filled c.run-ran.new.self (ap (with_machine m) fed.deck) room (omega arith)
    c.run-ran.ensures.run out.part_lines out.part_cards) in
    search (rules, part)

pub returns-in_default-clause-at_end : goal.returns-in_default-clause-at_end
returns-in_default-clause-at_end g c = λ no_limit more.
    let s = taped_with_deck (g.R.Cards.left c.args.cards.now) c.args.taped.now in
    at_end c.args.limit more s
    (λ is_limit. no_limit (sym (ap (λ (job : Job). job.stop) (returns-in_default-clause-job g c)) ∙ is_limit))

pub returns-in_default-clause-begins : goal.returns-in_default-clause-begins
returns-in_default-clause-begins g c = λ more.
    begins c.args.limit more (taped_with_deck (g.R.Cards.left c.args.cards.now) c.args.taped.now)

pub returns-clause-goes_on : goal.returns-clause-goes_on
returns-clause-goes_on g c = λ _ more.
    let s = taped_with_deck (g.R.Cards.left c.args.cards.now) c.args.taped.now in
    let whole = returns-clause-job g c in
    goes_on c.args.limit more s (ap (λ (job : Job). job.stop) whole)
    (omega (arith, ap (λ (job : Job). job.steps) whole, c.loop-steps.invariant.steps))

pub returns-clause-begins : goal.returns-clause-begins
returns-clause-begins g c = λ more.
    begins c.args.limit more (taped_with_deck (g.R.Cards.left c.args.cards.now) c.args.taped.now)

pub returns-in_err-take_all-clause-left_off : goal.returns-in_err-take_all-clause-left_off
returns-in_err-take_all-clause-left_off g c =
    let start = taped_with_deck (g.R.Cards.left c.args.cards.now) c.args.taped.now in
    let off : IsLeftOff c.args.limit start c.args.taped.now.tapes = (0, omega arith, no_step 0 refl start) in
    search (rules, off)

pub returns-in_err-fill_hopper-clause-left_off : goal.returns-in_err-fill_hopper-clause-left_off
returns-in_err-fill_hopper-clause-left_off g c =
    let before = c.loop-steps.invariant in
    let start = taped_with_deck (g.R.Cards.left c.args.cards.now) c.args.taped.now in
    let steps = c.loop-steps.steps in
    let off : IsLeftOff c.args.limit start c.loop-steps.taped.tapes = (
      steps,
      before.steps,
      ap (λ (job : Job). job.state.tapes) (before.whole steps (omega arith))
          ∙ no_step (steps - steps) (omega arith) (taped_with_deck (g.R.Cards.left c.loop-steps.cards) c.loop-steps.taped),
    ) in
    search (rules, off)

pub returns-in_err-take_all-2-clause-left_off : goal.returns-in_err-take_all-2-clause-left_off
returns-in_err-take_all-2-clause-left_off g c =
    let before = c.loop-steps.invariant in
    let start = taped_with_deck (g.R.Cards.left c.args.cards.now) c.args.taped.now in
    let left = g.R.Cards.left c.fill_hopper.new.cards in
    let m = c.loop-steps.taped in
    let filled = with_machine m c.fill_hopper.new.machine in
    let fed = c.fill_hopper.ensures in
    let room : HasRoom c.min.result left filled =
    room_for c.min.result left filled (omega arith) c.in_ok-fill_hopper.ensures.full
    (fed.stacker ∙ before.stacker) (fed.paper ∙ before.paper) in
    let steps = c.loop-steps.steps in
    let n = c.min.result in
    let parts : (steps + n) - steps ≡ n = omega arith in
    let off : IsLeftOff c.args.limit start c.run-ran.new.self.tapes = (
      steps + n,
      omega arith,
      ap (λ (job : Job). job.state.tapes) (before.whole (steps + n) (omega arith))
          ∙ ap (λ (k : ℕ). (unattended k (taped_with_deck (g.R.Cards.left c.loop-steps.cards) m)).state.tapes) parts
          ∙ ap (λ (t : TapedMachine). (unattended n t).state.tapes) (sym (ap (with_machine m) fed.deck))
          ∙ run_tapes c.taped_step_law.ensures n left filled room
          ∙ ap (λ (r : TapedFinished). r.taped.tapes) c.run-ran.ensures.run,
    ) in
    search (rules, off)
