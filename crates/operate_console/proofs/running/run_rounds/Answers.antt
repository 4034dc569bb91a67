-- Each round after which the run isn't over is a round more.
use Rattle.std.proofs.Common.{rules, ◌≡◌, ◌∙◌, true, false, refl, arith, ap}
use Rattle.operate_console.specs.Run.{AfterRounds, at_run, is_why_met, read_on, slice_after}
use Rattle.operate_console.specs.declared.rounds.Progress.TheVariants as progress
use Rattle.operate_console.proofs.RunLemmas.{no_round, round_more, run_cut, run_unbegun, steps_on, still_left, went_on}
use Rattle.operate_console.proofs.running.run_rounds.Goals as goal

-- No instruction may be carried out.
pub returns-then-is_spent-clause-did : goal.returns-then-is_spent-clause-did
returns-then-is_spent-clause-did g c =
    run_unbegun c.args.asked.now.setting.manner.now.limit c.args.asked.now.extent.reach.most false
    (is_why_met c.end.result) (at_run c.args.sitting.now c.args.test.now) (search rules) c.end.ensures

-- The journal is full.
pub returns-clause-did : goal.returns-clause-did
returns-clause-did g c =
    let most = c.args.asked.now.extent.reach.most in
    let now = at_run c.loop-round.sitting c.loop-round.test in
    let after : AfterRounds = record { at = now; steps = c.loop-round.steps } in
    run_cut c.args.asked.now.setting.manner.now.limit most true (at_run c.args.sitting.now c.args.test.now) after now
    c.loop-round.invariant.so_far refl (no_round (slice_after most c.loop-round.steps) now)

-- What was printed couldn't be shown: no other round begins.
pub returns-in-Err-clause-did : goal.returns-in-Err-clause-did
returns-in-Err-clause-did g c =
    let most = c.args.asked.now.extent.reach.most in
    let begun = at_run c.args.sitting.now c.args.test.now in
    let before : AfterRounds = record { at = at_run c.loop-round.sitting c.loop-round.test; steps = c.loop-round.steps } in
    let now = at_run c.go_on.new.sitting c.go_on.new.test in
    let on : c.in-Ok-On.field-0 ≡ progress.On c.in-Ok-On.all = search rules in
    let more = went_on most c.in-Ok-On.field-0 c.in-Ok-On.all before now on c.in-Ok-On.ensures.ok in
    let after : AfterRounds = record { at = now; steps = c.in-Ok-On.all } in
    run_cut c.args.asked.now.setting.manner.now.limit most true begun after now
    (round_more most begun before after c.loop-round.invariant.so_far more) refl
    (no_round (slice_after most c.in-Ok-On.all) now)

pub loop-round-preserved : goal.loop-round-preserved
loop-round-preserved g c =
    let most = c.args.asked.now.extent.reach.most in
    let begun = at_run c.args.sitting.now c.args.test.now in
    let before : AfterRounds = record { at = at_run c.loop-round.sitting c.loop-round.test; steps = c.loop-round.steps } in
    let now = at_run c.go_on.new.sitting c.go_on.new.test in
    let on : c.in-Ok-On.field-0 ≡ progress.On c.in-Ok-On.all = search rules in
    let more = went_on most c.in-Ok-On.field-0 c.in-Ok-On.all before now on c.in-Ok-On.ensures.ok in
    let all = steps_on c.in-Ok-On.field-0 c.in-Ok-On.all on in
    record {
      so_far =
          round_more most begun before (record { at = now; steps = c.in-Ok-On.all }) c.loop-round.invariant.so_far
          more;
      steps = omega (arith, all, c.in-Ok-On.ensures.bound, c.loop-round.invariant.steps);
      left = still_left most false before (record { at = now; steps = c.in-Ok-On.all }) more;
      noted = c.show_and_listen.ensures.noted
          ∙ ap (read_on c.show_and_listen.new.notebook.has_ended)
          (c.go_on.ensures.noted ∙ c.loop-round.invariant.noted);
      good = c.in-Ok-false.ensures.good;
      sink = c.in-Ok-false.ensures.sink;
      kept = c.in-Ok-On.ensures.kept;
    }
