-- Each change is added, and copied.
use Rattle.job_steps.proofs.WalkLemmas.{IsCopied, all_same, all_text, at_first, at_next, first_text, next_text}
use Rattle.std.proofs.Common.{◌<◌, ◌≤◌, ◌∙◌, length, sym, arith}
use Rattle.job_steps.proofs.changes.put_changes.Goals as goal

pub loop-at-init : goal.loop-at-init
loop-at-init c =
    let before = c.args.before.now in
    let after = c.args.after.now in
    let at = c.next_change-at.result in
    record {
      walked = at_first before after at c.requires c.next_change-at.ensures;
      text = λ whole. (whole, first_text c.args.text.now.items before after at c.requires c.next_change-at.ensures);
    }

pub loop-at-preserved : goal.loop-at-preserved
loop-at-preserved c =
    let old = c.args.before.now in
    let after = c.args.after.now in
    let walked = c.loop-at.invariant.walked in
    let lt : c.loop-at.at < length after = omega (arith, c.loop-at-test.true, c.size-size.ensures.value) in
    let copied : IsCopied c.loop-at.before c.copy_cells.new.before after c.loop-at.at c.end_of_change-end.result =
    record {
      size = c.copy_cells.ensures.size;
      inside = c.copy_cells.ensures.inside;
      below = c.copy_cells.ensures.below;
      above = c.copy_cells.ensures.above;
    } in
    record {
      walked =
          at_next old c.loop-at.before c.copy_cells.new.before after c.loop-at.at c.end_of_change-end.result
          c.next_change-at-in-loop-at.result walked lt c.end_of_change-end.ensures copied
          c.next_change-at-in-loop-at.ensures;
      text = λ whole.
          let last = c.put_change.ensures whole in
          let front = c.loop-at.invariant.text last.0 in (
            front.0,
            next_text c.loop-at.text.items c.put_change.new.text.items old c.loop-at.before c.copy_cells.new.before
                after c.loop-at.at c.end_of_change-end.result c.next_change-at-in-loop-at.result walked lt
                c.end_of_change-end.ensures copied c.next_change-at-in-loop-at.ensures last.1
                ∙ front.1,
          );
    }

pub returns-clause-text : goal.returns-clause-text
returns-clause-text c whole =
    let front = c.loop-at.invariant.text whole in
    let past : length c.args.after.now ≤ c.loop-at.at = omega (arith, c.loop-at-test.false, c.size-size.ensures.value) in (
      front.0,
      sym (all_text c.loop-at.text.items c.args.before.now c.loop-at.before c.args.after.now c.loop-at.at
          c.loop-at.invariant.walked past) ∙ front.1,
    )

pub returns-clause-same : goal.returns-clause-same
returns-clause-same c =
    all_same c.args.before.now c.loop-at.before c.args.after.now c.loop-at.at c.loop-at.invariant.walked
    (omega (arith, c.loop-at-test.false, c.size-size.ensures.value))
