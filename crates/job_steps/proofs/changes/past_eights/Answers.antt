-- Eight places more are equal.
use Rattle.std.proofs.Common.{arith, sym, ◌∙◌}
use Rattle.job_steps.proofs.PlaceLemmas.{eight_more}
use Rattle.job_steps.proofs.changes.past_eights.Goals as goal

pub loop-at-preserved : goal.loop-at-preserved
loop-at-preserved c = record {
  least = omega (arith, c.loop-at.invariant.least);
  most = omega (arith, c.loop-at-test.true, c.size-size.ensures.value);
  same =
      eight_more c.args.before.now c.args.after.now c.args.from c.loop-at.at c.eight_cells.result.codes
      c.eight_cells.result.marks c.eight_cells-in-loop-at.result.codes c.eight_cells-in-loop-at.result.marks
      c.eight_cells.ensures c.eight_cells-in-loop-at.ensures (sym c.eq.ensures ∙ c.if-eq.true) c.loop-at.invariant.same;
}
