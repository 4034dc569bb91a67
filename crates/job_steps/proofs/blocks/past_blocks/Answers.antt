-- 64 places more are equal.
use Rattle.std.proofs.Common.{slice_index_or, refl, arith, ap, sym, ◌∙◌}
use Rattle.job_steps.proofs.BlockLemmas.{block_more}
use Rattle.job_steps.proofs.blocks.past_blocks.Goals as goal

pub loop-at-preserved : goal.loop-at-preserved
loop-at-preserved c =
    let s = c.args.before.now in
    let t = c.args.after.now in
    let at = c.loop-at.at in
    record {
      least = omega (arith, c.loop-at.invariant.least);
      most = omega (arith, c.loop-at-test.true, c.from-size.ensures, c.size.ensures.value);
      same =
          block_more s t c.mark_words-marks.result.now c.mark_words-other_marks.result.now c.args.from at
          c.requires.size (omega (arith, c.loop-at-test.true, c.from-size.ensures, c.size.ensures.value))
          c.mark_words-marks.ensures c.mark_words-other_marks.ensures
          (λ i least most. ap (λ xs. slice_index_or xs i 0) (sym c.chars-chars.ensures)
          ∙ c.if-are_same_chars.ensures refl i least most
          ∙ ap (λ xs. slice_index_or xs i 0) c.chars-other_chars.ensures)
          (c.if-are_same_marks.ensures refl) c.loop-at.invariant.same;
    }
