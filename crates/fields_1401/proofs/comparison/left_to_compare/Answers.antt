-- A block that agrees is passed.
use Rattle.std.proofs.Common.{◌∙◌, ◌-◌, ap, sym, arith}
use Rattle.fields_1401.proofs.CompareLemmas.{passed_pairs}
use Rattle.fields_1401.specs.Compare.{highest_difference}
use Rattle.fields_1401.proofs.comparison.left_to_compare.Goals as goal

pub loop-left-preserved : goal.loop-left-preserved
loop-left-preserved c =
    let low = c.loop-left.left - 8 in record {
      most = omega arith;
      kept =
          sym (passed_pairs c.args.core.now c.args.a c.args.b low 8
          (sym c.chars_differ.ensures ∙ c.if-not-chars_differ.true))
          ∙ ap (highest_difference c.args.core.now c.args.a c.args.b) (omega arith) ∙ c.loop-left.invariant.kept;
    }
