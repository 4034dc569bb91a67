-- One more graphic is counted, or none is left to count.
use Rattle.std.proofs.Common.{◌∙◌, sym, arith}
use Rattle.std.specs.List.{prefix_len}
use Rattle.autocoder_statements.specs.SourceLine.{is_graphic}
use Rattle.autocoder_statements.proofs.PrefixLemmas.{one_counted, all_counted}
use Rattle.autocoder_statements.proofs.flaw.graphics_in_front.Goals as goal

pub loop-count-preserved : goal.loop-count-preserved
loop-count-preserved c = record {
  bound = omega (arith, c.loop-count-test.true);
  more =
      one_counted is_graphic c.args.columns.now c.loop-count.count (prefix_len is_graphic c.args.columns.now)
      c.loop-count-test.true (sym c.is_graphic.ensures ∙ c.if-is_graphic.true) c.loop-count.invariant.more;
}

pub returns-else-is_graphic-clause-value : goal.returns-else-is_graphic-clause-value
returns-else-is_graphic-clause-value c =
    all_counted is_graphic c.args.columns.now c.loop-count.count (prefix_len is_graphic c.args.columns.now)
    c.loop-count-test.true (sym c.is_graphic.ensures ∙ c.if-is_graphic.false) c.loop-count.invariant.more
