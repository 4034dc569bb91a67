-- One more byte is counted, or none is left to count.
use Rattle.std.proofs.Common.{◌∙◌, sym, arith}
use Rattle.std.specs.List.{prefix_len}
use Rattle.autocoder_statements.specs.SourceLine.{is_printable}
use Rattle.autocoder_statements.proofs.PrefixLemmas.{one_counted, all_counted}
use Rattle.autocoder_statements.proofs.flaw.printable_in_front.Goals as goal

pub loop-count-preserved : goal.loop-count-preserved
loop-count-preserved c = record {
  bound = omega (arith, c.loop-count-test.true);
  more =
      one_counted is_printable c.args.columns.now c.loop-count.count (prefix_len is_printable c.args.columns.now)
      c.loop-count-test.true (sym c.is_printable.ensures ∙ c.if-is_printable.true) c.loop-count.invariant.more;
}

pub returns-else-is_printable-clause-value : goal.returns-else-is_printable-clause-value
returns-else-is_printable-clause-value c =
    all_counted is_printable c.args.columns.now c.loop-count.count (prefix_len is_printable c.args.columns.now)
    c.loop-count-test.true (sym c.is_printable.ensures ∙ c.if-is_printable.false) c.loop-count.invariant.more
