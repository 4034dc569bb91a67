-- One more digit is counted, or none is left to count.
use Rattle.std.proofs.Common.{◌∙◌, sym, arith}
use Rattle.std.specs.List.{prefix_len}
use Rattle.bcd_1401.specs.Digits.{is_digit}
use Rattle.autocoder_statements.proofs.PrefixLemmas.{one_counted, all_counted}
use Rattle.autocoder_statements.proofs.label.digits_in_front.Goals as goal

pub loop-count-preserved : goal.loop-count-preserved
loop-count-preserved c = record {
  bound = omega (arith, c.loop-count-test.true);
  more =
      one_counted is_digit c.args.text.now c.loop-count.count (prefix_len is_digit c.args.text.now)
      c.loop-count-test.true (sym c.is_digit.ensures ∙ c.if-is_digit.true) c.loop-count.invariant.more;
}

pub returns-else-is_digit-clause-value : goal.returns-else-is_digit-clause-value
returns-else-is_digit-clause-value c =
    all_counted is_digit c.args.text.now c.loop-count.count (prefix_len is_digit c.args.text.now)
    c.loop-count-test.true (sym c.is_digit.ensures ∙ c.if-is_digit.false) c.loop-count.invariant.more
