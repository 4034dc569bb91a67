-- The first character that ends the record gives its length.
use Rattle.std.proofs.Common.{arith, ◌∙◌, sym}
use Rattle.fields_1401.proofs.RecordLemmas.{none_before, record_ends, record_goes_on}
use Rattle.fields_1401.proofs.records.record_len.Goals as goal

pub loop-i-init : goal.loop-i-init
loop-i-init c =
    none_before c.args.core.now c.args.a c.args.b c.count_before_repeated.result c.count_before_end-first.result
    c.count_before_end-first.ensures.most c.count_before_repeated.ensures.own c.count_before_end-first.ensures.before

pub returns-then-is_record_end-clause-value : goal.returns-then-is_record_end-clause-value
returns-then-is_record_end-clause-value c =
    record_ends c.args.core.now c.args.a c.args.b c.loop-i.i (omega arith) c.loop-i.invariant
    (sym c.is_record_end.ensures ∙ c.if-is_record_end.true)

pub returns-clause-value : goal.returns-clause-value
returns-clause-value c = record_goes_on c.args.core.now c.args.a c.args.b c.loop-i.i (omega arith) c.loop-i.invariant
