-- The first cell that ends the record gives its length.
use Rattle.std.proofs.Common.{arith, sym, ◌∙◌}
use Rattle.machine_tapes.proofs.WriteLemmas.{record_ends, record_goes_on}
use Rattle.machine_tapes.proofs.writing.record_len.Goals as goal

pub returns-then-ends_at-clause-value : goal.returns-then-ends_at-clause-value
returns-then-ends_at-clause-value c =
    record_ends c.args.core.now c.args.at c.loop-i.i (omega arith) c.loop-i.invariant
    (sym c.ends_at.ensures ∙ c.if-ends_at.true)

pub returns-clause-value : goal.returns-clause-value
returns-clause-value c = record_goes_on c.args.core.now c.args.at c.loop-i.i (omega arith) c.loop-i.invariant
