-- The words, what was found, and whether there was an overflow.
use Rattle.bytes_text.proofs.AddsLemmas.{adds}
use Rattle.operate_views.specs.Registers.{comparison_text, indicators_text}
use Rattle.operate_views.proofs.registers.put_indicators.Goals as goal

pub returns-then-regs : goal.returns-then-regs
unfolding indicators_text comparison_text
returns-then-regs c =
    rw (c.if-regs.true) (adds c.args.text.now c.put_comparison.new.text c.put-then-regs.new.self _ _
    (adds c.args.text.now c.put.new.self c.put_comparison.new.text _ _ c.put.ensures c.put_comparison.ensures)
    c.put-then-regs.ensures)

pub returns-else-regs : goal.returns-else-regs
unfolding indicators_text comparison_text
returns-else-regs c =
    rw (c.if-regs.false) (adds c.args.text.now c.put_comparison.new.text c.put-else-regs.new.self _ _
    (adds c.args.text.now c.put.new.self c.put_comparison.new.text _ _ c.put.ensures c.put_comparison.ensures)
    c.put-else-regs.ensures)
