-- Each cell adds its characters.
use Rattle.std.proofs.Common.{◌+◌, arith, ap, sym, ◌∙◌, length, length-append, take, drop}
use Rattle.bcd_1401.specs.declared.cell.Cell.{Cell}
use Rattle.core_1401.specs.Storage.{cell_at}
use Rattle.machine_tapes.specs.TapeText.{text_of, text_of_cell}
use Rattle.machine_tapes.proofs.WriteLemmas.{moved_len, text_more}
use Rattle.machine_tapes.proofs.writing.text_len.Goals as goal

pub returns-then-not-has_marks : goal.returns-then-not-has_marks
returns-then-not-has_marks c =
    c.from.ensures
    ∙ moved_len c.args.mode c.args.is_odd c.args.core.now c.args.at c.args.n
    (sym c.has_marks.ensures ∙ c.if-not-has_marks.true) c.requires.inside

pub overflow_add-len : goal.overflow_add-len
overflow_add-len c = omega (arith, c.loop-i.invariant.1, c.cell_len-len.ensures.most)

pub loop-i-preserved : goal.loop-i-preserved
loop-i-preserved c =
    let s = c.args.core.now in
    let at = c.args.at in
    let i = c.loop-i.i in
    let more =
    ap length (text_more c.args.mode c.args.is_odd s at i (omega (arith, c.requires.inside)))
    ∙ length-append (text_of c.args.mode c.args.is_odd (take i (drop at s)))
    (text_of_cell c.args.mode c.args.is_odd (cell_at s (at + i))) in
    let one =
    c.cell_len-len.ensures.value
    ∙ ap (λ (cell : Cell). length (text_of_cell c.args.mode c.args.is_odd cell)) c.get.ensures in
    (omega (arith, c.loop-i.invariant.0, more, one), omega (arith, c.loop-i.invariant.1, c.cell_len-len.ensures.most))
