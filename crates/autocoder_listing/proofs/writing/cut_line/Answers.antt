-- The blanks at the end of a line are those of its source, or go on before it.
use Rattle.std.proofs.Common.{◌++◌, ◌∙◌, take, sym, ap, append-nil, arith}
use Rattle.autocoder_listing.proofs.BlanksLemmas.{cut_front, cut_source}
use Rattle.autocoder_listing.proofs.writing.cut_line.Goals as goal

pub returns-then-shown-eq0-clause-line : goal.returns-then-shown-eq0-clause-line
returns-then-shown-eq0-clause-line c =
    append-nil c.cut_last_blanks.new.text.items ∙ c.cut_last_blanks.ensures.cut
    ∙ cut_front c.args.front.now.items c.args.source.now
    (sym c.len_without_last_blanks-shown.ensures.value ∙ c.if-shown-eq0.true)

pub returns-clause-line : goal.returns-clause-line
returns-clause-line c =
    let shown = c.len_without_last_blanks-shown.ensures.value in
    ap (λ n. c.args.front.now.items ++ take n c.args.source.now) shown
    ∙ cut_source c.args.front.now.items c.args.source.now (omega (arith, shown, c.if-shown-eq0.false))
