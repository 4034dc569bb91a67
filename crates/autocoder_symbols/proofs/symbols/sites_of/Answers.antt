-- The line is noted, and those after it up to END are left.
use Rattle.std.proofs.Common.{◌+◌, List, drop, sym, ap, ◌∙◌, arith}
use Rattle.std.specs.Option.{option_or}
use Rattle.std.proofs.lemmas.List.{drop_all}
use Rattle.indexmap.specs.IndexMap.{get}
use Rattle.autocoder_statements.specs.declared.statement.Line.{Line}
use Rattle.autocoder_symbols.specs.Symbols.{same_label, first_from, sites_of, up_to_end}
use Rattle.autocoder_symbols.proofs.SymbolsLemmas.{goes_on, line_noted, none_left}
use Rattle.autocoder_symbols.proofs.symbols.sites_of.Goals as goal

pub loop-i-preserved : goal.loop-i-preserved
loop-i-preserved c = λ label.
    let line : Line = c.line-line.result in
    let rest : List Line = drop (c.loop-i.i + 1) c.args.lines.now in
    line_noted c.loop-i.sites c.note_line.new.sites (c.loop-i.i + 1) line (up_to_end rest) label
    (c.in_ok-note_line.ensures.noted label)
    ∙ ap (λ (lines : List Line). option_or (get same_label c.loop-i.sites label) (first_from (c.loop-i.i + 1) lines label))
    (goes_on line rest (sym c.is_end.ensures ∙ c.if-is_end.false)
    ∙ ap up_to_end
    (sym c.line-line.ensures.rest))
    ∙ c.loop-i.invariant label

pub returns-clause-lines : goal.returns-clause-lines
returns-clause-lines c = λ label.
    none_left c.loop-i.sites label (c.loop-i.i + 1) (up_to_end (drop c.loop-i.i c.args.lines.now))
    (sites_of c.args.lines.now label)
    (ap up_to_end (drop_all c.loop-i.i c.args.lines.now (omega (arith, c.loop-i-test.false)))) (c.loop-i.invariant label)
