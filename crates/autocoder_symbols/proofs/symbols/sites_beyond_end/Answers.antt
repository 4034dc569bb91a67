-- The line is noted if it is after END, and those below it are left.
use Rattle.std.proofs.Common.{◌+◌, List, drop, arith, ◌∙◌}
use Rattle.std.proofs.lemmas.List.{drop_all}
use Rattle.autocoder_statements.specs.declared.statement.Line.{Line}
use Rattle.autocoder_symbols.specs.Symbols.{sites_beyond_end}
use Rattle.autocoder_symbols.proofs.SymbolsLemmas.{beyond_noted, none_left_beyond}
use Rattle.autocoder_symbols.proofs.symbols.sites_beyond_end.Goals as goal

pub loop-i-preserved : goal.loop-i-preserved
loop-i-preserved c = λ label.
    let rest : List Line = drop (c.loop-i.i + 1) c.args.lines.now in
    beyond_noted c.loop-i.sites c.note_beyond.new.sites c.loop-i.is_ended c.is_ended_by-is_ended.result (c.loop-i.i + 1)
    c.line-line.result rest (drop c.loop-i.i c.args.lines.now) label
    (c.in_ok-note_beyond.ensures.noted label) c.is_ended_by-is_ended.ensures c.line-line.ensures.rest
    ∙ c.loop-i.invariant label

pub returns-clause-lines : goal.returns-clause-lines
returns-clause-lines c = λ label.
    none_left_beyond c.loop-i.sites label c.loop-i.is_ended (c.loop-i.i + 1) (drop c.loop-i.i c.args.lines.now)
    (sites_beyond_end c.args.lines.now label)
    (drop_all c.loop-i.i c.args.lines.now (omega (arith, c.loop-i-test.false))) (c.loop-i.invariant label)
