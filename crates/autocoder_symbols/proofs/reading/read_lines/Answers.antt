-- A source has as many lines in each language.
use Rattle.std.proofs.Common.{rules, ◌≡◌, ap, ◌∙◌, length}
use Rattle.autocoder_statements.specs.Context.{lines_said}
use Rattle.autocoder_statements.specs.SourceLine.{lines_of}
use Rattle.autocoder_symbols.proofs.ReadingLemmas.{as_many_said}
use Rattle.autocoder_symbols.proofs.reading.read_lines.Goals as goal

pub returns-clause-as_many : goal.returns-clause-as_many
returns-clause-as_many c =
    let same : c.match-language.lines ≡ lines_said c.args.language (lines_of c.args.source.now) = search rules in
    ap length same ∙ as_many_said c.args.language (lines_of c.args.source.now)
