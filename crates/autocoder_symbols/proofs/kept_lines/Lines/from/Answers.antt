-- The places from there on are those of the lines from there on.
use Rattle.std.proofs.Common.{drop, map, ap, ◌∙◌}
use Rattle.autocoder_symbols.specs.KeptLines.{line_kept}
use Rattle.autocoder_symbols.specs.Unread.{all_again}
use Rattle.autocoder_symbols.proofs.KeptLinesLemmas.{rest_of}
use Rattle.autocoder_symbols.proofs.kept_lines.Lines.from.Goals as goal

pub returns : goal.returns
returns c =
    let reading = c.self.inside.reading in
    let said = all_again reading.language reading.registers reading.source.now c.self.inside.unread.now in
    ap (map (line_kept said)) c.places_from.ensures
    ∙ rest_of said c.self.inside.places.now c.args.i ∙ ap (drop c.args.i) c.self.view_is
