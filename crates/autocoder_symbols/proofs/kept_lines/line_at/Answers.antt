-- A line that isn't held is read again.
use Rattle.std.proofs.Common.{◌∙◌}
use Rattle.autocoder_symbols.proofs.UnreadLemmas.{again_at}
use Rattle.autocoder_symbols.proofs.kept_lines.line_at.Goals as goal

pub returns-in-Some-get : goal.returns-in-Some-get
returns-in-Some-get c =
    let reading = c.args.reading.now in
    let one = c.in-Some-get.unread.now in
    c.line.ensures
    ∙ again_at reading.language reading.registers reading.source.now c.args.unread.now c.args.place one one
    c.if-place-eq0.false c.in-Some-get.ensures.lookup.3.0 c.in-Some-get.ensures.lookup.1
