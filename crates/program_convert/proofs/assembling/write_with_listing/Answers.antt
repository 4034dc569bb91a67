-- Tables follow a listing after an empty line, unless there is nothing to be divided.
use Rattle.std.proofs.Common.{Bool, ◌++◌, Err, ◌∙◌, sym, ap, subst}
use Rattle.autocoder_statements.specs.SourceLine.{lines_of}
use Rattle.autocoder_listing.specs.Writing.{text_for}
use Rattle.program_convert.specs.Assemble.{Wrote}
use Rattle.program_convert.specs.ReadyTables.{has_some, separator}
use Rattle.program_convert.proofs.TablesLemmas.{parted_after, wrote_front, wrote_then}
use Rattle.program_convert.proofs.assembling.write_with_listing.Goals as goal

pub returns-in-Ok : goal.returns-in-Ok
returns-in-Ok g c =
    let rest = c.args.rest.now in
    let sources = lines_of c.args.source.now in
    let heads = c.args.ready.heads in
    let old = g.W.Sink.received c.args.writer.now in
    let between = g.W.Sink.received c.write_ready.new.writer in
    let new = g.W.Sink.received c.write_parts.new.writer in
    let failed = g.W.Sink.has_failed c.write_parts.new.writer in
    subst (λ text. Wrote text old new failed c.write_parts.result)
    (sym (parted_after heads.heads.items heads.literals.items rest sources))
    (wrote_then (text_for c.args.source.now c.args.ready) (separator (has_some sources) rest ++ rest) old between new _
    failed c.write_parts.result c.in-Ok.ensures
    (subst (λ text. Wrote (text ++ rest) between new failed c.write_parts.result)
    (c.separator.ensures ∙ ap (λ (some : Bool). separator some rest) c.has_lines.ensures) c.write_parts.ensures))

pub returns-in-Err : goal.returns-in-Err
returns-in-Err g c =
    let rest = c.args.rest.now in
    let sources = lines_of c.args.source.now in
    let heads = c.args.ready.heads in
    subst (λ text. Wrote text (g.W.Sink.received c.args.writer.now) (g.W.Sink.received c.write_ready.new.writer)
    (g.W.Sink.has_failed c.write_ready.new.writer) (Err c.in-Err.fault))
    (sym (parted_after heads.heads.items heads.literals.items rest sources))
    (wrote_front (text_for c.args.source.now c.args.ready) (separator (has_some sources) rest ++ rest) _ _ _ _
    c.in-Err.ensures)
