-- The lines are put one after the other into pages in which there is nothing.
use Rattle.std.proofs.Common.{ℕ, List, ◌++◌, ◌∙◌, refl, subst}
use Rattle.std.proofs.lemmas.List.{append_assoc}
use Rattle.std.proofs.lemmas.Result.{on_ok_weaker, on_err_weaker}
use Rattle.std.specs.Io.KnownBytes.{Appends}
use Rattle.machine_image.specs.ImageText.{line_of, header_text, end_text, segments_text}
use Rattle.machine_image.specs.declared.version.Version.TheVariants.{Two}
use Rattle.machine_notation.proofs.RoomLemmas.{if_so}
use Rattle.bytes_streams.specs.Sink.{AppendsPart}
use Rattle.bytes_streams.proofs.SentLemmas.{part_before, part_then, sent_part, sent_rest, sent_then}
use Rattle.autocoder_image.specs.Pages.{unwritten}
use Rattle.autocoder_image.proofs.PagesLemmas.{before_two, whole_text}
use Rattle.autocoder_image.proofs.ready_image.write_packed.Goals as goal

pub returns-in_err-put_header-clause-part : goal.returns-in_err-put_header-clause-part
returns-in_err-put_header-clause-part g c =
    let image = c.args.ready.image in
    let left : List ℕ = unwritten c.args.ready.pages in
    let old = g.W.Sink.received c.args.writer.now in
    let new = g.W.Sink.received c.put_header.new.writer in
    let first : List ℕ = line_of (header_text Two c.size.result) in
    let lines : List ℕ = segments_text Two image.segments in
    let last : List ℕ = line_of (end_text Two image.start) in
    if_so c.from_residual.result
    (subst (λ text. AppendsPart old new text)
    (before_two left first lines last
    ∙ whole_text image left c.size.result image.start image.segments c.requires.0 c.size.ensures refl refl)
    (part_before old new (left ++ first) (lines ++ last) c.in_err-put_header.ensures.part))

pub returns-in_err-put_segments-clause-part : goal.returns-in_err-put_segments-clause-part
returns-in_err-put_segments-clause-part g c =
    let image = c.args.ready.image in
    let left : List ℕ = unwritten c.args.ready.pages in
    let old = g.W.Sink.received c.args.writer.now in
    let between = g.W.Sink.received c.put_header.new.writer in
    let new = g.W.Sink.received c.put_segments.new.writer in
    let first : List ℕ = line_of (header_text Two c.size.result) in
    let lines : List ℕ = segments_text Two image.segments in
    let last : List ℕ = line_of (end_text Two image.start) in
    if_so c.from_residual-in_err-put_segments.result
    (subst (λ text. AppendsPart old new text)
    (append_assoc left (first ++ lines) last
    ∙ whole_text image left c.size.result image.start image.segments c.requires.0 c.size.ensures refl refl)
    (part_before old new (left ++ (first ++ lines)) last
    (part_then old between new left first _ lines c.in_ok-put_header.ensures.sent c.in_err-put_segments.ensures.part)))

pub returns-in_err-put_end-clause-part : goal.returns-in_err-put_end-clause-part
returns-in_err-put_end-clause-part g c =
    let image = c.args.ready.image in
    let left : List ℕ = unwritten c.args.ready.pages in
    let old = g.W.Sink.received c.args.writer.now in
    let one = g.W.Sink.received c.put_header.new.writer in
    let two = g.W.Sink.received c.put_segments.new.writer in
    let new = g.W.Sink.received c.put_end.new.writer in
    let first : List ℕ = line_of (header_text Two c.size.result) in
    let lines : List ℕ = segments_text Two image.segments in
    let last : List ℕ = line_of (end_text Two c.start.result) in
    if_so c.from_residual-in_err-put_end.result
    (subst (λ text. AppendsPart old new text)
    (whole_text image left c.size.result c.start.result image.segments c.requires.0 c.size.ensures refl c.start.ensures)
    (part_then old two new left (first ++ lines) _ last
    (sent_then old one two left first _ lines _ c.in_ok-put_header.ensures.sent c.in_ok-put_segments.ensures.sent)
    c.in_err-put_end.ensures.part))

pub returns-clause-ok : goal.returns-clause-ok
returns-clause-ok g c =
    let image = c.args.ready.image in
    let left : List ℕ = unwritten c.args.ready.pages in
    let old = g.W.Sink.received c.args.writer.now in
    let one = g.W.Sink.received c.put_header.new.writer in
    let two = g.W.Sink.received c.put_segments.new.writer in
    let three = g.W.Sink.received c.put_end.new.writer in
    let new = g.W.Sink.received c.write_rest.new.writer in
    let first : List ℕ = line_of (header_text Two c.size.result) in
    let lines : List ℕ = segments_text Two image.segments in
    let last : List ℕ = line_of (end_text Two c.start.result) in
    let sent = sent_then old two three left (first ++ lines) _ last _
    (sent_then old one two left first _ lines _ c.in_ok-put_header.ensures.sent c.in_ok-put_segments.ensures.sent)
    c.in_ok-put_end.ensures.sent in
    on_ok_weaker c.write_rest.result
    (λ rest. subst (λ text. Appends old new text)
    (whole_text image left c.size.result c.start.result image.segments c.requires.0 c.size.ensures refl c.start.ensures)
    (sent_rest old three new _ _ sent rest))
    c.write_rest.ensures.ok

pub returns-clause-part : goal.returns-clause-part
returns-clause-part g c =
    let image = c.args.ready.image in
    let left : List ℕ = unwritten c.args.ready.pages in
    let old = g.W.Sink.received c.args.writer.now in
    let one = g.W.Sink.received c.put_header.new.writer in
    let two = g.W.Sink.received c.put_segments.new.writer in
    let three = g.W.Sink.received c.put_end.new.writer in
    let new = g.W.Sink.received c.write_rest.new.writer in
    let first : List ℕ = line_of (header_text Two c.size.result) in
    let lines : List ℕ = segments_text Two image.segments in
    let last : List ℕ = line_of (end_text Two c.start.result) in
    let sent = sent_then old two three left (first ++ lines) _ last _
    (sent_then old one two left first _ lines _ c.in_ok-put_header.ensures.sent c.in_ok-put_segments.ensures.sent)
    c.in_ok-put_end.ensures.sent in
    on_err_weaker c.write_rest.result
    (λ rest. subst (λ text. AppendsPart old new text)
    (whole_text image left c.size.result c.start.result image.segments c.requires.0 c.size.ensures refl c.start.ensures)
    (sent_part old three new _ _ sent rest))
    c.write_rest.ensures.part
