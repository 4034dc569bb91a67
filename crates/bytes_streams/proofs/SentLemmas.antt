-- What was written of a text, part by part.
use Rattle.std.proofs.Common.{ℕ, List, [], ◌++◌, Option, refl, sym, ap, ◌∙◌, append_assoc}
use Rattle.std.proofs.Common.{append-nil, subst}
use Rattle.std.proofs.KnownBytes.{Appends-nil, Appends-trans}
use Rattle.std.specs.Io.KnownBytes.{Appends}
use Rattle.bytes_streams.specs.Sink.{AppendsPart}
use Rattle.bytes_streams.specs.Page.{Sent}

-- nothing was written, and all is left
pub sent_none : (old : Option (List ℕ)) (text : List ℕ) → Sent old old text text
sent_none old text = ([], refl, Appends-nil old)

-- all was written
pub sent_all : (old new : Option (List ℕ)) (text : List ℕ) → Appends old new text → Sent old new text []
sent_all old new text all = (text, sym (append-nil text), all)

-- more was written of what was left
pub sent_more : (old between new : Option (List ℕ)) (text left less : List ℕ) → Sent old between text left
    → Sent between new left less → Sent old new text less
sent_more old between new text left less first more = (
  first.0 ++ more.0,
  first.1 ∙ ap (λ rest. first.0 ++ rest) more.1 ∙ sym (append_assoc first.0 more.0 less),
  Appends-trans old between new first.0 more.0 first.2 more.2,
)

-- what was left has bytes after it
pub sent_before : (old new : Option (List ℕ)) (text left beyond : List ℕ) → Sent old new text left
    → Sent old new (text ++ beyond) (left ++ beyond)
sent_before old new text left beyond sent =
    (sent.0, ap (λ all. all ++ beyond) sent.1 ∙ append_assoc sent.0 left beyond, sent.2)

-- all that was left was written
pub sent_rest : (old between new : Option (List ℕ)) (text left : List ℕ) → Sent old between text left
    → Appends between new left → Appends old new text
sent_rest old between new text left first rest =
    subst (λ all. Appends old new all) (sym first.1) (Appends-trans old between new first.0 left first.2 rest)

-- a part of what was left was written
pub sent_part : (old between new : Option (List ℕ)) (text left : List ℕ) → Sent old between text left
    → AppendsPart between new left → AppendsPart old new text
sent_part old between new text left first part = (
  first.0 ++ part.0,
  (part.1.0, first.1 ∙ ap (λ rest. first.0 ++ rest) part.1.1 ∙ sym (append_assoc first.0 part.0 part.1.0)),
  Appends-trans old between new first.0 part.0 first.2 part.2,
)

-- a part of a text is one of any text that begins with it
pub part_before : (old new : Option (List ℕ)) (text beyond : List ℕ) → AppendsPart old new text
    → AppendsPart old new (text ++ beyond)
part_before old new text beyond part =
    (part.0, (part.1.0 ++ beyond, ap (λ all. all ++ beyond) part.1.1 ∙ append_assoc part.0 part.1.0 beyond), part.2)

-- bytes were put after a page, and then others
pub sent_then : (old between new : Option (List ℕ)) (page first next more less : List ℕ)
    → Sent old between (page ++ first) next → Sent between new (next ++ more) less
    → Sent old new (page ++ (first ++ more)) less
sent_then old between new page first next more less one other =
    subst (λ text. Sent old new text less) (append_assoc page first more)
    (sent_more old between new ((page ++ first) ++ more) (next ++ more) less
    (sent_before old between (page ++ first) next more one) other)

-- bytes were put after a page, and then a part of others
pub part_then : (old between new : Option (List ℕ)) (page first next more : List ℕ)
    → Sent old between (page ++ first) next → AppendsPart between new (next ++ more)
    → AppendsPart old new (page ++ (first ++ more))
part_then old between new page first next more one other =
    subst (λ text. AppendsPart old new text) (append_assoc page first more)
    (sent_part old between new ((page ++ first) ++ more) (next ++ more)
    (sent_before old between (page ++ first) next more one) other)
