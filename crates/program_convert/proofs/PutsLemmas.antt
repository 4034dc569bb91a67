-- What is put into a page part by part is put as a whole.
use Rattle.std.proofs.Common.{◌≡◌, ℕ, Bool, List, [], ◌++◌, Option, Result, Ok, Err, append_assoc, append-nil, ap}
use Rattle.std.proofs.Common.{sym, ◌∙◌}
use Rattle.std.proofs.Common.{inl, inr, refl, subst}
use Rattle.std.specs.Prelude.{⊤, IsTrue}
use Rattle.bytes_streams.proofs.SentLemmas.{part_before, part_then, sent_before, sent_more, sent_part, sent_rest}
use Rattle.bytes_streams.proofs.SentLemmas.{sent_then}
use Rattle.bytes_streams.specs.Page.{Sent}
use Rattle.bytes_streams.specs.Sink.{AppendsPart}
use Rattle.bytes_streams.specs.declared.failure.Failed.{Failed}
use Rattle.program_convert.specs.Did.{Wrote}
use Rattle.program_convert.specs.Writing.{Puts}
use Rattle.program_convert.specs.declared.reel_fault.ReelFault.{ReelFault}
use Rattle.program_convert.specs.declared.reel_fault.ReelFault.TheVariants as fault

-- a part was put, and then another
pub puts_then : (old between new : Option (List ℕ)) (failed : Bool) (page first next more less : List ℕ)
    (outcome : Result ⊤ Failed) → Sent old between (page ++ first) next
    → Puts between new failed (next ++ more) less outcome → Puts old new failed (page ++ (first ++ more)) less outcome
puts_then old between new failed page first next more less (Ok _) one other =
    sent_then old between new page first next more less one other
puts_then old between new failed page first next more less (Err _) one other =
    (part_then old between new page first next more one other.0, other.1)

-- a write failed at the first part
pub part_failed : (old new : Option (List ℕ)) (failed : Bool) (page first more : List ℕ)
    → AppendsPart old new (page ++ first) × IsTrue failed
    → AppendsPart old new (page ++ (first ++ more)) × IsTrue failed
part_failed old new failed page first more part =
    (rw (← append_assoc page first more) (part_before old new (page ++ first) more part.0), part.1)

-- or at the second
pub part_then_failed : (old between new : Option (List ℕ)) (failed : Bool) (page first next more : List ℕ)
    → Sent old between (page ++ first) next → AppendsPart between new (next ++ more) × IsTrue failed
    → AppendsPart old new (page ++ (first ++ more)) × IsTrue failed
part_then_failed old between new failed page first next more one other =
    (part_then old between new page first next more one other.0, other.1)

-- one part more was put of a text, and this was left of it
pub step_sent : (old between new : Option (List ℕ)) (whole page first rest more next : List ℕ)
    → Sent old between whole (page ++ rest) → rest ≡ first ++ more → Sent between new (page ++ first) next
    → Sent old new whole (next ++ more)
step_sent old between new whole page first rest more next sent split one =
    sent_more old between new whole (page ++ rest) (next ++ more) sent
    (subst (λ text. Sent between new text (next ++ more))
    (append_assoc page first more ∙ ap (λ text. page ++ text) (sym split))
    (sent_before between new (page ++ first) next more one))

-- a write failed at that part
pub step_failed : (old between new : Option (List ℕ)) (failed : Bool) (whole page first rest more : List ℕ)
    → Sent old between whole (page ++ rest) → rest ≡ first ++ more
    → AppendsPart between new (page ++ first) × IsTrue failed → AppendsPart old new whole × IsTrue failed
step_failed old between new failed whole page first rest more sent split part = (
  sent_part old between new whole (page ++ rest) sent
      (subst (λ text. AppendsPart between new text)
      (append_assoc page first more ∙ ap (λ text. page ++ text) (sym split))
      (part_before between new (page ++ first) more part.0)),
  part.1,
)

-- nothing more was left
pub step_end : (old new : Option (List ℕ)) (whole page rest : List ℕ) → Sent old new whole (page ++ rest) → rest ≡ []
    → Sent old new whole page
step_end old new whole page rest sent none =
    subst (λ left. Sent old new whole left) (ap (λ text. page ++ text) none ∙ append-nil page) sent

-- what was left was written
pub wrote_rest : (old between new : Option (List ℕ)) (failed : Bool) (text left : List ℕ) (outcome : Result ⊤ ReelFault)
    → Sent old between text left → Wrote left between new failed outcome → Wrote text old new failed outcome
wrote_rest old between new failed text left outcome sent (inl done) =
    inl (done.0, sent_rest old between new text left sent done.1)
wrote_rest old between new failed text left outcome sent (inr part) =
    inr (part.0, sent_part old between new text left sent part.1, part.2)

-- all was put into an empty page, and what was left there was written
pub wrote_page : (old between new : Option (List ℕ)) (failed : Bool) (page text left bytes : List ℕ)
    (outcome : Result ⊤ ReelFault) → page ≡ [] → bytes ≡ left → Sent old between (page ++ text) left
    → Wrote bytes between new failed outcome → Wrote text old new failed outcome
wrote_page old between new failed page text left bytes outcome none is sent wrote =
    wrote_rest old between new failed text left outcome
    (subst (λ (front : List ℕ). Sent old between (front ++ text) left) none sent)
    (subst (λ (all : List ℕ). Wrote all between new failed outcome) is wrote)

-- a write failed before all was there
pub wrote_part : (old new : Option (List ℕ)) (failed : Bool) (page text : List ℕ) → page ≡ []
    → AppendsPart old new (page ++ text) × IsTrue failed → Wrote text old new failed (Err fault.Output)
wrote_part old new failed page text none part =
    inr (refl, subst (λ (front : List ℕ). AppendsPart old new (front ++ text)) none part.0, part.1)
