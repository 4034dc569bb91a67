-- Texts put one after the other.
use Rattle.std.proofs.Common.{◌≡◌, ℕ, Bool, true, false, ◌+◌, List, [], ◌∷◌, ◌++◌, Option, IsTrue, refl, sym, ap, subst, append_assoc, append-nil, ◌∙◌}
use Rattle.std.proofs.KnownBytes.{Appends-nil}
use Rattle.std.specs.Io.KnownBytes.{Appends}
use Rattle.std.specs.Prelude.{codes}
use Rattle.bytes_streams.specs.Page.{Sent}
use Rattle.bytes_streams.specs.Sink.{AppendsPart}
use Rattle.bytes_streams.proofs.SentLemmas.{part_before, part_then, sent_none, sent_part, sent_rest, sent_then}
use Rattle.autocoder_listing.specs.Heads.{front_of, head_at, heads_after, listed_line, literals_after, literals_before, written}
use Rattle.autocoder_listing.specs.Heads.{written_for}
use Rattle.autocoder_listing.specs.Listing.{without_last_blanks}
use Rattle.autocoder_listing.specs.Pages.{Paged, Puts}
use Rattle.autocoder_listing.specs.declared.heads.Head.{Head}

no_both : (b : Bool) → b ≡ false → IsTrue b → ⊥
no_both b isnt is = cc

-- after a failure nothing is put
pub puts_nothing : (old : Paged) (text : List ℕ) → IsTrue old.has_failed → Puts old old text
puts_nothing old text failed = record {
  whole = λ good. absurd (no_both old.has_failed good failed);
  part = λ so. ([], (old.page ++ text, refl), Appends-nil old.received);
  stays = λ so. (so, refl);
}

-- what was sent of a text is a part of it
pub puts_whole : (old new : Paged) (text : List ℕ) → old.has_failed ≡ false
    → Sent old.received new.received (old.page ++ text) new.page → Puts old new text
puts_whole old new text good sent = record {
  whole = λ so. (good, sent);
  part = λ so. (sent.0, (new.page, sent.1), sent.2);
  stays = λ failed. absurd (no_both old.has_failed good failed);
}

pub puts_part : (old new : Paged) (text : List ℕ) → old.has_failed ≡ false → IsTrue new.has_failed
    → AppendsPart old.received new.received (old.page ++ text) → Puts old new text
puts_part old new text good failed part = record {
  whole = λ so. absurd (no_both new.has_failed so failed);
  part = λ so. part;
  stays = λ so. absurd (no_both old.has_failed good so);
}

-- nothing was put
pub puts_none : (old : Paged) → Puts old old []
puts_none old = record {
  whole = λ good. (
    good,
    subst (λ (text : List ℕ). Sent old.received old.received text old.page)
        (sym (append-nil old.page)) (sent_none old.received old.page),
  );
  part = λ so. ([], (old.page ++ [], refl), Appends-nil old.received);
  stays = λ so. (so, refl);
}

-- what was put is all but a text that is left
abbrev pub PutsBut : Paged → Paged → List ℕ → List ℕ → Type 0
PutsBut old new left all = (last : Paged) → Puts new last left → Puts old last all

-- one text, and then another
pub puts : (old between new : Paged) (first second : List ℕ) → Puts old between first → Puts between new second
    → Puts old new (first ++ second)
puts old between new first second one other = record {
  whole = λ good.
      let after = other.whole good in
      let before = one.whole after.0 in (
        before.0,
        sent_then old.received between.received new.received old.page first between.page second new.page before.1 after.1,
      );
  part = by between.has_failed refl;
  stays = λ failed.
      let first = one.stays failed in
      let second = other.stays first.0 in (second.0, second.1 ∙ first.1);
}
  where
    by : (b : Bool) → between.has_failed ≡ b → IsTrue new.has_failed
        → AppendsPart old.received new.received (old.page ++ (first ++ second))
    by true is failed =
        let so : IsTrue between.has_failed = is in
        subst (λ (received : Option (List ℕ)). AppendsPart old.received received (old.page ++ (first ++ second)))
        (sym (other.stays so).1)
        (subst (λ (text : List ℕ). AppendsPart old.received between.received text) (append_assoc old.page first second)
        (part_before old.received between.received (old.page ++ first) second (one.part so)))
    by false is failed =
        part_then old.received between.received new.received old.page first between.page second (one.whole is).1
        (other.part failed)

-- a text was put after an empty page, and the last page was written
pub ended_whole : (old between : Paged) (new : Option (List ℕ)) (text : List ℕ) → old.page ≡ [] → Puts old between text
    → (between.has_failed ≡ false) × Appends between.received new between.page → Appends old.received new text
ended_whole old between new text none put ended =
    sent_rest old.received between.received new text between.page
    (subst (λ (page : List ℕ). Sent old.received between.received (page ++ text) between.page) none (put.whole ended.0).1)
    ended.1

-- or a write failed
pub ended_part : (old between : Paged) (new : Option (List ℕ)) (text : List ℕ) → old.page ≡ [] → Puts old between text
    → (between.has_failed ≡ false → AppendsPart between.received new between.page)
    → (IsTrue between.has_failed → new ≡ between.received) → AppendsPart old.received new text
ended_part old between new text none put part stays = by between.has_failed refl
  where
    by : (b : Bool) → between.has_failed ≡ b → AppendsPart old.received new text
    by true is =
        let failed : IsTrue between.has_failed = is in
        subst (λ (received : Option (List ℕ)). AppendsPart old.received received text) (sym (stays failed))
        (subst (λ (page : List ℕ). AppendsPart old.received between.received (page ++ text)) none (put.part failed))
    by false is =
        sent_part old.received between.received new text between.page
        (subst (λ (page : List ℕ). Sent old.received between.received (page ++ text) between.page) none (put.whole is).1)
        (part is)

-- the lines of the literals before a line, what precedes the line, and what is shown of it, are what is written for it
pub line_parts : (number : ℕ) (head : Option Head) (literals source before front shown made : List ℕ)
    → before ≡ literals_before head literals → front ++ shown ≡ without_last_blanks (made ++ source)
    → made ≡ front_of number head → ((before ++ front) ++ shown) ++ codes "\n" ≡ written_for number head literals source
line_parts number head literals source before front shown made before_is cut made_is =
    ap (λ (text : List ℕ). text ++ codes "\n") (append_assoc before front shown)
    ∙ append_assoc before (front ++ shown) (codes "\n")
    ∙ ap (λ (text : List ℕ). before ++ (text ++ codes "\n"))
    (cut ∙ ap (λ (text : List ℕ). without_last_blanks (text ++ source)) made_is)
    ∙ ap (λ (text : List ℕ). text ++ listed_line (front_of number head) source) before_is

-- what is written for a line, with what is written for the lines after it, is what is written for all of them
pub more_written : (number : ℕ) (heads left : List Head) (literals more source : List ℕ) (all sources : List (List ℕ))
    (head : Option Head) → head ≡ head_at number heads → left ≡ heads_after head heads
    → more ≡ literals_after head literals → all ≡ source ∷ sources
    → written_for number head literals source ++ written (number + 1) left more sources ≡ written number heads literals all
more_written number heads left literals more source all sources head head_is left_is more_is all_is =
    rw (left_is, more_is, all_is, head_is) refl
