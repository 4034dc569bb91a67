-- What is kept by one entry more.
use Rattle.std.proofs.Common.{◌≡◌, ℕ, ◌+◌, Bool, true, false, List, [], ◌∷◌, ◌++◌, length}
use Rattle.std.proofs.Common.{refl, ap, sym, ◌∙◌, subst, arith, append_assoc, append-nil, length-append}
use Rattle.std.specs.Prelude.{Option, Result, Ok, Err, OnOk, OnErr}
use Rattle.std.proofs.KnownBytes.{Appends-trans}
use Rattle.std.specs.Io.KnownBytes.{Appends}
use Rattle.room_alone.specs.declared.entry.Entry.{Entry}
use Rattle.room_alone.specs.Kept.{Form, AppendsPart, BreaksOff, IsKeptAs, LacksLast, kept_text, lines_by}

-- the line of one entry more follows the others
lines_by-push : (line : ℕ → Entry → List ℕ) (number : ℕ) (front : List Entry) (last : Entry)
    → lines_by line number (front ++ last ∷ []) ≡ lines_by line number front ++ line (number + length front) last
lines_by-push line number [] last = append-nil (line number last) ∙ ap (λ n. line n last) (omega arith)
lines_by-push line number (entry ∷ front) last =
    ap (λ (bytes : List ℕ). line number entry ++ bytes) (lines_by-push line (number + 1) front last)
    ∙ ap (λ n. line number entry ++ (lines_by line (number + 1) front ++ line n last)) (omega arith)
    ∙ sym (append_assoc (line number entry) (lines_by line (number + 1) front)
    (line (number + length (entry ∷ front)) last))

-- so it does in the text
text-push : (form : Form) (size n : ℕ) (front : List Entry) (last : Entry) → n ≡ length front + 1
    → kept_text form size (front ++ last ∷ []) ≡ kept_text form size front ++ form.line n last
text-push form size n front last is =
    ap (λ (bytes : List ℕ). form.head size ++ bytes) (lines_by-push form.line 1 front last)
    ∙ ap (λ m. form.head size ++ (lines_by form.line 1 front ++ form.line m last)) (omega (arith, is))
    ∙ sym (append_assoc (form.head size) (lines_by form.line 1 front) (form.line n last))

-- the entry was kept
kept_more : (form : Form) (size n : ℕ) (front : List Entry) (last : Entry) (first old new : Option (List ℕ))
    → n ≡ length front + 1 → Appends first old (kept_text form size front) → Appends old new (form.line n last)
    → Appends first new (kept_text form size (front ++ last ∷ []))
kept_more form size n front last first old new is before more =
    subst (λ (bytes : List ℕ). Appends first new bytes) (sym (text-push form size n front last is))
    (Appends-trans first old new (kept_text form size front) (form.line n last) before more)

-- a part of its line was kept
broken_off : (form : Form) (size n : ℕ) (front : List Entry) (last : Entry) (first old new : Option (List ℕ))
    → n ≡ length front + 1 → Appends first old (kept_text form size front) → AppendsPart old new (form.line n last)
    → BreaksOff form size (front ++ last ∷ []) first new
broken_off form size n front last first old new is before more = record {
  front = front;
  last = last ∷ [];
  journal_is = refl;
  few = omega arith;
  part = more.0;
  begins = (
    more.1.0,
    append-nil (form.line (length front + 1) last) ∙ ap (λ m. form.line m last) (sym is) ∙ more.1.1,
  );
  kept_is = Appends-trans first old new (kept_text form size front) more.0 before more.2;
}

number_of : (n : ℕ) (front journal : List Entry) (last : Entry) → journal ≡ front ++ last ∷ [] → n ≡ length journal
    → n ≡ length front + 1
number_of n front journal last is number = omega (arith, number, ap length is, length-append front (last ∷ []))

-- all of the last entry, which has this number, is kept
all_kept : (form : Form) (size n : ℕ) (journal : List Entry) (last : Entry) (first old new : Option (List ℕ))
    → LacksLast form size journal last first old → n ≡ length journal → Appends old new (form.line n last)
    → Appends first new (kept_text form size journal)
all_kept form size n journal last first old new s number line =
    subst (λ (entries : List Entry). Appends first new (kept_text form size entries)) (sym s.journal_is)
    (kept_more form size n s.front last first old new (number_of n s.front journal last s.journal_is number) s.kept_is
    line)

-- what is kept is the text of the journal again, or breaks off in the last line
pub kept_or_broken : {A E : Type 0} (form : Form) (size n : ℕ) (journal : List Entry) (last : Entry)
    (first old new : Option (List ℕ)) (failed : Bool) (result : Result A E)
    → LacksLast form size journal last first old → n ≡ length journal
    → OnOk result (Appends old new (form.line n last)) → OnErr result (AppendsPart old new (form.line n last))
    → OnOk result (failed ≡ false) → OnErr result (failed ≡ true)
    → IsKeptAs form size journal failed first new
kept_or_broken form size n journal last first old new failed (Ok done) s number line part good bad =
    subst (λ f. IsKeptAs form size journal f first new) (sym good)
    (all_kept form size n journal last first old new s number line)
kept_or_broken form size n journal last first old new failed (Err why) s number line part good bad =
    subst (λ f. IsKeptAs form size journal f first new) (sym bad)
    (subst (λ (entries : List Entry). BreaksOff form size entries first new) (sym s.journal_is)
    (broken_off form size n s.front last first old new (number_of n s.front journal last s.journal_is number) s.kept_is
    part))

-- what was kept before, if no write has failed
pub kept_before : (form : Form) (size : ℕ) (journal : List Entry) (failed : Bool) (first kept : Option (List ℕ))
    → IsKeptAs form size journal failed first kept → failed ≡ false
    → Appends first kept (kept_text form size journal)
kept_before form size journal failed first kept held good =
    subst (λ f. IsKeptAs form size journal f first kept) good held
