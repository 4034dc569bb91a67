-- Lines that are carried out one after the other: one more of them, and the last one.
use Rattle.std.proofs.Common.{◌≡◌, ℕ, ◌+◌, ◌⊎◌, Bool, true, false, List, [], ◌∷◌, ◌++◌, length}
use Rattle.std.proofs.Common.{subst, sym, refl, inl, inr, append_assoc, ap, ◌∙◌}
use Rattle.std.proofs.lemmas.List.{append-nil}
use Rattle.std.specs.Prelude.{Option, None, Some, if◌then◌else◌}
use Rattle.room_1401.specs.Seen.{SeatView}
use Rattle.console_text.specs.ConsoleLine.{said_by}
use Rattle.console_1401.specs.SeatTurns.{AnswersAtSeat}
use Rattle.serving_page.specs.ManyLines.{EndsKeptOff, EndsTold, LinesAnswered, LinesDone, LinesKeptOff}
use Rattle.serving_page.specs.ManyLines.{Saying, goes_on}

-- how much is left of a text: with the end of its last piece, if there is one
abbrev pub left_of : Option (List ℕ) → ℕ
left_of None = 0
left_of (Some text) = length text + 1

-- at the beginning
pub done_first : (size : ℕ) (says : Saying) (first : SeatView) (all : List (List ℕ))
    → LinesDone size says first all [] first all
done_first size says first [] = (refl, refl, refl)
done_first size says first (line ∷ lines) = inr (refl, refl, refl)

-- a line whose reply goes on
done_on : (size : ℕ) (says : Saying) (first before after : SeatView) (all lines : List (List ℕ))
    (line text reply : List ℕ) → LinesDone size says first all text before (line ∷ lines) → says (line ∷ lines) None
    → AnswersAtSeat size before (said_by line) reply after → goes_on reply ≡ true
    → LinesDone size says first all (text ++ reply) after lines
done_on size says first before after [] lines line text reply done lets answers goes =
    let none : (line ∷ lines) ≡ [] = done.2 in absurd cc
done_on size says first before after (each ∷ all) lines line text reply (inl done) lets answers goes =
    inl (
      done.0,
      done.1,
      done.2 ++ reply,
      done.3,
      done.4,
      done.5,
      ap (λ (these : List ℕ). these ++ reply) done.6 ∙ append_assoc done.0 done.2 reply,
      done_on size says done.1 before after all lines line done.2 reply done.7 lets answers goes,
    )
done_on size says first before after (each ∷ all) lines line text reply (inr none) lets answers goes =
    let All : List (List ℕ) → Type 0 = λ these. LinesDone size says first these (text ++ reply) after lines in
    let At : SeatView → Type 0 = λ seat. AnswersAtSeat size seat (said_by line) reply after in
    subst All none.2 (inl (
      reply,
      after,
      [],
      lets,
      subst At none.1 answers,
      goes,
      ap (λ (these : List ℕ). these ++ reply) none.0 ∙ sym (append-nil reply),
      done_first size says after lines,
    ))

-- the same of what is left of a text
pub done_next : (size : ℕ) (says : Saying) (first before after : SeatView) (all left lines : List (List ℕ))
    (line text reply new : List ℕ) → LinesDone size says first all text before left → left ≡ line ∷ lines
    → says left None → AnswersAtSeat size before (said_by line) reply after → goes_on reply ≡ true
    → new ≡ text ++ reply → LinesDone size says first all new after lines
done_next size says first before after all left lines line text reply new done is lets answers goes news =
    let Left : List (List ℕ) → Type 0 = λ these. LinesDone size says first all text before these × says these None in
    let New : List ℕ → Type 0 = λ these. LinesDone size says first all these after lines in
    let both : Left (line ∷ lines) = subst Left is (done, lets) in
    subst New (sym news) (done_on size says first before after all lines line text reply both.0 both.1 answers goes)

-- nothing is left, or the next line is the last one
pub ends_told : (size : ℕ) (says : Saying) (first before after : SeatView) (all left these : List (List ℕ))
    (told text : List ℕ) → LinesDone size says first all told before left → left ≡ these
    → EndsTold size says told before these text after → LinesAnswered size says first all text after
ends_told size says first before after all left these told text done is ends =
    let Left : List (List ℕ) → Type 0 = λ lines. LinesDone size says first all told before lines in
    (told, before, these, subst Left is done, ends)

-- the next line is held off
pub ends_kept_off : (size : ℕ) (says : Saying) (first before after : SeatView) (all left these : List (List ℕ))
    (told text : List ℕ) → LinesDone size says first all told before left → left ≡ these
    → EndsKeptOff says told before these text after → LinesKeptOff size says first all text after
ends_kept_off size says first before after all left these told text done is ends =
    let Left : List (List ℕ) → Type 0 = λ lines. LinesDone size says first all told before lines in
    (told, before, these, subst Left is done, ends)

-- it is said why, unless memory was refused
pub said_or_not : (is_said : Bool) (new told these why : List ℕ) → new ≡ (if is_said then told ++ these else told)
    → these ≡ why → (new ≡ told ++ why) ⊎ (new ≡ told)
said_or_not true new told these why is same = inl (is ∙ ap (λ (text : List ℕ). told ++ text) same)
said_or_not false new told these why is same = inr is
