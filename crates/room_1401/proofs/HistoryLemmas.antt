-- The exchange that adds a command keeps the rule of the history.
use Rattle.std.proofs.Common.{◌≡◌, ℕ, ◌+◌, ◌<◌, ◌==◌, Bool, true, false, List, [], ◌∷◌, ◌++◌, length, None}
use Rattle.std.proofs.Common.{refl, ap, sym, subst, arith, inl, length-append}
use Rattle.std.proofs.lemmas.List.{append-nil}
use Rattle.std.proofs.lemmas.Bool.Decides.{nat_tests}
use mathlib.Core.List.{IsPrefix}
use prog.Atomic.{either}
use Rattle.logbook.specs.Pages.{Cell, cell, keeps, no_nib, step, Moves, Goes}
use Rattle.room_alone.specs.declared.entry.SeatedCommand.{SeatedCommand}
use Rattle.room_1401.specs.History.{IsKept, Adds}
use Rattle.room_1401.proofs.PrefixLemmas.{prefix_whole}

abbrev pub shown : List SeatedCommand → List SeatedCommand
shown history = []

abbrev pub moved : List SeatedCommand → List SeatedCommand → ℕ → Type 0
moved before after n = Unit {0}

-- the length after the exchange of a length by one more
abbrev pub one_more : ℕ → ℕ → ℕ
one_more old n = either (n == old) (old + 1) n

-- the exchange over a history, of which this much was seen
abbrev pub GoesOn : List SeatedCommand → SeatedCommand → ℕ → List Cell → List SeatedCommand → Type 0
GoesOn seen pair old words history =
    Goes IsKept shown moved 0 (seen, (no_nib, None)) (one_more old)
    (Adds (step 0 old (old + 1) pair) (seen, (no_nib, None))) words history

pub adds_goes : (history seen : List SeatedCommand) (pair : SeatedCommand) (old : ℕ) → length seen ≡ old
    → IsPrefix seen history
    → (same : Bool) → (length history == old) ≡ same
    → GoesOn seen pair old ((length history, true) ∷ (0, true) ∷ []) history
adds_goes history seen pair old len begins true is =
    let here : length history ≡ old = grind (arith, nat_tests) in
    let all : seen ≡ history = prefix_whole seen history begins (omega arith) in
    let longer : one_more old (length history) ≡ length (history ++ pair ∷ []) =
    rw is (omega (arith, length-append history (pair ∷ []))) in (
      keeps,
      pair ∷ [],
      None,
      tt,
      ap (λ n. (n, true) ∷ (0, true) ∷ []) longer,
      inl (refl, refl),
      rw is (ap (λ list. list ++ pair ∷ []) (sym all)),
    )
adds_goes history seen pair old len begins false is =
    let all : history ++ [] ≡ history = append-nil history in
    let same : one_more old (length history) ≡ length (history ++ []) = rw is (ap length (sym all)) in (
      keeps,
      [],
      None,
      tt,
      ap (λ n. (n, true) ∷ (0, true) ∷ []) same,
      inl (refl, refl),
      rw is (ap length all),
    )

-- whatever the history is, the exchange adds the command to all that was seen, or finds that the history is longer
pub adds_moves : (seen : List SeatedCommand) (pair : SeatedCommand) (old : ℕ) → length seen ≡ old
    → Moves IsKept shown moved 0 (seen, (no_nib, None)) (one_more old)
    (Adds (step 0 old (old + 1) pair) (seen, (no_nib, None)))
adds_moves seen pair old len words history kept begins away =
    subst (λ (w : List Cell). (0 < length w) × ((cell w 0).1 ≡ true) × GoesOn seen pair old w history) (sym kept)
    (omega arith, refl, adds_goes history seen pair old len begins (length history == old) refl)
