-- What stands in an area of storage once characters were put there, and an address once it was stored.
use Rattle.std.proofs.Common.{◌≡◌, ◌≢◌, ◌⊎◌, ℕ, ◌+◌, ◌<◌, ◌≤◌, ◌==◌, suc, zero, Bool, true, false, List, [], ◌∷◌}
use Rattle.std.proofs.Common.{length}
use Rattle.std.proofs.Common.{drop, if◌then◌else◌}
use Rattle.std.proofs.Common.{get_or, refl, sym, ◌∙◌, ap, inl, inr, arith}
use Rattle.std.proofs.lemmas.Bool.{cases_eq, cases_lt}
use Rattle.std.proofs.lemmas.Bool.Decides.{nat_tests}
use Rattle.std.proofs.lemmas.List.{at_drop_all, get_or_past, get_or-set_other, get_or-set_same, length-set}
use Rattle.std.proofs.lemmas.List.FromFn.{get_or-map-range_with_len, length-map-range_with_len}
use Rattle.bcd_1401.specs.declared.cell.Cell.{Cell}
use Rattle.core_1401.specs.Places.{is_within, with_cells, written_cell}
use Rattle.core_1401.specs.Storage.{Storage, blank, cell_at, with_char, with_mark}
use Rattle.cpu_1401.specs.CardsAndPrinter.{with_chars_from}
use Rattle.devices_1401.specs.Card.{card_columns}

-- putting a character leaves each word mark
char_keeps_mark : (storage : Storage) (at char k : ℕ) → at < length storage
    → (cell_at (with_char storage at char) k).mark ≡ (cell_at storage k).mark
char_keeps_mark storage at char k in_core =
    let cell : Cell = record (cell_at storage at) { char = char } in
    elim (cases_eq k at) [
      | inl here ↦ ap (λ (q : ℕ). (cell_at (with_char storage at char) q).mark) here
          ∙ ap (λ (c : Cell). c.mark) (get_or-set_same storage at cell blank in_core)
          ∙ sym (ap (λ (q : ℕ). (cell_at storage q).mark) here)
      | inr other ↦ ap (λ (c : Cell). c.mark) (get_or-set_other storage at k cell blank other)
    ]

-- the places below are as they were
pub below_stays : (storage : Storage) (at : ℕ) (chars : List ℕ) (k : ℕ) → k < at
    → cell_at (with_chars_from storage at chars) k ≡ cell_at storage k
below_stays storage at [] k below = refl
below_stays storage at (char ∷ chars) k below =
    let further : k < at + 1 = omega (arith, below) in
    let other : k ≢ at = omega (arith, below) in
    below_stays (with_char storage at char) (at + 1) chars k further
    ∙ get_or-set_other storage at k (record (cell_at storage at) { char = char }) blank other

-- so is each word mark
pub marks_stay : (storage : Storage) (at : ℕ) (chars : List ℕ) (k : ℕ) → at + length chars ≤ length storage
    → (cell_at (with_chars_from storage at chars) k).mark ≡ (cell_at storage k).mark
marks_stay storage at [] k inside = refl
marks_stay storage at (char ∷ chars) k inside =
    let in_core : at < length storage = omega (arith, inside) in
    let cell : Cell = record (cell_at storage at) { char = char } in
    let left : at + 1 + length chars ≤ length (with_char storage at char) =
    omega (arith, inside, length-set storage at cell) in
    marks_stay (with_char storage at char) (at + 1) chars k left ∙ char_keeps_mark storage at char k in_core

-- the i-th character is at the i-th place
pub char_put : (storage : Storage) (at : ℕ) (chars : List ℕ) (i : ℕ) → at + length chars ≤ length storage
    → i < length chars → (cell_at (with_chars_from storage at chars) (at + i)).char ≡ get_or chars i 0
char_put storage at [] i inside within = omega (arith, within)
char_put storage at (char ∷ chars) zero inside within =
    let in_core : at < length storage = omega (arith, inside) in
    let cell : Cell = record (cell_at storage at) { char = char } in
    let first : at + 0 ≡ at = omega arith in
    let below : at < at + 1 = omega arith in
    ap (λ (q : ℕ). (cell_at (with_chars_from (with_char storage at char) (at + 1) chars) q).char) first
    ∙ ap (λ (c : Cell). c.char) (below_stays (with_char storage at char) (at + 1) chars at below)
    ∙ ap (λ (c : Cell). c.char) (get_or-set_same storage at cell blank in_core)
char_put storage at (char ∷ chars) (suc i) inside within =
    let cell : Cell = record (cell_at storage at) { char = char } in
    let left : at + 1 + length chars ≤ length (with_char storage at char) =
    omega (arith, inside, length-set storage at cell) in
    let further : i < length chars = omega (arith, within) in
    let place : at + suc i ≡ at + 1 + i = omega arith in
    ap (λ (q : ℕ). (cell_at (with_chars_from (with_char storage at char) (at + 1) chars) q).char) place
    ∙ char_put (with_char storage at char) (at + 1) chars i left further

-- once none is left, all are put
pub all_put : (first now : Storage) (at i : ℕ) (chars : List ℕ) → length chars ≤ i
    → with_chars_from now (at + i) (drop i chars) ≡ with_chars_from first at chars
    → now ≡ with_chars_from first at chars
all_put first now at i chars done whole = sym (at_drop_all (with_chars_from now (at + i)) chars i done) ∙ whole

-- the read area cleared has no word mark
cleared_mark : (storage : Storage) (k : ℕ) → 81 ≤ length storage → 1 ≤ k → k ≤ 80
    → (cell_at (with_cells storage card_columns card_columns (λ i. blank)) k).mark ≡ false
unfolding with_cells
cleared_mark storage k size first last =
    let in_core : k < length storage = omega (arith, size, last) in
    let within : is_within 80 80 k ≡ true = grind (arith, nat_tests) in
    ap (λ (c : Cell). c.mark)
    (get_or-map-range_with_len (written_cell storage 80 80 (λ i. blank)) 0 (length storage) k k blank in_core
    (omega arith))
    ∙ ap (λ (inside : Bool). (if inside then blank else cell_at storage k).mark) within

-- and each other place is as it was
pub cleared_beside : (storage : Storage) (k : ℕ) → (k < 1) ⊎ (80 < k)
    → cell_at (with_cells storage card_columns card_columns (λ i. blank)) k ≡ cell_at storage k
unfolding with_cells
cleared_beside storage k beside =
    let outside : is_within 80 80 k ≡ false = elim beside [
      | inl under ↦ grind (arith, nat_tests)
      | inr over ↦ grind (arith, nat_tests)
    ] in
    let after : Storage = with_cells storage 80 80 (λ i. blank) in
    let size : length after ≡ length storage =
    length-map-range_with_len (written_cell storage 80 80 (λ i. blank)) 0 (length storage) in
    elim (cases_lt k (length storage)) [
      | inl in_core ↦ get_or-map-range_with_len (written_cell storage 80 80 (λ i. blank)) 0 (length storage) k k blank
          in_core (omega arith) ∙ ap (λ (inside : Bool). if inside then blank else cell_at storage k) outside
      | inr past ↦ get_or_past after k blank (omega (arith, size, past)) ∙ sym (get_or_past storage k blank past)
    ]

-- so is its word mark once characters were put and the first place was marked
pub marks_beside : (storage cleared put : Storage) (k : ℕ)
    → cleared ≡ with_cells storage card_columns card_columns (λ i. blank)
    → ((q : ℕ) → (cell_at put q).mark ≡ (cell_at cleared q).mark) → (k < 1) ⊎ (80 < k)
    → (cell_at (with_mark put 1 true) k).mark ≡ (cell_at storage k).mark
marks_beside storage cleared put k e marks beside =
    let other : k ≢ 1 = λ here. elim beside [
      | inl under ↦ absurd (omega (arith, under, here))
      | inr over ↦ absurd (omega (arith, over, here))
    ] in
    ap (λ (c : Cell). c.mark) (get_or-set_other put 1 k (record (cell_at put 1) { mark = true }) blank other)
    ∙ marks k ∙ ap (λ (s : Storage). (cell_at s k).mark) e
    ∙ ap (λ (c : Cell). c.mark) (cleared_beside storage k beside)

no_zero : (i : ℕ) → (suc i == 0) ≡ false
no_zero i = grind (arith, nat_tests)

-- the read area cleared, characters put, and a word mark set at its first place: that is the only one there
pub first_marked : (storage cleared put : Storage) (i : ℕ)
    → cleared ≡ with_cells storage card_columns card_columns (λ i. blank) → 81 ≤ length storage → 1 < length put
    → ((k : ℕ) → (cell_at put k).mark ≡ (cell_at cleared k).mark) → i < 80
    → (cell_at (with_mark put 1 true) (1 + i)).mark ≡ (i == 0)
first_marked storage cleared put zero e size there marks within =
    ap (λ (c : Cell). c.mark) (get_or-set_same put 1 (record (cell_at put 1) { mark = true }) blank there)
first_marked storage cleared put (suc i) e size there marks within =
    let other : 1 + suc i ≢ 1 = omega arith in
    ap (λ (c : Cell). c.mark)
    (get_or-set_other put 1 (1 + suc i) (record (cell_at put 1) { mark = true }) blank other)
    ∙ marks (1 + suc i) ∙ ap (λ (s : Storage). (cell_at s (1 + suc i)).mark) e
    ∙ cleared_mark storage (1 + suc i) size (omega arith) (omega (arith, within))
    ∙ sym (no_zero i)
