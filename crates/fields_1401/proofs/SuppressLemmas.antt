-- What zero suppress shows, place by place.
use Rattle.std.proofs.Common.{◌≡◌, ℕ, ◌-◌, ◌<◌, ◌≤◌, List, length, get_or, replicate, drop, ap, sym, ◌∙◌, inl, inr}
use Rattle.std.proofs.Common.{arith}
use Rattle.std.proofs.lemmas.List.{ext_get_or, length-append, length-replicate, length-drop, get_or_append_left}
use Rattle.std.proofs.lemmas.List.{get_or-append_right, get_or-replicate, get_or-drop}
use Rattle.std.proofs.lemmas.List.Sums.{prefix_len-le-length, position_or_len_is, passes_at_first}
use Rattle.std.proofs.lemmas.Bool.{cases_lt}
use Rattle.std.specs.Prelude.{not}
use Rattle.fields_1401.specs.Suppress.{is_figure, before_figures, suppressed}

-- those that are to the left of the first figure are some of all
pub before_figures-le : (xs : List ℕ) → before_figures xs ≤ length xs
before_figures-le xs = prefix_len-le-length (λ x. not (is_figure x)) xs

-- as many characters as before
pub length-suppressed : (xs : List ℕ) → length (suppressed xs) ≡ length xs
unfolding suppressed
length-suppressed xs =
    let k = before_figures xs in
    length-append (replicate k 0) (drop k xs)
    ∙ omega (arith, length-replicate {A = ℕ} k 0, length-drop k xs, before_figures-le xs)

-- a place left of the first figure shows a blank
pub suppressed_left : (xs : List ℕ) (j : ℕ) → j < before_figures xs → get_or (suppressed xs) j 0 ≡ 0
unfolding suppressed
suppressed_left xs j lt =
    let k = before_figures xs in
    let size : length (replicate {A = ℕ} k 0) ≡ k = length-replicate {A = ℕ} k 0 in
    get_or_append_left (replicate k 0) (drop k xs) 0 j (omega arith) ∙ get_or-replicate {A = ℕ} k j 0 0 lt

-- each other place shows its character
pub suppressed_right : (xs : List ℕ) (j : ℕ) → before_figures xs ≤ j → get_or (suppressed xs) j 0 ≡ get_or xs j 0
unfolding suppressed
suppressed_right xs j le =
    let k = before_figures xs in
    get_or-append_right (replicate k 0) (drop k xs) k j 0 (length-replicate {A = ℕ} k 0) le ∙ get_or-drop k xs (j - k) 0
    ∙ ap (λ i. get_or xs i 0) (omega arith)

-- the first figure is where it was
before_figures-suppressed : (xs : List ℕ) → before_figures (suppressed xs) ≡ before_figures xs
before_figures-suppressed xs =
    let k = before_figures xs in
    let size = length-suppressed xs in
    position_or_len_is is_figure (suppressed xs) k 0 (omega (arith, before_figures-le xs))
    (λ j lt. ap is_figure (suppressed_left xs j lt))
    (λ lt. ap is_figure (suppressed_right xs k (omega arith)) ∙ passes_at_first is_figure xs 0 (omega arith))

-- a second time nothing is left to suppress
pub suppressed_again : (xs : List ℕ) → suppressed (suppressed xs) ≡ suppressed xs
suppressed_again xs =
    let ys = suppressed xs in
    let same = before_figures-suppressed xs in
    ext_get_or 0 (suppressed ys) ys (length-suppressed ys) (λ j lt. elim (cases_lt j (before_figures ys)) [
      | inl left ↦ suppressed_left ys j left ∙ sym (suppressed_left xs j (omega arith))
      | inr right ↦ suppressed_right ys j right
    ])
