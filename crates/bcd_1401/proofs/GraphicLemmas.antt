-- Each of the 64 characters has a graphic of its own.
use Rattle.std.proofs.Common.{◌≡◌, ℕ, ◌<◌, ◌==◌, Bool, true, Option, Some, None, get_or, length, refl, arith, cond, ltb}
use Rattle.std.proofs.Common.{◌∙◌, subst, slice_index}
use Rattle.std.specs.Prelude.{position}
use Rattle.std.specs.List.{position_or_len, range_with_len, list_all}
use Rattle.std.proofs.lemmas.Bool.{eqb-true, lt-ltb}
use Rattle.std.proofs.lemmas.List.Elements.{All-get_or}
use Rattle.std.proofs.lemmas.List.FromFn.{get_or-range_with_len, length-range_with_len}
use Rattle.std.proofs.lemmas.List.Sums.{AllPass-from_list_all}
use Rattle.bcd_1401.specs.Graphic.{graphics}

-- whether the first place of a character's graphic is its code
abbrev is_first : ℕ → Bool
is_first code = position_or_len (λ each. each == slice_index graphics code) graphics == code

all_first : list_all is_first (range_with_len 0 64) ≡ true
unfolding graphics
all_first = refl

first_place : (code : ℕ) → code < 64 → position_or_len (λ each. each == slice_index graphics code) graphics ≡ code
first_place code h =
    let all = AllPass-from_list_all is_first (range_with_len 0 64) all_first in
    let here : code < length (range_with_len 0 64) = omega (arith, length-range_with_len 0 64) in
    let at = All-get_or (λ (k : ℕ). is_first k ≡ true) (range_with_len 0 64) code 0 here all in
    let same : get_or (range_with_len 0 64) code 0 ≡ code = get_or-range_with_len 0 64 code 0 h ∙ omega arith in
    eqb-true (position_or_len (λ each. each == slice_index graphics code) graphics) code (subst (λ (k : ℕ). is_first k
    ≡ true) same at)

many : length graphics ≡ 64
unfolding graphics
many = refl

found : (place len code : ℕ) → place ≡ code → ltb code len ≡ true
    → cond {A = Option ℕ} (ltb place len) (Some place) None ≡ Some code
found place len code e h = rw (e, h) refl

-- a character's graphic is found at its code
pub own_place : (code : ℕ) → code < 64 → position (λ each. each == slice_index graphics code) graphics ≡ Some code
own_place code h =
    let inside : ltb code (length graphics) ≡ true = lt-ltb code (length graphics) (omega (arith, many)) in
    found (position_or_len (λ each. each == slice_index graphics code) graphics) (length graphics) code
    (first_place code h) inside
