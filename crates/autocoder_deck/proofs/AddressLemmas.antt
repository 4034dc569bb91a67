-- An address that is spelled is read again.
use Rattle.std.proofs.Common.{◌≡◌, ℕ, ◌+◌, ◌*◌, ◌/◌, ◌%◌, ◌≤◌, ◌==◌, Bool, true, refl, ap, ◌∙◌, arith, if◌then◌else◌}
use Rattle.std.specs.Prelude.{slice_index}
use Rattle.std.proofs.lemmas.Bool.Decides.{nat_tests}
use Rattle.bcd_1401.specs.Character.{digit_of, digit_under, with_zone_of, zone_of}
use Rattle.core_1401.specs.Address.{addresses, effective_at, index_register, spelling_of, value_at, value_of}
use Rattle.core_1401.specs.Storage.{Storage, cell_at}

digit_again : (zone digit : ℕ) → digit ≤ 9 → digit_of (digit_under zone digit) ≡ digit
digit_again zone digit few = grind (arith, nat_tests)

zone_again : (zone digit : ℕ) → digit ≤ 9 → zone_of (digit_under zone digit) ≡ zone
zone_again zone digit few = grind (arith, nat_tests)

sum_again : (x : ℕ) → 100 * (x / 100 % 10) + 10 * (x / 10 % 10) + x % 10 + 1000 * (x / 1000 % 4) + 4000 * (x / 4000) ≡ x
sum_again x = omega arith

-- the sum of parts that are these
parts_sum : (dh dt du zh zu dh' dt' du' zh' zu' : ℕ) → dh ≡ dh' → dt ≡ dt' → du ≡ du' → zh ≡ zh' → zu ≡ zu'
    → 100 * dh + 10 * dt + du + 1000 * zh + 4000 * zu ≡ 100 * dh' + 10 * dt' + du' + 1000 * zh' + 4000 * zu'
parts_sum dh dt du zh zu dh' dt' du' zh' zu' a b c d e = rw (a, b, c, d, e) refl

pub value_again : (x : ℕ) → value_of (slice_index (spelling_of x) 0) (slice_index (spelling_of x) 1) (slice_index (spelling_of x) 2) ≡ x
value_again x =
    let h : x / 100 % 10 ≤ 9 = omega arith in
    let t : x / 10 % 10 ≤ 9 = omega arith in
    let u : x % 10 ≤ 9 = omega arith in
    parts_sum _ _ _ _ _ _ _ _ _ _ (digit_again (x / 1000 % 4) (x / 100 % 10) h) (digit_again 0 (x / 10 % 10) t)
    (digit_again (x / 4000) (x % 10) u) (zone_again (x / 1000 % 4) (x / 100 % 10) h) (zone_again (x / 4000) (x % 10) u)
    ∙ sum_again x

pub no_zone : (x : ℕ) → zone_of (slice_index (spelling_of x) 1) ≡ 0
no_zone x = zone_again 0 (x / 10 % 10) (omega arith)

-- the address that the spelling of a place stands for
pub effective_is : (storage : Storage) (at x : ℕ) → (cell_at storage at).char ≡ slice_index (spelling_of x) 0
    → (cell_at storage (at + 1)).char ≡ slice_index (spelling_of x) 1
    → (cell_at storage (at + 2)).char ≡ slice_index (spelling_of x) 2 → effective_at storage at ≡ x
effective_is storage at x e f g =
    let t = (cell_at storage (at + 1)).char in
    let u = (cell_at storage (at + 2)).char in
    let none : (zone_of t == 0) ≡ true =
    ap (λ (k : ℕ). zone_of k == 0) f ∙ ap (λ (k : ℕ). k == 0) (no_zone x) in
    ap (λ (b : Bool). if b then value_at storage at else (value_at storage at + value_at storage
    (index_register (zone_of t))) % addresses) none
    ∙ ap (λ (k : ℕ). value_of k t u) e ∙ ap (λ (k : ℕ). value_of (slice_index (spelling_of x) 0) k u) f
    ∙ ap (λ (k : ℕ). value_of (slice_index (spelling_of x) 0) (slice_index (spelling_of x) 1) k) g ∙ value_again x

-- the zone over the tens of a spelling is none, and stays so
pub tens_again : (x y : ℕ) → with_zone_of (slice_index (spelling_of x) 1) (zone_of (slice_index (spelling_of y) 1))
    ≡ slice_index (spelling_of x) 1
tens_again x y = ap (with_zone_of (slice_index (spelling_of x) 1)) (no_zone y) ∙ low_bits (x / 10 % 10) (omega arith)
  where
    low_bits : (digit : ℕ) → digit ≤ 9 → with_zone_of (digit_under 0 digit) 0 ≡ digit_under 0 digit
    low_bits digit few = grind (arith, nat_tests)
