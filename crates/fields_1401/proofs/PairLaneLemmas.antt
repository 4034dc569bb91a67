-- Pairs compared at once: the bit of a lane tells whether its pair differs.
use Rattle.std.proofs.Common.{◌≡◌, ◌≢◌, ℕ, ◌+◌, ◌-◌, ◌/◌, ◌%◌, ◌^◌, ◌==◌, ◌<◌, ◌≤◌, Bool, true, false, List, [], ◌∷◌}
use Rattle.std.proofs.Common.{Some, None, length, drop, get_or, not, ap, sym, subst, refl, ◌∙◌, inl, inr, arith}
use Rattle.std.proofs.Common.{cond, zero, suc}
use Rattle.std.specs.Simd.Lanes.{chunk, mask_l, zip2}
use Rattle.std.specs.Int.{trailing_zeros, w64}
use Rattle.std.proofs.lemmas.Bool.{cases_lt}
use Rattle.std.proofs.lemmas.Bool.Decides.{nat_tests}
use Rattle.std.proofs.lemmas.List.{get_or-map, length-drop}
use Rattle.std.proofs.lemmas.Nat.{pow_below, shr-shr}
use Rattle.std.proofs.lemmas.Nat.Bits.{bit_at_above, bit_at-trailing_zeros}
use Rattle.std.proofs.lemmas.Simd.{bit_mask_l, get_or-chunk, length-chunk, length-zip2, mask_l-lt}
use Rattle.bcd_1401.specs.declared.cell.Cell.{Cell}
use Rattle.core_1401.specs.Places.{is_unequal_pair}
use Rattle.core_1401.specs.Storage.{Storage, blank, cell_at}
use Rattle.fields_1401.specs.Compare.{highest_difference}
use Rattle.fields_1401.specs.Places.{chars_of}
use Rattle.fields_1401.proofs.CompareLemmas.{highest_none, highest_some}
use Rattle.fields_1401.proofs.LaneLemmas.{lanes_lent, mask_drop}
use Rattle.fields_1401.proofs.LendingLemmas.{length-chars_of}

-- whether two codes differ
abbrev pub differ : ℕ → ℕ → Bool
differ x y = not (x == y)

-- the sixteen characters that end at an address, from left to right
abbrev lanes_at : Storage → ℕ → List ℕ
lanes_at s at = chunk (at - 15) 16 (chars_of s)

-- two addresses at which sixteen places end
record HaveLanes (s : Storage) (a b n : ℕ) : Type 0 where
  few : n ≤ 16
  a_least : 15 ≤ a
  b_least : 15 ≤ b
  a_in : a < length s
  b_in : b < length s

zip_bit : (f : ℕ → ℕ → Bool) (xs ys : List ℕ) (i : ℕ) → i < length xs → i < length ys
    → get_or (zip2 f xs ys) i false ≡ f (get_or xs i 0) (get_or ys i 0)
zip_bit f [] ys i in_xs in_ys = absurd (omega (arith, in_xs))
zip_bit f (x ∷ xs) [] i in_xs in_ys = absurd (omega (arith, in_ys))
zip_bit f (x ∷ xs) (y ∷ ys) zero in_xs in_ys = refl
zip_bit f (x ∷ xs) (y ∷ ys) (suc i) in_xs in_ys = zip_bit f xs ys i (omega (arith, in_xs)) (omega (arith, in_ys))

lane_count : (s : Storage) (at : ℕ) → 15 ≤ at → at < length s → length (lanes_at s at) ≡ 16
lane_count s at least in_core =
    length-chunk (at - 15) 16 (chars_of s) (omega (arith, least, in_core, length-chars_of s))

lane_char : (s : Storage) (at i : ℕ) → 15 ≤ at → at < length s → i < 16
    → get_or (lanes_at s at) (15 - i) 0 ≡ (cell_at s (at - i)).char
lane_char s at i least in_core lt =
    get_or-chunk (at - 15) 16 (chars_of s) (15 - i) 0 (omega arith)
    ∙ get_or-map (λ (cell : Cell). cell.char) s (at - 15 + (15 - i)) blank 0 (omega (arith, least, in_core, lt))
    ∙ ap (λ q. (cell_at s q).char) (omega (arith, least, lt))

-- the bit of pair i is that of lane 15 - i
lane_bit : (s : Storage) (a b n i : ℕ) → HaveLanes s a b n → i < 16
    → get_or (zip2 differ (lanes_at s a) (lanes_at s b)) (15 - i) false ≡ is_unequal_pair s a b i
lane_bit s a b n i have lt =
    zip_bit differ (lanes_at s a) (lanes_at s b) (15 - i)
    (omega (arith, lane_count s a have.a_least have.a_in)) (omega (arith, lane_count s b have.b_least have.b_in))
    ∙ ap (λ x. differ x (get_or (lanes_at s b) (15 - i) 0)) (lane_char s a i have.a_least have.a_in lt)
    ∙ ap (λ y. differ (cell_at s (a - i)).char y) (lane_char s b i have.b_least have.b_in lt)

pair_bit : (s : Storage) (a b n d k : ℕ) → HaveLanes s a b n → d ≡ mask_l (zip2 differ (lanes_at s a) (lanes_at s b))
    → k < n → d / 2 ^ (16 - n) / 2 ^ k % 2 ≡ cond (is_unequal_pair s a b (n - 1 - k)) 1 0
pair_bit s a b n d k have is lt =
    let i : ℕ = n - 1 - k in
    let lane : 16 - n + k ≡ 15 - i = omega (arith, have.few, lt) in
    ap (λ (q : ℕ). q % 2) (shr-shr d (16 - n) k)
    ∙ ap (λ (q : ℕ). d / 2 ^ q % 2) lane
    ∙ ap (λ (m : ℕ). m / 2 ^ (15 - i) % 2) is
    ∙ bit_mask_l (zip2 differ (lanes_at s a) (lanes_at s b)) (15 - i)
    ∙ ap (λ (bit : Bool). cond bit 1 0) (lane_bit s a b n i have (omega (arith, have.few, lt)))

bit_true : (bit : Bool) → ◌≡◌ {A = ℕ} (cond bit 1 0) 1 → bit ≡ true
bit_true true e = refl
bit_true false e = absurd (omega (arith, e))

bit_false : (bit : Bool) → ◌≡◌ {A = ℕ} (cond bit 1 0) 0 → bit ≡ false
bit_false true e = absurd (omega (arith, e))
bit_false false e = refl

-- the bits of n pairs are below 2 to the n
pairs_below : (s : Storage) (a b n d : ℕ) → HaveLanes s a b n → d ≡ mask_l (zip2 differ (lanes_at s a) (lanes_at s b))
    → d / 2 ^ (16 - n) < 2 ^ n
pairs_below s a b n d have is =
    let bits : List Bool = zip2 differ (lanes_at s a) (lanes_at s b) in
    let all : length bits ≡ 16 =
    length-zip2 differ (lanes_at s a) (lanes_at s b)
    (lane_count s a have.a_least have.a_in ∙ sym (lane_count s b have.b_least have.b_in))
    ∙ lane_count s a have.a_least have.a_in in
    let size : length (drop (16 - n) bits) ≡ n = omega (arith, length-drop (16 - n) bits, all, have.few) in
    let are : d / 2 ^ (16 - n) ≡ mask_l (drop (16 - n) bits) =
    ap (λ (m : ℕ). m / 2 ^ (16 - n)) is ∙ mask_drop (16 - n) bits in
    let small : mask_l (drop (16 - n) bits) < 2 ^ n = rw size at (mask_l-lt (drop (16 - n) bits)) in
    omega (arith, are, small)

-- if no bit is set, all pairs agree
no_lane : (s : Storage) (a b n d : ℕ) → HaveLanes s a b n → d ≡ mask_l (zip2 differ (lanes_at s a) (lanes_at s b))
    → d / 2 ^ (16 - n) ≡ 0 → highest_difference s a b n ≡ None
no_lane s a b n d have is none =
    highest_none s a b n (λ i lt.
    let k : ℕ = n - 1 - i in
    let here : n - 1 - k ≡ i = omega (arith, lt) in
    bit_false (is_unequal_pair s a b i)
    (ap (λ (q : ℕ). cond (is_unequal_pair s a b q) 1 0) (sym here)
    ∙ sym (pair_bit s a b n d k have is (omega (arith, lt)))
    ∙ ap (λ (m : ℕ). m / 2 ^ k % 2) none ∙ zero_bit k))
  where
    zero_bit : (k : ℕ) → 0 / 2 ^ k % 2 ≡ 0
    zero_bit k = bit_at_above 0 0 k (omega arith) (omega arith)

-- the lowest bit is that of the highest pair that differs
pub record IsHighest (s : Storage) (a b n t : ℕ) : Type 0 where
  pub within : t < n
  pub differs : is_unequal_pair s a b (n - 1 - t) ≡ true
  pub highest : highest_difference s a b n ≡ Some (n - 1 - t)

lowest_lane : (s : Storage) (a b n d : ℕ) → HaveLanes s a b n
    → d ≡ mask_l (zip2 differ (lanes_at s a) (lanes_at s b)) → d / 2 ^ (16 - n) ≢ 0
    → IsHighest s a b n (trailing_zeros w64 (d / 2 ^ (16 - n)))
lowest_lane s a b n d have is some =
    let m : ℕ = d / 2 ^ (16 - n) in
    let below : m < 2 ^ n = pairs_below s a b n d have is in
    let fits : m < 2 ^ 64 = omega (arith, below, pow_below n 64 (omega (arith, have.few))) in
    let at_least : 0 < m = omega (arith, some) in
    let lowest = bit_at-trailing_zeros w64 m at_least fits in
    let t : ℕ = trailing_zeros w64 m in
    let within : t < n = elim (cases_lt t n) [
      | inl lt ↦ lt
      | inr past ↦ absurd (omega (arith, sym lowest.1 ∙ bit_at_above m n t below past))
    ] in
    let differs : is_unequal_pair s a b (n - 1 - t) ≡ true =
    bit_true (is_unequal_pair s a b (n - 1 - t)) (sym (pair_bit s a b n d t have is within) ∙ lowest.1) in
    record {
      within = within;
      differs = differs;
      highest = highest_some s a b n (n - 1 - t) (omega (arith, within)) differs
          (λ j above lt.
          let k : ℕ = n - 1 - j in
          let here : n - 1 - k ≡ j = omega (arith, lt) in
          bit_false (is_unequal_pair s a b j)
          (ap (λ (q : ℕ). cond (is_unequal_pair s a b q) 1 0) (sym here)
          ∙ sym (pair_bit s a b n d k have is (omega (arith, lt)))
          ∙ lowest.2 k (omega (arith, above, lt, within))));
    }

-- what the bits of n pairs tell
pub record Told (s : Storage) (a b n bits : ℕ) : Type 0 where
  pub none : bits ≡ 0 → highest_difference s a b n ≡ None
  pub some : bits ≢ 0 → IsHighest s a b n (trailing_zeros w64 bits)

-- what the lanes that core lends tell of n pairs, once the bits of the others are shifted out
pub pairs_told : {of_a of_b chars : List ℕ} {place_a place_b d k : ℕ} (s : Storage) (a b n : ℕ) → n ≤ 16
    → (15 ≤ a) × (15 ≤ b) → a < length s → b < length s → chars ≡ chars_of s
    → of_a ≡ chunk (place_a - 15) 16 chars → place_a ≡ a → of_b ≡ chunk (place_b - 15) 16 chars → place_b ≡ b
    → d ≡ mask_l (zip2 differ of_a of_b) → k ≡ 16 - n → Told s a b n (d / 2 ^ k)
pairs_told {of_a} {of_b} {chars} {place_a} {place_b} {d} {k} s a b n few least a_in b_in lent read_a here_a read_b here_b
    bits shift =
    let have : HaveLanes s a b n = record {
      few = few;
      a_least = least.0;
      b_least = least.1;
      a_in = a_in;
      b_in = b_in;
    } in
    let is : d ≡ mask_l (zip2 differ (lanes_at s a) (lanes_at s b)) =
    bits
    ∙ ap (λ (codes : List ℕ). mask_l (zip2 differ codes of_b)) (lanes_lent s of_a chars place_a a read_a here_a lent)
    ∙ ap (λ (codes : List ℕ). mask_l (zip2 differ (lanes_at s a) codes))
    (lanes_lent s of_b chars place_b b read_b here_b lent) in
    subst (λ (shifted : ℕ). Told s a b n (d / 2 ^ shifted)) (sym shift)
    (record { none = no_lane s a b n d have is; some = lowest_lane s a b n d have is })

-- characters that differ aren't equal
pub differ_apart : (x y : ℕ) → differ x y ≡ true → x ≢ y
differ_apart x y h = λ e. grind (arith, nat_tests)
