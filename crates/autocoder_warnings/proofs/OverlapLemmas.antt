-- Places in turn.
use Rattle.std.proofs.Common.{◌≡◌, ℕ, zero, suc, ◌+◌, ◌-◌, ◌<◌, ◌==◌, List, cond, refl, arith}
use Rattle.std.proofs.Common.{Some}
use Rattle.std.specs.Prelude.{slice_index_or, slice_set}
use Rattle.autocoder_warnings.specs.Overlap.{first_filled, with_filler}

pub one_place_more : (n : ℕ) (fillers : List ℕ) (at : ℕ) → 0 < n
    → first_filled fillers at n
    ≡ cond (slice_index_or fillers at 0 == 0) (first_filled fillers (at + 1) (n - 1)) (Some at)
one_place_more zero fillers at h = absurd (omega (arith, h))
one_place_more (suc n) fillers at h = let less : suc n - 1 ≡ n = omega arith in rw less refl

pub one_filler_more : (n : ℕ) (number at : ℕ) (fillers : List ℕ) → 0 < n
    → with_filler number at n fillers ≡ with_filler number (at + 1) (n - 1) (slice_set fillers at number)
one_filler_more zero number at fillers h = absurd (omega (arith, h))
one_filler_more (suc n) number at fillers h = let less : suc n - 1 ≡ n = omega arith in rw less refl
