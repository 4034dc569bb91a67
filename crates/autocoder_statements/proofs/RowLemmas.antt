-- The first row that passes, of those from a place on.
use Rattle.std.proofs.Common.{◌≡◌, ℕ, ◌+◌, ◌<◌, Bool, true, false, List, length, drop, get_or, find, Some, refl}
use Rattle.std.proofs.Common.{drop-cons, add-one}

-- it is the one at the place, if that passes
pub found_here : {X : Type 0} (test : X → Bool) (rows : List X) (i : ℕ) (other : X) → i < length rows
    → test (get_or rows i other) ≡ true → find test (drop i rows) ≡ Some (get_or rows i other)
found_here test rows i other inside e = rw (drop-cons rows i other, e) refl

-- or else it is beyond it
pub found_later : {X : Type 0} (test : X → Bool) (rows : List X) (i : ℕ) (other : X) → i < length rows
    → test (get_or rows i other) ≡ false → find test (drop i rows) ≡ find test (drop (i + 1) rows)
found_later test rows i other inside e = rw (add-one, drop-cons rows i other, e) refl
