-- A set of places by words of bits (own).
use Rattle.std.specs.Prelude.{◌≡◌, ℕ, ◌+◌, ◌==◌, ◌<◌, ◌≤◌, Bool, false, List}
use Rattle.core_1401.specs.MarkWords.{mark_bit}

-- whether a place is in the set
abbrev pub has_place : List ℕ → ℕ → Bool
has_place words at = mark_bit words at == 1

-- none of the n places from one down is in the set
abbrev pub HasNone : List ℕ → ℕ → ℕ → Type 0
HasNone words at n = (place : ℕ) → place ≤ at → at < place + n → has_place words place ≡ false
