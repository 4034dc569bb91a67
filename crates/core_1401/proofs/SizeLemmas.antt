-- How many places core storage has, by what it is held as.
use Rattle.std.proofs.Common.{◌≡◌, ℕ, ◌<◌, true, List, length, ap, sym, ◌∙◌, arith}
use Rattle.core_1401.specs.Address.{addresses}
use Rattle.core_1401.specs.MarkWords.{held}
use Rattle.core_1401.specs.Storage.{Storage, is_core_size}
use Rattle.core_1401.proofs.HeldLemmas.{length_held, most_places}

-- as many as there are characters
pub held_size : (chars words : List ℕ) (storage : Storage) → held chars words ≡ storage → length chars ≡ length storage
held_size chars words storage view = sym (length_held chars words) ∙ ap length view

-- so a place is below the greatest number of them
pub place_small : (chars words : List ℕ) (storage : Storage) (at place : ℕ) → held chars words ≡ storage
    → is_core_size (length chars) ≡ true → place ≡ at → at < length storage → place < addresses
place_small chars words storage at place view whole e in_storage = omega (
  arith,
  held_size chars words storage view,
  most_places (length chars) whole,
  e,
  in_storage,
)
