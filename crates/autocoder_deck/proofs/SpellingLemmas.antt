-- Whether an address is in the assembler's spelling, character by character.
use Rattle.std.proofs.Common.{◌≡◌, ◌<◌, ◌%◌, ℕ, [], ◌∷◌, refl}
use Rattle.std.specs.Str.{bytes_eq}
use Rattle.std.proofs.lemmas.Bool.{lt-ltb}
use Rattle.bcd_1401.specs.Character.{zone_of}
use Rattle.core_1401.specs.Address.{addresses, spelling_of, value_of}
use Rattle.autocoder_placing.specs.Cells.{with_index}
use Rattle.autocoder_deck.specs.Assembled.{is_spelling}

pub is_spelling_by : (h t u : ℕ) → value_of h t u < addresses → is_spelling h t u
    ≡ bytes_eq (with_index (zone_of t % 4) (spelling_of (value_of h t u))) (h ∷ t ∷ u ∷ [])
is_spelling_by h t u inside = rw (lt-ltb (value_of h t u) addresses inside) refl
