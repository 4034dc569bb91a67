-- Options after areas, one by one.
use Rattle.std.proofs.Common.{◌≡◌, ℕ, ◌≤◌, ◌==◌, false, List, [], ◌∷◌, length, drop, Some, refl, arith}
use Rattle.std.specs.Prelude.{slice_index}
use Rattle.autocoder_statements.specs.Punctuation.{comma, letter_x}
use Rattle.autocoder_statements.specs.WideAreas.{option_and, options_and, register_and}
use Rattle.autocoder_statements.specs.declared.wide_areas.AreaOptions.{AreaOptions}

-- an option of one letter after a comma, and those after it
pub with_first : (these those : AreaOptions) (text : List ℕ) → 2 ≤ length text → slice_index text 0 ≡ comma
    → (slice_index text 1 == letter_x) ≡ false → option_and these (slice_index text 1) ≡ Some those
    → options_and those (drop 2 text) ≡ options_and these text
with_first these those [] enough parting letter with = absurd (omega (arith, enough))
with_first these those (first ∷ []) enough parting letter with = absurd (omega (arith, enough))
with_first these those (first ∷ second ∷ []) enough parting letter with = rw (parting, with) refl
with_first these those (first ∷ second ∷ third ∷ more) enough parting letter with =
    rw (parting, letter, with) refl

-- X1, X2 or X3 after a comma, and those after it
pub with_register : (these those : AreaOptions) (text : List ℕ) → 2 ≤ length text → slice_index text 0 ≡ comma
    → slice_index text 1 ≡ letter_x → 1 ≤ length (drop 2 text)
    → register_and these (slice_index (drop 2 text) 0) ≡ Some those
    → options_and those (drop 1 (drop 2 text)) ≡ options_and these text
with_register these those [] enough parting letter digit with = absurd (omega (arith, enough))
with_register these those (first ∷ []) enough parting letter digit with = absurd (omega (arith, enough))
with_register these those (first ∷ second ∷ []) enough parting letter digit with = absurd (omega (arith, digit))
with_register these those (first ∷ second ∷ third ∷ more) enough parting letter digit with =
    rw (parting, letter, with) refl
