-- Characters, one more after those so far.
use Rattle.std.proofs.Common.{◌≡◌, ℕ, ◌==◌, List, [], ◌∷◌, ◌++◌, map, Some, sym, ap, ◌∙◌}
use Rattle.std.specs.Prelude.{position, slice_index}
use Rattle.std.proofs.lemmas.List.{map-append}
use Rattle.bcd_1401.specs.Graphic.{graphics}
use Rattle.machine_notation.specs.Characters.{char_of, chars_of, graphics_of}

-- the text of one more is read again
pub graphics_again-push : (chars : List ℕ) (char : ℕ) → chars_of (graphics_of chars) ≡ map Some chars
    → position (λ each. each == slice_index graphics char) graphics ≡ Some char
    → chars_of (graphics_of (chars ++ char ∷ [])) ≡ map Some (chars ++ char ∷ [])
unfolding chars_of graphics_of
graphics_again-push chars char again own =
    let front : List ℕ = map (λ c. slice_index graphics c) chars in
    ap (map char_of) (map-append (λ c. slice_index graphics c) chars (char ∷ []))
    ∙ map-append char_of front (slice_index graphics char ∷ [])
    ∙ rw (again, own) (sym (map-append Some chars (char ∷ [])))

-- the graphic of one more is added
pub graphics_of-push : (chars : List ℕ) (char : ℕ)
    → graphics_of (chars ++ char ∷ []) ≡ graphics_of chars ++ slice_index graphics char ∷ []
unfolding graphics_of
graphics_of-push chars char = map-append (λ c. slice_index graphics c) chars (char ∷ [])
