-- The pieces of a text, one cut off after the other.
use Rattle.std.proofs.Common.{◌≡◌, ℕ, ◌+◌, ◌<◌, ◌≤◌, List, [], ◌∷◌, length, take, drop, subst, sym, arith}
use Rattle.std.proofs.lemmas.List.Splits.{slice_split_first, slice_split_none}
use Rattle.std.proofs.lemmas.List.Sums.{fails_before_first}
use Rattle.std.specs.List.{position_or_len}
use Rattle.serving_page.specs.Pieces.{is_byte, pieces_of}

-- without a byte that parts it a text is one piece
pub last_piece : (parting : ℕ) (text : List ℕ) (len : ℕ) → len ≡ position_or_len (is_byte parting) text
    → length text ≤ len → pieces_of parting text ≡ text ∷ []
last_piece parting text len is all =
    slice_split_none (is_byte parting) text
    (λ k d within. fails_before_first (is_byte parting) text k d (omega (arith, is, all, within)))

-- with one, the first piece is what comes before it
pub first_piece : (parting : ℕ) (text : List ℕ) (len : ℕ) → len ≡ position_or_len (is_byte parting) text
    → len < length text → pieces_of parting text ≡ take len text ∷ pieces_of parting (drop (len + 1) text)
first_piece parting text len is within =
    let P : ℕ → Type 0 = λ n. pieces_of parting text ≡ take n text ∷ pieces_of parting (drop (n + 1) text) in
    subst P (sym is) (slice_split_first (is_byte parting) text 0 (omega (arith, is, within)))
