-- Characters that were lent by address, and the storage that they stand for.
use Rattle.std.proofs.Common.{◌≡◌, ℕ, ◌-◌, ◌<◌, Bool, List, length, set, inl, inr, ap, sym, ◌∙◌}
use Rattle.std.proofs.Common.{false, arith, slice_index_or}
use Rattle.std.proofs.lemmas.Bool.{cases_eq}
use Rattle.std.proofs.lemmas.Grind.{get_or-set_at}
use Rattle.std.proofs.lemmas.List.{ext_get_or, get_or-set_other, length-set, get_or_default, get_or-map, length-map}
use Rattle.std.proofs.lemmas.List.FromFn.{get_or-map-range_with_len, length-map-range_with_len}
use Rattle.bcd_1401.specs.declared.cell.Cell.{Cell}
use Rattle.core_1401.specs.Places.{chars_of, lent_cell, with_all_chars, with_chars, is_within}
use Rattle.core_1401.specs.Storage.{Storage, blank, cell_at, with_char}
use Rattle.fields_1401.proofs.PlacesLemmas.{cell_at-beside_chars}

-- the core is as large as before
pub length-with_all_chars : (s : Storage) (chars : List ℕ) → length (with_all_chars s chars) ≡ length s
unfolding with_all_chars
length-with_all_chars s chars = length-map-range_with_len (lent_cell s chars) 0 (length s)

-- what is at a place
pub cell_at-with_all_chars : (s : Storage) (chars : List ℕ) (q : ℕ) → q < length s
    → cell_at (with_all_chars s chars) q ≡ lent_cell s chars q
unfolding with_all_chars
cell_at-with_all_chars s chars q in_core =
    get_or-map-range_with_len (lent_cell s chars) 0 (length s) q q blank in_core (omega arith)

-- there is a character for each place
pub length-chars_of : (s : Storage) → length (chars_of s) ≡ length s
length-chars_of s = length-map s (λ (cell : Cell). cell.char)

-- each is that of its cell
pub char_of_cell : (s : Storage) (q d : ℕ) → q < length s → slice_index_or (chars_of s) q d ≡ (cell_at s q).char
char_of_cell s q d in_core = get_or-map (λ (cell : Cell). cell.char) s q blank d in_core

-- a character that was lent is that of its cell
pub char_lent : (s : Storage) (chars : List ℕ) (q d : ℕ) → q < length s → length chars ≡ length s
    → slice_index_or chars q d ≡ (cell_at (with_all_chars s chars) q).char
char_lent s chars q d in_core size =
    get_or_default chars q d (cell_at s q).char (omega (arith, size, in_core))
    ∙ sym (ap (λ (cell : Cell). cell.char) (cell_at-with_all_chars s chars q in_core))

-- the i-th below an address, read of the characters by address
pub char_below : (s : Storage) (chars : List ℕ) (at from i char d : ℕ) → chars ≡ chars_of s → from ≡ at → at < length s
    → char ≡ slice_index_or chars (from - i) d → char ≡ (cell_at s (at - i)).char
char_below s chars at from i char d lent e in_core read =
    read ∙ ap (λ (l : List ℕ). slice_index_or l (from - i) d) lent
    ∙ ap (λ (k : ℕ). slice_index_or (chars_of s) (k - i) d) e
    ∙ char_of_cell s (at - i) d (omega (arith, in_core))

-- before anything is written
pub lent_at_first : (s : Storage) (chars : List ℕ) → chars ≡ chars_of s → with_all_chars s chars ≡ s
lent_at_first s chars e =
    ap (with_all_chars s) e ∙ ext_get_or blank (with_all_chars s (chars_of s)) s (length-with_all_chars s (chars_of s))
    (λ q lt.
    let in_core : q < length s = omega (arith, length-with_all_chars s (chars_of s), lt) in
    let char : Cell → ℕ = λ cell. cell.char in
    cell_at-with_all_chars s (chars_of s) q in_core
    ∙ ap (λ (c : ℕ). let cell : Cell = record (cell_at s q) { char = c } in cell)
    (get_or-map char s q blank (cell_at s q).char in_core))

-- a character written at a place
pub lent-set : (s : Storage) (chars : List ℕ) (q char : ℕ) → q < length s → length chars ≡ length s
    → with_all_chars s (set chars q char) ≡ with_char (with_all_chars s chars) q char
lent-set s chars q char in_core size =
    let before : Storage = with_all_chars s chars in
    let cell : Cell = record (cell_at before q) { char = char } in
    let len : length before ≡ length s = length-with_all_chars s chars in
    let after : length (with_all_chars s (set chars q char)) ≡ length s = length-with_all_chars s (set chars q char) in
    ext_get_or blank (with_all_chars s (set chars q char)) (set before q cell)
    (after ∙ sym len ∙ sym (length-set before q cell))
    (λ p lt.
    let within : p < length s = omega (arith, after, lt) in
    cell_at-with_all_chars s (set chars q char) p within ∙ (elim (cases_eq p q) [
      | inl here ↦ ap (λ (c : ℕ). let made : Cell = record (cell_at s p) { char = c } in made)
          (get_or-set_at chars q p char (cell_at s p).char here (omega (arith, size, in_core)))
          ∙ ap (λ (m : Bool). let made : Cell = record { char = char; mark = m } in made)
          (ap (λ (r : ℕ). (cell_at s r).mark) here
          ∙ ap (λ (found : Cell). found.mark) (sym (cell_at-with_all_chars s chars q in_core)))
          ∙ sym (get_or-set_at before q p cell blank here (omega (arith, len, in_core)))
      | inr other ↦ ap (λ (c : ℕ). let made : Cell = record (cell_at s p) { char = c } in made)
          (get_or-set_other chars q p char (cell_at s p).char other)
          ∙ sym (cell_at-with_all_chars s chars p within) ∙ sym (get_or-set_other before q p cell blank other)
    ]))

-- a character beside the places that were written is as it was
pub still_lent : (s : Storage) (chars : List ℕ) (at n q : ℕ) (char_of : ℕ → ℕ) → length chars ≡ length s
    → with_all_chars s chars ≡ with_chars s at n char_of → q < length s → is_within at n q ≡ false
    → slice_index_or chars q 0 ≡ (cell_at s q).char
still_lent s chars at n q char_of size put in_core beside =
    char_lent s chars q 0 in_core size ∙ ap (λ (t : Storage). (cell_at t q).char) put
    ∙ ap (λ (cell : Cell). cell.char) (cell_at-beside_chars s at n char_of q in_core beside)
