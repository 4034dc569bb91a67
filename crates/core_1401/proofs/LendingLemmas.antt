-- The characters by address, taken from core storage and put back.
use Rattle.std.proofs.Common.{◌≡◌, ℕ, ◌-◌, ◌<◌, List, ◌++◌, length, take, drop, get_or, slice_index_or}
use Rattle.std.proofs.Common.{inl, inr, refl, ap, sym, ◌∙◌, arith}
use Rattle.std.proofs.lemmas.Bool.{cases_lt}
use Rattle.std.proofs.lemmas.List.{ext_get_or, get_or_append_left, get_or-append_right, get_or-take, get_or-drop}
use Rattle.std.proofs.lemmas.List.{get_or_past, get_or_default, get_or-map, length-map}
use Rattle.std.proofs.lemmas.List.FromFn.{get_or-map-range_with_len, length-map-range_with_len}
use Rattle.std.specs.List.{length_refill}
use Rattle.bcd_1401.specs.declared.cell.Cell.{Cell}
use Rattle.core_1401.specs.MarkWords.{held, held_cell}
use Rattle.core_1401.specs.Places.{chars_of, lent_cell, with_all_chars}
use Rattle.core_1401.specs.Storage.{Storage, blank, cell_at}
use Rattle.core_1401.proofs.HeldLemmas.{length_held, cell_at-held, same_cell}

-- the characters are those that are held
pub chars_of_held : (chars words : List ℕ) → chars_of (held chars words) ≡ chars
chars_of_held chars words =
    let storage : Storage = held chars words in
    let char : Cell → ℕ = λ cell. cell.char in
    let size : length (chars_of storage) ≡ length chars = length-map storage char ∙ length_held chars words in
    ext_get_or 0 (chars_of storage) chars size (λ q lt.
    let in_core : q < length chars = omega (arith, size, lt) in
    get_or-map char storage q blank 0 (omega (arith, length_held chars words, in_core))
    ∙ ap char (cell_at-held chars words q in_core))

-- a character of a list that was cut or filled up to the length of another
get_or-refill : (n : ℕ) (xs ws : List ℕ) (q : ℕ) → n ≡ length xs → q < n
    → get_or (take n (ws ++ drop (length ws) xs)) q 0 ≡ get_or ws q (get_or xs q 0)
get_or-refill n xs ws q e lt =
    get_or-take n (ws ++ drop (length ws) xs) q 0 lt
    ∙ (elim (cases_lt q (length ws)) [
      | inl within ↦ get_or_append_left ws (drop (length ws) xs) 0 q within
          ∙ get_or_default ws q 0 (get_or xs q 0) within
      | inr past ↦ get_or-append_right ws (drop (length ws) xs) (length ws) q 0 refl past
          ∙ get_or-drop (length ws) xs (q - length ws) 0
          ∙ ap (λ (i : ℕ). get_or xs i 0) (omega arith)
          ∙ sym (get_or_past ws q (get_or xs q 0) past)
    ])

-- what is held once other characters were put in the place of those that were lent
pub held-lent : (n : ℕ) (chars words ws : List ℕ) → n ≡ length chars
    → held (take n (ws ++ drop (length ws) chars)) words ≡ with_all_chars (held chars words) ws
unfolding with_all_chars
held-lent n chars words ws e =
    let lent : List ℕ = take n (ws ++ drop (length ws) chars) in
    let storage : Storage = held chars words in
    let size : length storage ≡ length chars = length_held chars words in
    let count : length lent ≡ length chars = sym (length_refill n chars ws e) ∙ e in
    let left : length (held lent words) ≡ length chars = length_held lent words ∙ count in
    let right : length (with_all_chars storage ws) ≡ length chars =
    length-map-range_with_len (lent_cell storage ws) 0 (length storage) ∙ size in
    ext_get_or blank (held lent words) (with_all_chars storage ws) (left ∙ sym right) (λ q lt.
    let in_core : q < length chars = omega (arith, left, lt) in
    let in_storage : q < length storage = omega (arith, size, in_core) in
    let old : cell_at storage q ≡ held_cell chars words q = cell_at-held chars words q in_core in
    cell_at-held lent words q (omega (arith, count, in_core))
    ∙ same_cell (held_cell lent words q) (lent_cell storage ws q)
    (get_or-refill n chars ws q e (omega (arith, e, in_core))
    ∙ ap (λ (cell : Cell). slice_index_or ws q cell.char) (sym old))
    (ap (λ (cell : Cell). cell.mark) (sym old))
    ∙ sym (get_or-map-range_with_len (lent_cell storage ws) 0 (length storage) q q blank in_storage (omega arith)))
