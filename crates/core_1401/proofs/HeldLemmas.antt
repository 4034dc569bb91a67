-- Core storage by its characters and its words of marks.
use Rattle.std.proofs.Common.{◌≡◌, ◌≢◌, ℕ, ◌+◌, ◌/◌, ◌%◌, ◌<◌, ◌≤◌, ◌==◌, Bool, true, List, length, set, replicate}
use Rattle.std.proofs.Common.{slice_index_or, take, drop, add_comm, inl, inr, refl, ap, sym, ◌∙◌, arith}
use Rattle.std.specs.Int.{bit_at}
use Rattle.std.proofs.lemmas.Bool.{cases_eq, cases_lt}
use Rattle.std.proofs.lemmas.Bool.Decides.{nat_tests}
use Rattle.std.proofs.lemmas.Grind.{get_or-set_at}
use Rattle.std.proofs.lemmas.List.{ext_get_or, get_or-set_other, length-set, length-replicate, get_or-replicate}
use Rattle.std.proofs.lemmas.List.{get_or_past, get_or-take, get_or-drop, length-take, length-drop}
use Rattle.std.proofs.lemmas.List.FromFn.{get_or-map-range_with_len, length-map-range_with_len}
use Rattle.std.proofs.lemmas.Nat.Bits.{bit_at-zero}
use Rattle.bcd_1401.specs.declared.cell.Cell.{Cell}
use Rattle.core_1401.specs.Address.{addresses}
use Rattle.core_1401.specs.Storage.{Storage, blank, blanks, cell_at, with_char, with_mark, is_core_size}
use Rattle.core_1401.specs.MarkWords.{mark_bit, held_cell, held, IsWithBit, IsWhole, AreMarkWords, bit_for}

-- there are as many cells as characters
pub length_held : (chars words : List ℕ) → length (held chars words) ≡ length chars
unfolding held
length_held chars words = length-map-range_with_len (held_cell chars words) 0 (length chars)

-- what is at a place
pub cell_at-held : (chars words : List ℕ) (at : ℕ) → at < length chars
    → cell_at (held chars words) at ≡ held_cell chars words at
unfolding held
cell_at-held chars words at in_core = get_or-map-range_with_len (held_cell chars words) 0
    (length chars) at at blank in_core (omega arith)

-- a cell by its parts
abbrev pub cell_of : ℕ → Bool → Cell
cell_of char mark = record { char = char; mark = mark }

pub same_cell : (a b : Cell) → a.char ≡ b.char → a.mark ≡ b.mark → a ≡ b
same_cell a b chars marks =
    ap (λ (c : ℕ). let made : Cell = record { char = c; mark = a.mark } in made) chars
    ∙ ap (λ (m : Bool). let made : Cell = record { char = b.char; mark = m } in made) marks

-- another character at a place
pub held-char : (chars words : List ℕ) (at char : ℕ) → at < length chars
    → held (set chars at char) words ≡ with_char (held chars words) at char
held-char chars words at char in_core =
    let before : Storage = held chars words in
    let cell : Cell = record (cell_at before at) { char = char } in
    let len : length (held (set chars at char) words) ≡ length chars = length_held (set chars at char) words
    ∙ length-set chars at char in
    let same : length (set before at cell) ≡ length chars = length-set before at cell ∙ length_held chars words in
    ext_get_or blank (held (set chars at char) words) (set before at cell) (len ∙ sym same)
    (λ q lt.
    let in_before : q < length chars = omega (arith, len, lt) in
    let in_after : q < length (set chars at char) = omega (arith, length-set chars at char, in_before) in
    let in_cells : at < length before = omega (arith, length_held chars words, in_core) in
    cell_at-held (set chars at char) words q in_after
    ∙ (elim (cases_eq q at) [
      | inl here ↦ same_cell (held_cell (set chars at char) words q) cell (get_or-set_at chars at q char 0 here in_core)
          (ap (λ (p : ℕ). mark_bit words p == 1) here ∙ ap (λ (c : Cell). c.mark)
          (sym (cell_at-held chars words at in_core)))
          ∙ sym (get_or-set_at before at q cell blank here in_cells)
      | inr other ↦ same_cell (held_cell (set chars at char) words q) (held_cell chars words q)
          (get_or-set_other chars at q char 0 other) refl
          ∙ sym (cell_at-held chars words q in_before) ∙ sym (get_or-set_other before at q cell blank other)
    ]))

-- the other marks stay
pub other_bit : (words : List ℕ) (at q word : ℕ) (mark : Bool) → at / 64 + 1 < length words
    → IsWithBit (slice_index_or words (at / 64 + 1) 0) (at % 64) mark word
    → q ≢ at → mark_bit (set words (at / 64 + 1) word) q ≡ mark_bit words q
other_bit words at q word mark in_words bit other =
    elim (cases_eq (q / 64 + 1) (at / 64 + 1)) [
      | inl same ↦ ap (λ (w : ℕ). bit_at w (q % 64)) (get_or-set_at words (at / 64 + 1)
          (q / 64 + 1) word 0 same in_words)
          ∙ bit.others (q % 64) (omega arith) (λ e. other (omega (arith, e, same)))
          ∙ ap (λ (p : ℕ). bit_at (slice_index_or words p 0) (q % 64)) (sym same)
      | inr apart ↦ ap (λ (w : ℕ). bit_at w (q % 64)) (get_or-set_other words (at / 64 + 1) (q / 64 + 1) word 0 apart)
    ]

-- the mark that is put
pub bit_there : (words : List ℕ) (at q word : ℕ) (mark : Bool) → q ≡ at → at / 64 + 1 < length words
    → IsWithBit (slice_index_or words (at / 64 + 1) 0) (at % 64) mark word
    → (mark_bit (set words (at / 64 + 1) word) q == 1) ≡ mark
bit_there words at q word mark here in_words bit =
    ap (λ (p : ℕ). mark_bit (set words (at / 64 + 1) word) p == 1) here
    ∙ ap (λ (w : ℕ). bit_at w (at % 64) == 1) (get_or-set_at words (at / 64 + 1) (at / 64 + 1) word 0 refl in_words)
    ∙ bit.there

-- a word past the last counts as empty too
all_zero : (size q : ℕ) → let none : ℕ = 0 in slice_index_or (replicate size none) q none ≡ none
all_zero size q =
    elim (cases_lt q size) [
      | inl within ↦ get_or-replicate size q 0 0 within
      | inr past ↦ get_or_past (replicate size 0) q 0 (omega (arith, length-replicate {A = ℕ} size 0, past))
    ]

-- another word mark at a place
pub held-mark : (chars words : List ℕ) (at word : ℕ) (mark : Bool) → at < length chars → at / 64 + 1 < length words
    → IsWithBit (slice_index_or words (at / 64 + 1) 0) (at % 64) mark word
    → held chars (set words (at / 64 + 1) word) ≡ with_mark (held chars words) at mark
held-mark chars words at word mark in_core in_words bit =
    let before : Storage = held chars words in
    let after : List ℕ = set words (at / 64 + 1) word in
    let cell : Cell = record (cell_at before at) { mark = mark } in
    let len : length (held chars after) ≡ length chars = length_held chars after in
    let same : length (set before at cell) ≡ length chars = length-set before at cell ∙ length_held chars words in
    ext_get_or blank (held chars after) (set before at cell) (len ∙ sym same)
    (λ q lt.
    let in_before : q < length chars = omega (arith, len, lt) in
    let in_cells : at < length before = omega (arith, length_held chars words, in_core) in
    cell_at-held chars after q in_before
    ∙ (elim (cases_eq q at) [
      | inl here ↦ same_cell (held_cell chars after q) cell
          (ap (λ (p : ℕ). slice_index_or chars p 0) here ∙ ap (λ (c : Cell). c.char)
          (sym (cell_at-held chars words at in_core)))
          (bit_there words at q word mark here in_words bit)
          ∙ sym (get_or-set_at before at q cell blank here in_cells)
      | inr other ↦ same_cell (held_cell chars after q) (held_cell chars words q) refl
          (ap (λ (b : ℕ). b == 1) (other_bit words at q word mark in_words bit other))
          ∙ sym (cell_at-held chars words q in_before) ∙ sym (get_or-set_other before at q cell blank other)
    ]))

-- at power-on there is no mark and every character is a blank
pub held-blank : (size count : ℕ) → held (replicate size 0) (replicate count 0) ≡ blanks size
held-blank size count =
    let len : length (held (replicate size 0) (replicate count 0)) ≡ size =
    length_held (replicate size 0) (replicate count 0) ∙ length-replicate {A = ℕ} size 0 in
    ext_get_or blank (held (replicate size 0) (replicate count 0)) (blanks size)
    (len ∙ sym (length-replicate size blank))
    (λ q lt.
    let in_core : q < length (replicate size 0) = omega (arith, len, lt, length-replicate {A = ℕ} size 0) in
    cell_at-held (replicate size 0) (replicate count 0) q in_core
    ∙ same_cell (held_cell (replicate size 0) (replicate count 0) q) blank (all_zero size q)
    (ap (λ (w : ℕ). bit_at w (q % 64) == 1) (all_zero count (q / 64 + 1))
    ∙ ap (λ (b : ℕ). b == 1) (bit_at-zero (q % 64)))
    ∙ sym (get_or-replicate size q blank blank (omega (arith, len, lt))))

-- the same under other names
pub held_blank : (chars words : List ℕ) (size count : ℕ) → chars ≡ replicate size 0 → words ≡ replicate count 0
    → held chars words ≡ blanks size
held_blank chars words size count e f = ap (λ (l : List ℕ). held l words) e
    ∙ ap (λ (l : List ℕ). held (replicate size 0) l) f ∙ held-blank size count

-- a cell by what its parts are held as
pub got : (chars words : List ℕ) (storage : Storage) (at place char : ℕ) (mark : Bool) → storage ≡ held chars words
    → place ≡ at → at < length chars
    → char ≡ slice_index_or chars place 0 → mark ≡ (bit_at (slice_index_or words (place / 64 + 1) 0) (place % 64) == 1)
    → cell_of char mark ≡ cell_at storage at
got chars words storage at place char mark view e in_core chars_is mark_is =
    same_cell (cell_of char mark) (held_cell chars words at) (chars_is ∙ ap (λ (p : ℕ). slice_index_or chars p 0) e)
    (mark_is ∙ ap (λ (p : ℕ). mark_bit words p == 1) e)
    ∙ sym (cell_at-held chars words at in_core) ∙ ap (λ (s : Storage). cell_at s at) (sym view)

-- no core storage is larger
pub most_places : (size : ℕ) → is_core_size size ≡ true → size ≤ addresses
most_places size e = grind (arith, nat_tests)

-- if no word has a bit there is no mark
pub none_marked : (words : List ℕ) (count at : ℕ) → words ≡ replicate count 0 → mark_bit words at ≡ 0
none_marked words count at e =
    ap (λ (l : List ℕ). mark_bit l at) e ∙ ap (λ (w : ℕ). bit_at w (at % 64)) (all_zero count (at / 64 + 1))
    ∙ bit_at-zero (at % 64)

-- a mark in core leaves the bits beyond it
pub whole-mark : (chars words : List ℕ) (at word : ℕ) (mark : Bool) → at < length chars → at / 64 + 1 < length words
    → IsWithBit (slice_index_or words (at / 64 + 1) 0) (at % 64) mark word → IsWhole chars words
    → IsWhole chars (set words (at / 64 + 1) word)
whole-mark chars words at word mark in_core in_words bit whole = record {
  size = whole.size;
  none_beyond = λ q beyond. other_bit words at q word mark in_words bit
      (λ e. absurd (omega (arith, e, beyond, in_core))) ∙ whole.none_beyond q beyond;
}

-- the words after the first are the word marks
pub are_mark_words : (chars words : List ℕ) (count : ℕ) → IsWhole chars words → count < length words
    → count ≡ (length chars + 63) / 64
    → AreMarkWords (held chars words) (take count (drop 1 words))
are_mark_words chars words count whole in_words e =
    let lent : List ℕ = take count (drop 1 words) in
    let size : length (held chars words) ≡ length chars = length_held chars words in
    let small : length chars ≤ addresses = most_places (length chars) whole.size in
    let same_bit : (at : ℕ) → at / 64 < count → bit_for lent at ≡ mark_bit words at =
    λ at within.
    ap (λ (w : ℕ). bit_at w (at % 64)) (get_or-take count (drop 1 words) (at / 64) 0 within
    ∙ get_or-drop 1 words (at / 64) 0
    ∙ ap (λ (i : ℕ). slice_index_or words i 0) (add_comm 1 (at / 64))) in
    record {
      count = length-take count (drop 1 words) ∙ omega (arith, length-drop 1 words, in_words, small, e, size);
      marks = λ at in_core.
          let held_in : at < length chars = omega (arith, size, in_core) in
          ap (λ (b : ℕ). b == 1) (same_bit at (omega (arith, e, held_in)))
          ∙ ap (λ (c : Cell). c.mark) (sym (cell_at-held chars words at held_in));
      none_beyond = λ at beyond. elim (cases_lt (at / 64) count) [
        | inl within ↦ same_bit at within ∙ whole.none_beyond at (omega (arith, size, beyond))
        | inr past ↦ ap (λ (w : ℕ). bit_at w (at % 64)) (get_or_past lent (at / 64) 0
            (omega (arith, length-take count (drop 1 words), past))) ∙ bit_at-zero (at % 64)
      ];
    }
