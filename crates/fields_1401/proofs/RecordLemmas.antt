-- What a record's move has moved so far, one character on; and where a record ends.
use Rattle.std.proofs.Common.{◌≡◌, ℕ, ◌+◌, ◌-◌, ◌%◌, ◌<◌, ◌≤◌, ◌==◌, ◌||◌, ◌&&◌, Bool, true, false, List, length, set}
use Rattle.std.proofs.Common.{get_or, slice_index_or, Some, None, nat_lt, inl, inr, ap, refl, sym, ◌∙◌, arith, if◌then◌else◌}
use Rattle.std.proofs.Math.ListN.{get_or-map}
use Rattle.std.proofs.Math.Nat.{mod-eq_of_lt, mod-lt}
use Rattle.std.proofs.lemmas.Bool.{cases_eq, cases_lt, false≢true, lt-ltb, le-ltb}
use Rattle.std.proofs.lemmas.Bool.Decides.{nat_tests}
use Rattle.std.proofs.lemmas.Grind.{get_or-set_at}
use Rattle.std.proofs.lemmas.List.{ext_get_or, get_or-set_other, length-set}
use Rattle.std.proofs.lemmas.List.FromFn.{get_or-map-range_with_len, length-map-range_with_len, get_or-range_with_len}
use Rattle.std.proofs.lemmas.List.FromFn.{length-range_with_len}
use Rattle.std.proofs.lemmas.List.Sums.{position_or_len_is}
use Rattle.std.specs.List.{position_or_len, range_with_len}
use Rattle.std.specs.Option.{option_map}
use Rattle.bcd_1401.specs.declared.cell.Cell.{Cell}
use Rattle.core_1401.specs.Storage.{Storage, blank, cell_at, with_char}
use Rattle.fields_1401.proofs.PlacesLemmas.{in_or_out, cell_at-with_chars, cell_at-beside_chars, length-with_chars}
use Rattle.fields_1401.specs.Places.{chars_of, is_within, with_chars}
use Rattle.fields_1401.specs.Records.{record_source, record_char, is_record_end, places_above, record_len_of}
use Rattle.fields_1401.specs.Records.{is_within_up, cell_up, with_chars_up, record_moved, ends_record, is_mark}
use Rattle.fields_1401.specs.Records.{AreNoMarks, NoneEnds}

-- the source of a character is no place above it
pub source_range : (a b i : ℕ) → record_source a b i ≤ a + i
source_range a b i = elim (cases_lt a b) [
  | inl lt ↦ let small = mod-lt i {m = b - a} (omega arith) in grind (arith, nat_tests)
  | inr le ↦ grind (arith, nat_tests)
]

-- nor is it one of those that were written before it
source_beside : (a b i : ℕ) → is_within_up b i (record_source a b i) ≡ false
source_beside a b i = elim (cases_lt a b) [
  | inl lt ↦ let small = mod-lt i {m = b - a} (omega arith) in grind (arith, nat_tests)
  | inr le ↦ grind (arith, nat_tests)
]

-- the core is as large as before
length-up : (storage : Storage) (at n : ℕ) (char_of : ℕ → ℕ)
    → length (with_chars_up storage at n char_of) ≡ length storage
unfolding with_chars_up
length-up storage at n char_of = length-map-range_with_len (cell_up storage at n char_of) 0 (length storage)

-- what is at a place
cell_at-up : (storage : Storage) (at n : ℕ) (char_of : ℕ → ℕ) (q : ℕ) → q < length storage
    → cell_at (with_chars_up storage at n char_of) q ≡ cell_up storage at n char_of q
unfolding with_chars_up
cell_at-up storage at n char_of q in_core =
    get_or-map-range_with_len (cell_up storage at n char_of) 0 (length storage) q q blank in_core (omega arith)

-- a place outside those that were written
cell_at-beside_up : (storage : Storage) (at n : ℕ) (char_of : ℕ → ℕ) (q : ℕ) → q < length storage
    → is_within_up at n q ≡ false
    → cell_at (with_chars_up storage at n char_of) q ≡ cell_at storage q
cell_at-beside_up storage at n char_of q in_core beside =
    cell_at-up storage at n char_of q in_core
    ∙ ap (λ (b : Bool). if b then record (cell_at storage q) { char = char_of (q - at) } else cell_at storage q) beside

-- nothing is written yet
none_up : (at q : ℕ) → is_within_up at 0 q ≡ false
none_up at q = grind (arith, nat_tests)

up_none : (storage : Storage) (at : ℕ) (char_of : ℕ → ℕ) → storage ≡ with_chars_up storage at 0 char_of
up_none storage at char_of =
    ext_get_or blank storage (with_chars_up storage at 0 char_of) (sym (length-up storage at 0 char_of))
    (λ q in_core. sym (cell_at-beside_up storage at 0 char_of q in_core (none_up at q)))

-- the next place is within, and no other that wasn't
next_up : (at i q : ℕ) → q ≡ at + i → is_within_up at (i + 1) q ≡ true
next_up at i q here = grind (arith, nat_tests)

next_beside : (at i : ℕ) → is_within_up at i (at + i) ≡ false
next_beside at i = grind (arith, nat_tests)

other_up : (at i q : ℕ) → (q ≡ at + i → ⊥) → is_within_up at (i + 1) q ≡ is_within_up at i q
other_up at i q other = grind (arith, nat_tests)

-- one character more is written
up_more : (storage : Storage) (at i : ℕ) (char_of : ℕ → ℕ) → at + i < length storage
    → with_char (with_chars_up storage at i char_of) (at + i) (char_of i) ≡ with_chars_up storage at (i + 1) char_of
up_more storage at i char_of in_core =
    let before : Storage = with_chars_up storage at i char_of in
    let after : Storage = with_chars_up storage at (i + 1) char_of in
    let cell : Cell = record (cell_at before (at + i)) { char = char_of i } in
    let size : length before ≡ length storage = length-up storage at i char_of in
    let set_size : length (set before (at + i) cell) ≡ length before = length-set before (at + i) cell in
    let there : cell_at before (at + i) ≡ cell_at storage (at + i) =
    cell_at-beside_up storage at i char_of (at + i) in_core (next_beside at i) in
    let choose : ℕ → Bool → Cell = λ q b.
    if b then record (cell_at storage q) { char = char_of (q - at) } else cell_at storage q in
    ext_get_or blank (set before (at + i) cell) after (set_size ∙ size ∙ sym (length-up storage at (i + 1) char_of))
    (λ q lt.
    let inside : q < length storage = omega (arith, set_size, size, lt) in
    elim (cases_eq q (at + i)) [
      | inl here ↦ get_or-set_at before (at + i) q cell blank here (omega (arith, size, in_core))
          ∙ ap (λ (found : Cell). let made : Cell = record found { char = char_of i } in made) there
          ∙ ap (λ (p : ℕ). let made : Cell = record (cell_at storage p) { char = char_of i } in made) (sym here)
          ∙ ap (λ (k : ℕ). let made : Cell = record (cell_at storage q) { char = char_of k } in made) (omega (arith, here))
          ∙ sym (cell_at-up storage at (i + 1) char_of q inside ∙ ap (choose q) (next_up at i q here))
      | inr other ↦ get_or-set_other before (at + i) q cell blank other
          ∙ cell_at-up storage at i char_of q inside
          ∙ sym (cell_at-up storage at (i + 1) char_of q inside ∙ ap (choose q) (other_up at i q other))
    ])

-- before a record is moved
pub record_none : (storage : Storage) (a b : ℕ) → storage ≡ record_moved storage a b 0
unfolding record_moved
record_none storage a b = up_none storage b (record_char storage a b)

-- the core is as large as before
pub length-record_moved : (storage : Storage) (a b n : ℕ) → length (record_moved storage a b n) ≡ length storage
unfolding record_moved
length-record_moved storage a b n = length-up storage b n (record_char storage a b)

-- one character more is moved
pub record_more : (storage : Storage) (a b i : ℕ) → a + i < length storage → b + i < length storage
    → with_char (record_moved storage a b i) (b + i) (record_char (record_moved storage a b i) a b i)
    ≡ record_moved storage a b (i + 1)
unfolding record_moved
record_more storage a b i a_in b_in =
    let same : record_char (record_moved storage a b i) a b i ≡ record_char storage a b i =
    ap (λ (cell : Cell). cell.char)
    (cell_at-beside_up storage b i (record_char storage a b) (record_source a b i)
    (omega (arith, source_range a b i, a_in)) (source_beside a b i)) in
    ap (with_char (record_moved storage a b i) (b + i)) same ∙ up_more storage b i (record_char storage a b) b_in

-- a character that comes from its own place
own_source : (a b i n : ℕ) → i < n → (a < b → n ≤ b - a) → record_source a b i ≡ a + i
own_source a b i n lt own = elim (cases_lt a b) [
  | inl less ↦ let small : i < b - a = omega (arith, lt, own less) in
      let same : i % (b - a) ≡ i = mod-eq_of_lt small in grind (arith, nat_tests)
  | inr le ↦ grind (arith, nat_tests)
]

-- a place is one of those that are written, counted from either end, or it is none of them
within_up : (b n q : ℕ) → b ≤ q → q < b + n → is_within_up b n q ≡ true
within_up b n q le lt = grind (arith, nat_tests)

outside_up : (b n q : ℕ) → 0 < n → is_within (b + n - 1) n q ≡ false → is_within_up b n q ≡ false
outside_up b n q some beside = grind (arith, nat_tests)

-- characters that all come from their own places are moved by a copy
pub moved_by_copy : (storage : Storage) (a b n : ℕ) → 0 < n → (a < b → n ≤ b - a) → b + n ≤ length storage
    → with_chars storage (b + n - 1) n (λ i. (cell_at storage (a + n - 1 - i)).char) ≡ record_moved storage a b n
unfolding record_moved
moved_by_copy storage a b n some own inside =
    let at : ℕ = b + n - 1 in
    let char_of : ℕ → ℕ = λ i. (cell_at storage (a + n - 1 - i)).char in
    let copied : Storage = with_chars storage at n char_of in
    let size : length copied ≡ length storage = length-with_chars storage at n char_of in
    let units : at < length storage = omega (arith, some, inside) in
    let moved : Storage = with_chars_up storage b n (record_char storage a b) in
    ext_get_or blank copied moved (size ∙ sym (length-up storage b n (record_char storage a b)))
    (λ q lt.
    let in_core : q < length storage = omega (arith, size, lt) in
    let choose : Bool → Cell = λ t.
    if t then record (cell_at storage q) { char = record_char storage a b (q - b) } else cell_at storage q in
    elim (in_or_out at n q) [
      | inl within ↦
          let i : ℕ = at - q in
          let below : i ≤ at = omega (arith, within.0) in
          let few : i < n = omega (arith, within.0, within.1, some) in
          let there : at - i ≡ q = omega (arith, within.0) in
          let from : record_source a b (q - b) ≡ a + n - 1 - i =
          own_source a b (q - b) n (omega (arith, within.0, within.1, some)) own
          ∙ omega (arith, within.0, within.1, some) in
          ap (λ (p : ℕ). cell_at copied p) (sym there)
          ∙ cell_at-with_chars storage at n char_of i units below few
          ∙ ap (λ (p : ℕ). let made : Cell = record (cell_at storage p) { char = char_of i } in made) there
          ∙ ap (λ (p : ℕ). let made : Cell = record (cell_at storage q) { char = (cell_at storage p).char } in made) (sym from)
          ∙ sym (cell_at-up storage b n (record_char storage a b) q in_core
          ∙ ap choose (within_up b n q (omega (arith, within.0, within.1, some)) (omega (arith, within.0, within.1, some))))
      | inr beside ↦
          cell_at-beside_chars storage at n char_of q in_core beside
          ∙ sym (cell_at-beside_up storage b n (record_char storage a b) q in_core (outside_up b n q some beside))
    ])

-- what is no mark ends nothing, whatever the word mark
weaker : (x y mark : Bool) → (x || y) ≡ false → (x || (y && mark)) ≡ false
weaker true y mark e = e
weaker false true mark e = absurd (false≢true (sym e))
weaker false false mark e = refl

-- so characters that are none end no record
pub none_ends : (storage : Storage) (chars : List ℕ) (at n : ℕ) → chars ≡ chars_of storage → AreNoMarks chars at n
    → NoneEnds storage at n
none_ends storage chars at n are none i lt =
    let cell : Cell = cell_at storage (at + i) in
    let char : slice_index_or chars (at + i) 0 ≡ cell.char =
    ap (λ (all : List ℕ). slice_index_or all (at + i) 0) are
    ∙ get_or-map (λ (c : Cell). c.char) storage (at + i) blank in
    weaker (cell.char == 26) (cell.char == 63) cell.mark (ap is_mark (sym char) ∙ none i lt)

-- and none of those from their own places ends the record that is moved
pub none_before : (storage : Storage) (a b n first : ℕ) → first ≤ n → (a < b → n ≤ b - a) → NoneEnds storage a first
    → (k : ℕ) → k < first → is_record_end storage a b k ≡ false
none_before storage a b n first within own none k lt =
    ap (λ (p : ℕ). ends_record storage (cell_at storage p).char (a + k)) (own_source a b k n (omega (arith, within, lt)) own)
    ∙ none k lt

-- sixteen characters more
pub more_no_marks : (chars : List ℕ) (at n more : ℕ) → AreNoMarks chars at n → AreNoMarks chars (at + n) more
    → AreNoMarks chars at (n + more)
more_no_marks chars at n more before after i lt =
    elim (cases_lt i n) [
      | inl less ↦ before i less
      | inr past ↦
          let place : at + n + (i - n) ≡ at + i = omega (arith, past) in
          ap (λ (p : ℕ). is_mark (slice_index_or chars p 0)) (sym place) ∙ after (i - n) (omega (arith, past, lt))
    ]

-- the i-th place is looked at as the i-th of those above
looked_at : (storage : Storage) (a b k : ℕ) → k < places_above storage a b
    → is_record_end storage a b (get_or (range_with_len 0 (places_above storage a b)) k 0) ≡ is_record_end storage a b k
looked_at storage a b k lt =
    ap (is_record_end storage a b) (get_or-range_with_len 0 (places_above storage a b) k 0 lt ∙ omega arith)

-- where the first character is that ends it
first_end : (storage : Storage) (a b i : ℕ) → i ≤ places_above storage a b
    → ((k : ℕ) → k < i → is_record_end storage a b k ≡ false)
    → (i < places_above storage a b → is_record_end storage a b i ≡ true)
    → position_or_len (is_record_end storage a b) (range_with_len 0 (places_above storage a b)) ≡ i
first_end storage a b i within before there =
    let n : ℕ = places_above storage a b in
    let len : length (range_with_len 0 n) ≡ n = length-range_with_len 0 n in
    position_or_len_is (is_record_end storage a b) (range_with_len 0 n) i 0 (omega (arith, len, within))
    (λ k lt. looked_at storage a b k (omega (arith, lt, within)) ∙ before k lt)
    (λ lt. let inside : i < n = omega (arith, len, lt) in looked_at storage a b i inside ∙ there inside)

-- a record's length is known at its first character that ends it
pub record_ends : (storage : Storage) (a b i : ℕ) → i < places_above storage a b
    → ((k : ℕ) → k < i → is_record_end storage a b k ≡ false) → is_record_end storage a b i ≡ true
    → Some (i + 1) ≡ record_len_of storage a b
unfolding record_len_of
record_ends storage a b i inside before there =
    let n : ℕ = places_above storage a b in
    let len : length (range_with_len 0 n) ≡ n = length-range_with_len 0 n in
    let first = first_end storage a b i (omega (arith, inside)) before (λ _. there) in
    sym (ap (option_map (λ (k : ℕ). k + 1))
    (ap (λ (k : ℕ). if nat_lt k (length (range_with_len 0 n)) then Some k else None) first
    ∙ ap (λ (t : Bool). if t then Some i else None) (lt-ltb i (length (range_with_len 0 n))
    (omega (arith, len, inside)))))

-- without one there is no length
pub record_goes_on : (storage : Storage) (a b i : ℕ) → i ≡ places_above storage a b
    → ((k : ℕ) → k < i → is_record_end storage a b k ≡ false) → None ≡ record_len_of storage a b
unfolding record_len_of
record_goes_on storage a b i end before =
    let n : ℕ = places_above storage a b in
    let len : length (range_with_len 0 n) ≡ n = length-range_with_len 0 n in
    let first = first_end storage a b i (omega (arith, end)) before (λ lt. absurd (omega (arith, end, lt))) in
    let all : position_or_len (is_record_end storage a b) (range_with_len 0 n) ≡ length (range_with_len 0 n) =
    first ∙ end ∙ sym len in
    sym (ap (option_map (λ (k : ℕ). k + 1))
    (ap (λ (k : ℕ). if nat_lt k (length (range_with_len 0 n)) then Some k else None) all
    ∙ ap (λ (t : Bool). if t then Some (length (range_with_len 0 n)) else None)
    (le-ltb (length (range_with_len 0 n)) (length (range_with_len 0 n)) (omega arith))))
