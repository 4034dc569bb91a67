-- Cells in storage whose first places are known.
use Rattle.std.proofs.Common.{◌≡◌, ℕ, zero, suc, ◌+◌, ◌-◌, ◌<◌, ◌≤◌, ◌⊎◌, Bool, true, false, List, [], ◌∷◌, ◌++◌}
use Rattle.std.proofs.Common.{length, set}
use Rattle.std.proofs.Common.{get_or, inl, inr, refl, ap, sym, ◌∙◌, arith, if◌then◌else◌, ◌==◌, ◌||◌}
use Rattle.std.proofs.Common.{Some, None, nat_lt, position, min}
use Rattle.std.proofs.lemmas.Bool.{cases_lt}
use Rattle.std.proofs.lemmas.Bool.Decides.{nat_tests}
use Rattle.std.proofs.lemmas.List.{append_assoc, ext_get_or, get_or_append_left, get_or-append_right, length-append}
use Rattle.std.proofs.lemmas.List.Sums.{position_or_len_is}
use Rattle.std.proofs.lemmas.Slice.Zip.{get_or-zip, length-zip}
use Rattle.std.proofs.lemmas.List.FromFn.{get_or-map-range_with_len, length-map-range_with_len}
use Rattle.std.specs.List.{list_any, position_or_len, zip}
use Rattle.std.specs.Option.{option_map}
use Rattle.bcd_1401.specs.declared.cell.Cell.{Cell}
use Rattle.core_1401.specs.Field.{cells_down, field_len_of, pair_len_of}
use Rattle.core_1401.specs.Places.{is_within, with_cells, written_cell}
use Rattle.core_1401.specs.Storage.{Storage, blank, cell_at, with_char}
use Rattle.core_1401.proofs.FieldLemmas.{get_down, length-down}
use Rattle.cpu_1401.specs.CardsAndPrinter.{with_chars_from}

-- characters from a place on, with word marks at these places
abbrev pub with_marks : List ℕ → ℕ → List ℕ → Storage
with_marks marks at [] = []
with_marks marks at (char ∷ chars) =
    record { char = char; mark = list_any (λ place. place == at) marks } ∷ with_marks marks (at + 1) chars

-- what is at a place after cells were written
pub length_written : (storage : Storage) (at n : ℕ) (f : ℕ → Cell) → length (with_cells storage at n f) ≡ length storage
unfolding with_cells
length_written storage at n f = length-map-range_with_len (written_cell storage at n f) 0 (length storage)

at_written : (storage : Storage) (at n : ℕ) (f : ℕ → Cell) (q : ℕ) (is : Bool) → q < length storage
    → is_within at n q ≡ is → cell_at (with_cells storage at n f) q ≡ (if is then f (at - q) else cell_at storage q)
unfolding with_cells
at_written storage at n f q is lt e =
    get_or-map-range_with_len (written_cell storage at n f) 0 (length storage) q q blank lt (omega arith)
    ∙ ap (λ (b : Bool). if b then f (at - q) else cell_at storage q) e

is_inside : (at n q : ℕ) → q ≤ at → at < q + n → is_within at n q ≡ true
is_inside at n q le lt = grind (arith, nat_tests)

is_above : (at n q : ℕ) → at < q → is_within at n q ≡ false
is_above at n q lt = grind (arith, nat_tests)

is_below : (at n q : ℕ) → q + n ≤ at → is_within at n q ≡ false
is_below at n q le = grind (arith, nat_tests)

written_inside : (storage : Storage) (at n : ℕ) (f : ℕ → Cell) (q : ℕ) → q < length storage → q ≤ at → at < q + n
    → cell_at (with_cells storage at n f) q ≡ f (at - q)
written_inside storage at n f q lt le near = at_written storage at n f q true lt (is_inside at n q le near)

written_above : (storage : Storage) (at n : ℕ) (f : ℕ → Cell) (q : ℕ) → q < length storage → at < q
    → cell_at (with_cells storage at n f) q ≡ cell_at storage q
written_above storage at n f q lt over = at_written storage at n f q false lt (is_above at n q over)

written_below : (storage : Storage) (at n : ℕ) (f : ℕ → Cell) (q : ℕ) → q < length storage → q + n ≤ at
    → cell_at (with_cells storage at n f) q ≡ cell_at storage q
written_below storage at n f q lt under = at_written storage at n f q false lt (is_below at n q under)

-- a place is above the field, in it or below it
data IsBeside (at n q : ℕ) : Type 0 where
  above : at < q → IsBeside at n q
  inside : q ≤ at → at < q + n → IsBeside at n q
  below : q + n ≤ at → IsBeside at n q

where_is : (at n q : ℕ) → IsBeside at n q
where_is at n q =
    elim (cases_lt at q) [
      | inl over ↦ above over
      | inr le ↦ elim (cases_lt at (q + n)) [ inl lt ↦ inside le lt | inr under ↦ below under ]
    ]

-- blanks that are cleared
same_place : (storage : Storage) (at n q : ℕ) → ((k : ℕ) → k ≤ at → at < k + n → cell_at storage k ≡ blank)
    → q < length storage → IsBeside at n q → cell_at (with_cells storage at n (λ i. blank)) q ≡ cell_at storage q
same_place storage at n q are lt (above over) =
    written_above storage at n (λ i. blank) q lt over
same_place storage at n q are lt (inside le near) =
    written_inside storage at n (λ i. blank) q lt le near ∙ sym (are q le near)
same_place storage at n q are lt (below under) =
    written_below storage at n (λ i. blank) q lt under

pub blanks_cleared : (storage : Storage) (at n : ℕ) → ((k : ℕ) → k ≤ at → at < k + n → cell_at storage k ≡ blank)
    → with_cells storage at n (λ i. blank) ≡ storage
blanks_cleared storage at n are =
    ext_get_or blank (with_cells storage at n (λ i. blank)) storage (length_written storage at n (λ i. blank))
    (λ q lt. same_place storage at n q are (omega (arith, length_written storage at n (λ i. blank))) (where_is at n q))

-- cells written in front of others
front_place : (low rest : Storage) (at n : ℕ) (f : ℕ → Cell) (q : ℕ) → at < length low → q < length low + length rest
    → (q < length low) ⊎ (length low ≤ q) → IsBeside at n q
    → cell_at (with_cells (low ++ rest) at n f) q ≡ cell_at (with_cells low at n f ++ rest) q
front_place low rest at n f q at_in lt (inl near) (above over) =
    let all : q < length (low ++ rest) = omega (arith, length-append low rest) in
    written_above (low ++ rest) at n f q all over
    ∙ get_or_append_left low rest blank q near ∙ sym (written_above low at n f q near over)
    ∙ sym (get_or_append_left (with_cells low at n f) rest blank q (omega (arith, length_written low at n f)))
front_place low rest at n f q at_in lt (inl near) (inside le in_it) =
    let all : q < length (low ++ rest) = omega (arith, length-append low rest) in
    written_inside (low ++ rest) at n f q all le in_it
    ∙ sym (written_inside low at n f q near le in_it)
    ∙ sym (get_or_append_left (with_cells low at n f) rest blank q (omega (arith, length_written low at n f)))
front_place low rest at n f q at_in lt (inl near) (below under) =
    let all : q < length (low ++ rest) = omega (arith, length-append low rest) in
    written_below (low ++ rest) at n f q all under
    ∙ get_or_append_left low rest blank q near ∙ sym (written_below low at n f q near under)
    ∙ sym (get_or_append_left (with_cells low at n f) rest blank q (omega (arith, length_written low at n f)))
front_place low rest at n f q at_in lt (inr far) place =
    let all : q < length (low ++ rest) = omega (arith, length-append low rest) in
    written_above (low ++ rest) at n f q all (omega arith)
    ∙ get_or-append_right low rest (length low) q blank refl far
    ∙ sym (get_or-append_right (with_cells low at n f) rest (length low) q blank (length_written low at n f) far)

pub cells_in_front : (low rest : Storage) (at n : ℕ) (f : ℕ → Cell) → at < length low
    → with_cells (low ++ rest) at n f ≡ with_cells low at n f ++ rest
cells_in_front low rest at n f at_in =
    let size : length (with_cells (low ++ rest) at n f) ≡ length low + length rest =
    length_written (low ++ rest) at n f ∙ length-append low rest in
    let same : length (with_cells low at n f ++ rest) ≡ length low + length rest =
    length-append (with_cells low at n f) rest ∙ ap (λ k. k + length rest) (length_written low at n f) in
    ext_get_or blank (with_cells (low ++ rest) at n f) (with_cells low at n f ++ rest) (size ∙ sym same)
    (λ q lt. front_place low rest at n f q at_in (omega (arith, size)) (cases_lt q (length low)) (where_is at n q))

-- a cell after others
pub set_beyond : (low rest : Storage) (at : ℕ) (cell : Cell)
    → set (low ++ rest) (length low + at) cell ≡ low ++ set rest at cell
set_beyond [] rest at cell =
    let place : 0 + at ≡ at = omega arith in ap (λ (k : ℕ). set rest k cell) place
set_beyond (first ∷ low) rest at cell =
    let place : suc (length low) + at ≡ suc (length low + at) = omega arith in
    ap (λ (k : ℕ). set (first ∷ (low ++ rest)) k cell) place
    ∙ ap (λ (more : Storage). first ∷ more) (set_beyond low rest at cell)

left : (m n : ℕ) → m + n - m ≡ n
left m n = omega arith

pub cell_beyond : (low rest : Storage) (at : ℕ) → cell_at (low ++ rest) (length low + at) ≡ cell_at rest at
cell_beyond low rest at =
    get_or-append_right low rest (length low) (length low + at) blank refl (omega arith) ∙ ap (cell_at rest) (left (length low) at)

-- the characters of a card over those that stood there
with_first : (low : Storage) (cell : Cell) (rest : Storage) (at char : ℕ) → length low ≡ at
    → with_char (low ++ cell ∷ rest) at char ≡ low ++ record cell { char = char } ∷ rest
with_first low cell rest at char h =
    let place : at ≡ length low + 0 = omega (arith, h) in
    ap (λ (k : ℕ). with_char (low ++ cell ∷ rest) k char) place
    ∙ ap (λ (old : Cell). set (low ++ cell ∷ rest) (length low + 0) (record old { char = char }))
    (cell_beyond low (cell ∷ rest) 0)
    ∙ set_beyond low (cell ∷ rest) 0 (record cell { char = char })

pub chars_over : (marks : List ℕ) (low rest : Storage) (at : ℕ) (old new : List ℕ) → length low ≡ at
    → length old ≡ length new
    → with_chars_from (low ++ (with_marks marks at old ++ rest)) at new ≡ low ++ (with_marks marks at new ++ rest)
chars_over marks low rest at [] [] h same = refl
chars_over marks low rest at [] (new ∷ news) h same = absurd (omega (arith, same))
chars_over marks low rest at (old ∷ olds) [] h same = absurd (omega (arith, same))
chars_over marks low rest at (old ∷ olds) (new ∷ news) h same =
    let cell : ℕ → Cell = λ (char : ℕ). record { char = char; mark = list_any (λ place. place == at) marks } in
    ap (λ (s : Storage). with_chars_from s (at + 1) news)
    (with_first low (cell old) (with_marks marks (at + 1) olds ++ rest) at new h
    ∙ sym (append_assoc low (cell new ∷ []) (with_marks marks (at + 1) olds ++ rest)))
    ∙ chars_over marks (low ++ cell new ∷ []) rest (at + 1) olds news
    (omega (arith, length-append low (cell new ∷ []))) (omega (arith, same))
    ∙ append_assoc low (cell new ∷ []) (with_marks marks (at + 1) news ++ rest)

-- lengths of fields
position_is : {X : Type 0} (p : X → Bool) → (xs : List X) (n : ℕ) → n < length xs → position_or_len p xs ≡ n
    → position p xs ≡ Some n
position_is p xs n lt e =
    let inside : nat_lt n (length xs) ≡ true = grind (arith, nat_tests) in
    ap (λ (i : ℕ). if nat_lt i (length xs) then Some i else None) e
    ∙ ap (λ (b : Bool). if b then Some n else None) inside

pub field_len_is : (storage : Storage) (at n : ℕ) → at < length storage → n ≤ at
    → ((i : ℕ) → i < n → (cell_at storage (at - i)).mark ≡ false) → (cell_at storage (at - n)).mark ≡ true
    → field_len_of storage at ≡ Some (n + 1)
field_len_is storage at n lt le none there =
    let down : List Cell = cells_down storage at in
    let len : length down ≡ at + 1 = length-down storage at lt in
    let mark : Cell → Bool = λ (cell : Cell). cell.mark in
    ap (option_map (λ (i : ℕ). i + 1)) (position_is mark down n (omega (arith, len))
    (position_or_len_is mark down n blank (omega (arith, len))
    (λ k h. ap mark (get_down storage at k blank lt (omega arith)) ∙ none k h)
    (λ h. ap mark (get_down storage at n blank lt le) ∙ there)))

pub pair_len_is : (storage : Storage) (a b n : ℕ) → a < length storage → b < length storage → n ≤ a → n ≤ b
    → ((i : ℕ) → i < n → ((cell_at storage (a - i)).mark || (cell_at storage (b - i)).mark) ≡ false)
    → ((cell_at storage (a - n)).mark || (cell_at storage (b - n)).mark) ≡ true
    → pair_len_of storage a b ≡ Some (n + 1)
pair_len_is storage a b n a_in b_in le_a le_b none there =
    let from_a : List Cell = cells_down storage a in
    let from_b : List Cell = cells_down storage b in
    let len_a : length from_a ≡ a + 1 = length-down storage a a_in in
    let len_b : length from_b ≡ b + 1 = length-down storage b b_in in
    let mark : Cell × Cell → Bool = λ (pair : Cell × Cell). pair.0.mark || pair.1.mark in
    let len : length (zip from_a from_b) ≡ min (length from_a) (length from_b) = length-zip from_a from_b in
    let pair_at : (k : ℕ) → k ≤ a → k ≤ b → mark (get_or (zip from_a from_b) k (blank, blank))
    ≡ ((cell_at storage (a - k)).mark || (cell_at storage (b - k)).mark) =
    λ k in_a in_b. ap mark (get_or-zip from_a from_b k (blank, blank) (omega (arith, len_a)) (omega (arith, len_b)))
    ∙ ap (λ (cell : Cell). cell.mark || (get_or from_b k blank).mark) (get_down storage a k blank a_in in_a)
    ∙ ap (λ (cell : Cell). (cell_at storage (a - k)).mark || cell.mark) (get_down storage b k blank b_in in_b) in
    ap (option_map (λ (i : ℕ). i + 1)) (position_is mark (zip from_a from_b) n (omega (arith, len, len_a, len_b))
    (position_or_len_is mark (zip from_a from_b) n (blank, blank) (omega (arith, len, len_a, len_b))
    (λ k h. pair_at k (omega arith) (omega arith) ∙ none k h)
    (λ h. pair_at n le_a le_b ∙ there)))

-- what is at a place of a card
pub cell_of_card : (marks : List ℕ) (at : ℕ) (chars : List ℕ) (k place : ℕ) → k < length chars → at + k ≡ place
    → cell_at (with_marks marks at chars) k
    ≡ record { char = get_or chars k 0; mark = list_any (λ each. each == place) marks }
cell_of_card marks at [] k place lt e = absurd (omega (arith, lt))
cell_of_card marks at (char ∷ chars) zero place lt e =
    let here : at ≡ place = omega (arith, e) in
    ap (λ (n : ℕ). let cell : Cell = record { char = char; mark = list_any (λ each. each == n) marks } in cell) here
cell_of_card marks at (char ∷ chars) (suc k) place lt e =
    cell_of_card marks (at + 1) chars k place (omega (arith, lt)) (omega (arith, e))

-- cells over as many between others
between_place : (pre old post cells : Storage) (f : ℕ → Cell) (top n q : ℕ) → length old ≡ n → length cells ≡ n
    → 0 < n → top + 1 ≡ length pre + n → ((i : ℕ) → i < n → f i ≡ get_or cells (n - 1 - i) blank)
    → q < length pre + (n + length post) → IsBeside top n q
    → cell_at (with_cells (pre ++ (old ++ post)) top n f) q ≡ cell_at (pre ++ (cells ++ post)) q
between_place pre old post cells f top n q olds news some e same lt (above over) =
    let all : q < length (pre ++ (old ++ post)) = omega (arith, length-append pre (old ++ post), length-append old post) in
    written_above (pre ++ (old ++ post)) top n f q all over
    ∙ get_or-append_right pre (old ++ post) (length pre) q blank refl (omega arith)
    ∙ get_or-append_right old post n (q - length pre) blank olds (omega arith)
    ∙ sym (get_or-append_right cells post n (q - length pre) blank news (omega arith))
    ∙ sym (get_or-append_right pre (cells ++ post) (length pre) q blank refl (omega arith))
between_place pre old post cells f top n q olds news some e same lt (inside le near) =
    let all : q < length (pre ++ (old ++ post)) = omega (arith, length-append pre (old ++ post), length-append old post) in
    let place : n - 1 - (top - q) ≡ q - length pre = omega arith in
    written_inside (pre ++ (old ++ post)) top n f q all le near
    ∙ same (top - q) (omega arith) ∙ ap (λ (k : ℕ). get_or cells k blank) place
    ∙ sym (get_or_append_left cells post blank (q - length pre) (omega (arith, news)))
    ∙ sym (get_or-append_right pre (cells ++ post) (length pre) q blank refl (omega arith))
between_place pre old post cells f top n q olds news some e same lt (below under) =
    let all : q < length (pre ++ (old ++ post)) = omega (arith, length-append pre (old ++ post), length-append old post) in
    written_below (pre ++ (old ++ post)) top n f q all under
    ∙ get_or_append_left pre (old ++ post) blank q (omega arith)
    ∙ sym (get_or_append_left pre (cells ++ post) blank q (omega arith))

pub cells_between : (pre old post cells : Storage) (f : ℕ → Cell) (top n : ℕ) → length old ≡ n → length cells ≡ n
    → 0 < n → top + 1 ≡ length pre + n → ((i : ℕ) → i < n → f i ≡ get_or cells (n - 1 - i) blank)
    → with_cells (pre ++ (old ++ post)) top n f ≡ pre ++ (cells ++ post)
cells_between pre old post cells f top n olds news some e same =
    let size : length (with_cells (pre ++ (old ++ post)) top n f) ≡ length pre + (n + length post) =
    length_written (pre ++ (old ++ post)) top n f
    ∙ omega (arith, length-append pre (old ++ post), length-append old post) in
    let after : length (pre ++ (cells ++ post)) ≡ length pre + (n + length post) =
    omega (arith, length-append pre (cells ++ post), length-append cells post) in
    ext_get_or blank (with_cells (pre ++ (old ++ post)) top n f) (pre ++ (cells ++ post)) (size ∙ sym after)
    (λ q lt. between_place pre old post cells f top n q olds news some e same (omega (arith, size)) (where_is top n q))
