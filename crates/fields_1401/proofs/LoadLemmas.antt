-- After a load the field at b is the field that stood at a.
use Rattle.std.proofs.Common.{◌≡◌, ℕ, ◌+◌, ◌-◌, ◌<◌, ◌≤◌, length, ap, sym, ◌∙◌, arith, List, Option, Some, None, get_or}
use Rattle.std.proofs.Common.{take, position, refl}
use Rattle.std.proofs.lemmas.List.{ext_get_or, get_or-take, length-take-le}
use Rattle.std.proofs.lemmas.List.Quantifiers.{position-Some}
use Rattle.std.specs.Option.{option_map}
use Rattle.bcd_1401.specs.declared.cell.Cell.{Cell}
use Rattle.core_1401.specs.Storage.{Storage, cell_at, blank}
use Rattle.core_1401.specs.Field.{cells_down, field_len_of, field_at}
use Rattle.fields_1401.proofs.PlacesLemmas.{length-with_cells, cell_at-within, is_within-inside}
use Rattle.fields_1401.proofs.FieldLemmas.{length-cells_down, get_or-cells_down, same_first_mark}
use Rattle.fields_1401.specs.Across.{IsSameOutside}
use Rattle.fields_1401.specs.Load.{loaded}
use Rattle.fields_1401.proofs.AcrossLemmas.{cells_outside}

-- after a load the core is as large as before
pub length-loaded : (storage : Storage) (a b n : ℕ) → length (loaded storage a b n) ≡ length storage
unfolding loaded
length-loaded storage a b n = length-with_cells storage b n (λ i. cell_at storage (a - i))

-- lists that begin with the same n cells
take_same : (xs ys : List Cell) (n : ℕ) → n ≤ length xs → n ≤ length ys
    → ((i : ℕ) → i < n → get_or xs i blank ≡ get_or ys i blank) → take n xs ≡ take n ys
take_same xs ys n in_xs in_ys same =
    let xs_size : length (take n xs) ≡ n = length-take-le n xs in_xs in
    let ys_size : length (take n ys) ≡ n = length-take-le n ys in_ys in
    ext_get_or blank (take n xs) (take n ys) (omega arith) (λ i lt.
    get_or-take n xs i blank (omega arith) ∙ same i (omega arith) ∙ sym (get_or-take n ys i blank (omega arith)))

-- a field by the place of its word mark
field_at-mark : (storage : Storage) (at k : ℕ) → position (λ (cell : Cell). cell.mark) (cells_down storage at) ≡ Some k
    → field_at storage at ≡ Some (take (k + 1) (cells_down storage at))
field_at-mark storage at k first = ap (λ o. option_map (λ n. take n (cells_down storage at))
    (option_map (λ i. i + 1) o)) first

-- a place that was loaded
get_or-loaded : (storage : Storage) (a b n i : ℕ) → a < length storage → b < length storage → i < n → i ≤ a → i ≤ b
    → get_or (cells_down (loaded storage a b n) b) i blank ≡ get_or (cells_down storage a) i blank
unfolding loaded
get_or-loaded storage a b n i a_in b_in lt in_a in_b =
    let after = loaded storage a b n in
    let size : length after ≡ length storage = length-with_cells storage b n (λ k. cell_at storage (a - k)) in
    get_or-cells_down after b i (omega arith) in_b
    ∙ cell_at-within storage b n (λ k. cell_at storage (a - k)) (b - i) (omega arith)
    (is_within-inside b n (b - i) (omega arith) (omega arith))
    ∙ ap (cell_at storage) (omega arith) ∙ sym (get_or-cells_down storage a i a_in in_a)

-- a load brings the field that it was asked for
pub field_at-loaded : (storage : Storage) (a b k : ℕ) → a < length storage → b < length storage → k ≤ b
    → position (λ (cell : Cell). cell.mark) (cells_down storage a) ≡ Some k
    → field_at (loaded storage a b (k + 1)) b ≡ field_at storage a
field_at-loaded storage a b k a_in b_in b_places first =
    let after = loaded storage a b (k + 1) in
    let xs = cells_down storage a in
    let ys = cells_down after b in
    let xs_size : length xs ≡ a + 1 = length-cells_down storage a a_in in
    let ys_size : length ys ≡ b + 1 = length-cells_down after b (omega (arith, length-loaded storage a b (k + 1))) in
    let in_xs : k < length xs = (position-Some (λ (cell : Cell). cell.mark) xs k blank first).0 in
    let same : (i : ℕ) → i ≤ k → get_or ys i blank ≡ get_or xs i blank =
    λ i le. get_or-loaded storage a b (k + 1) i a_in b_in (omega arith) (omega arith) (omega arith) in
    field_at-mark after b k (same_first_mark xs ys k first (omega arith)
    (λ i le. ap (λ (cell : Cell). cell.mark) (same i le)))
    ∙ ap (λ cells. Some cells) (take_same ys xs (k + 1) (omega arith) (omega arith) (λ i lt. same i (omega arith)))
    ∙ sym (field_at-mark storage a k first)

-- the same by its length
pub load_brings_the_field : (storage : Storage) (a b n : ℕ) → a < length storage → b < length storage → n ≤ b + 1
    → Some n ≡ field_len_of storage a → field_at (loaded storage a b n) b ≡ field_at storage a
load_brings_the_field storage a b n a_in b_in b_places len =
    found (position (λ (cell : Cell). cell.mark) (cells_down storage a)) refl len where
      found : (o : Option ℕ) → position (λ (cell : Cell). cell.mark) (cells_down storage a) ≡ o
          → Some n ≡ option_map (λ i. i + 1) o
          → field_at (loaded storage a b n) b ≡ field_at storage a
      found None first e = absurd cc
      found (Some k) first e =
          let last : n ≡ k + 1 = cc in
          ap (λ m. field_at (loaded storage a b m) b) last ∙ field_at-loaded storage a b k a_in b_in (omega arith) first

-- and no place beside it
pub loaded_outside : (s t : Storage) (a b n : ℕ) → t ≡ loaded s a b n → IsSameOutside s t b n
unfolding loaded
loaded_outside s t a b n e = cells_outside s t b n (λ i. cell_at s (a - i)) e
