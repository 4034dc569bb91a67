-- Cells from a place down, the first word mark among them, and fields that aren't in core.
use Rattle.std.proofs.Common.{◌≡◌, ℕ, ◌+◌, ◌-◌, ◌<◌, ◌≤◌, Bool, List, Option, Some, None, length, get_or, take}
use Rattle.std.proofs.Common.{position, refl, sym, ◌∙◌, ap, arith, false, [], ◌∷◌}
use Rattle.std.proofs.lemmas.Bool.{lt-ltb}
use Rattle.std.proofs.lemmas.List.{get_or-take, get_or-reverse, length-take-le, length-reverse, get_or_past}
use Rattle.std.proofs.lemmas.List.Quantifiers.{position-Some}
use Rattle.std.proofs.lemmas.List.Sums.{position_or_len_is}
use Rattle.std.specs.Option.{option_map, option_and_then}
use Rattle.std.specs.List.{zip}
use Rattle.bcd_1401.specs.declared.cell.Cell.{Cell}
use Rattle.core_1401.specs.Field.{cells_down, field_len_of, pair_len_of}
use Rattle.core_1401.specs.Storage.{Storage, blank, cell_at, is_in_core}
use Rattle.fields_1401.specs.Number.{places_down, char_at}
use Rattle.fields_1401.specs.Refusal.{needed_at, used_len_of}

-- there is a cell for each place from an address down
pub length-cells_down : (storage : Storage) (at : ℕ) → at < length storage → length (cells_down storage at) ≡ at + 1
length-cells_down storage at in_core =
    rw (lt-ltb at (length storage) in_core) (length-reverse (take (at + 1) storage)
    ∙ length-take-le (at + 1) storage (omega arith))

-- the i-th of them
pub get_or-cells_down : (storage : Storage) (at i : ℕ) → at < length storage → i ≤ at
    → get_or (cells_down storage at) i blank ≡ cell_at storage (at - i)
get_or-cells_down storage at i in_core le =
    let size : length (take (at + 1) storage) ≡ at + 1 = length-take-le (at + 1) storage (omega arith) in
    let place : length (take (at + 1) storage) - 1 - i ≡ at - i = omega arith in
    rw (lt-ltb at (length storage) in_core) (get_or-reverse (take (at + 1) storage) i blank (omega arith)
    ∙ ap (λ q. get_or (take (at + 1) storage) q blank) place ∙ get_or-take (at + 1) storage (at - i) blank
    (omega arith))

-- n of them
pub length-places_down : (s : Storage) (at n : ℕ) → n ≤ at + 1 → at < length s → length (places_down s at n) ≡ n
unfolding places_down
length-places_down s at n above in_core = length-take-le n (cells_down s at)
    (omega (arith, length-cells_down s at in_core))

pub place_down : (s : Storage) (at n i : ℕ) → i < n → n ≤ at + 1 → at < length s
    → get_or (places_down s at n) i blank ≡ cell_at s (at - i)
unfolding places_down
place_down s at n i within above in_core = get_or-take n (cells_down s at) i blank within
    ∙ get_or-cells_down s at i in_core (omega arith)

-- a blank past the end
pub past_places : (s : Storage) (at n i : ℕ) → n ≤ i → n ≤ at + 1 → at < length s
    → get_or (places_down s at n) i blank ≡ blank
past_places s at n i past above in_core = get_or_past (places_down s at n) i blank
    (omega (arith, length-places_down s at n above in_core))

-- the character of place i, and that of a blank past the end
pub char_down : (s : Storage) (at n i : ℕ) → i < n → n ≤ at + 1 → at < length s
    → char_at (places_down s at n) i ≡ (cell_at s (at - i)).char
char_down s at n i within above in_core = ap (λ (cell : Cell). cell.char) (place_down s at n i within above in_core)

pub char_past : (s : Storage) (at n i : ℕ) → n ≤ i → n ≤ at + 1 → at < length s → char_at (places_down s at n) i ≡ 0
char_past s at n i past above in_core = ap (λ (cell : Cell). cell.char) (past_places s at n i past above in_core)

-- the first word mark is at the same place if the marks up to it are the same
pub same_first_mark : (xs ys : List Cell) (k : ℕ) → position (λ (cell : Cell). cell.mark) xs ≡ Some k → k < length ys
    → ((i : ℕ) → i ≤ k → (get_or ys i blank).mark ≡ (get_or xs i blank).mark)
    → position (λ (cell : Cell). cell.mark) ys ≡ Some k
same_first_mark xs ys k first lt same =
    let has_mark : Cell → Bool = λ cell. cell.mark in
    let marks = position-Some has_mark xs k blank first in
    let index = position_or_len_is has_mark ys k blank (omega arith)
    (λ i before. same i (omega arith) ∙ marks.2 i before) (λ _. same k (omega arith) ∙ marks.1) in
    rw (index, lt-ltb k (length ys) lt) refl

-- a field keeps its length if the word marks stay
pub same_field_len : (storage after : Storage) (at n : ℕ) → at < length storage → length after ≡ length storage
    → ((q : ℕ) → q < length storage → (cell_at after q).mark ≡ (cell_at storage q).mark)
    → field_len_of storage at ≡ Some n → field_len_of after at ≡ Some n
same_field_len storage after at n in_core size same len =
    found (position (λ (cell : Cell). cell.mark) (cells_down storage at)) refl len where
      found : (o : Option ℕ) → position (λ (cell : Cell). cell.mark) (cells_down storage at) ≡ o
          → option_map (λ i. i + 1) o ≡ Some n → field_len_of after at ≡ Some n
      found None first e = absurd cc
      found (Some k) first e =
          let mark : Cell → Bool = λ (cell : Cell). cell.mark in
          let in_after : at < length after = omega arith in
          let before_size = length-cells_down storage at in_core in
          let after_size = length-cells_down after at in_after in
          let found_in : k < length (cells_down storage at) = (position-Some mark
          (cells_down storage at) k blank first).0 in
          let marks : (i : ℕ) → i ≤ k → (get_or (cells_down after at) i blank).mark
          ≡ (get_or (cells_down storage at) i blank).mark =
          λ i le. ap mark (get_or-cells_down after at i in_after (omega arith)) ∙ same (at - i) (omega arith)
          ∙ sym (ap mark (get_or-cells_down storage at i in_core (omega arith))) in
          ap (λ o. option_map (λ i. i + 1) o) (same_first_mark (cells_down storage at) (cells_down after at) k first
          (omega arith) marks) ∙ e

-- cells beside none
zip_none : (cells : List Cell) → zip {K = Cell} {X = Cell} cells [] ≡ []
zip_none [] = refl
zip_none (cell ∷ cells) = refl

-- two fields have no length if one of them isn't in core
pub no_pair_without_a : (storage : Storage) (a b : ℕ) → is_in_core storage a ≡ false → pair_len_of storage a b ≡ None
no_pair_without_a storage a b e = rw e refl

pub no_pair_without_b : (storage : Storage) (a b : ℕ) → is_in_core storage b ≡ false → pair_len_of storage a b ≡ None
no_pair_without_b storage a b e = rw (e, zip_none (cells_down storage a)) refl

-- whichever it is
pub ruleset no_pair = (no_pair_without_a, no_pair_without_b)

-- an operation of arithmetic takes no places if one of its addresses isn't in core
pub none_without_a : (storage : Storage) (a b : ℕ) → is_in_core storage a ≡ false → needed_at storage a b ≡ None
none_without_a storage a b e = of_length (field_len_of storage b) where
  used : ℕ → Option (ℕ × ℕ)
  used m = option_map (λ u. (u, m)) (used_len_of storage a m)

  of_length : (len : Option ℕ) → option_and_then used len ≡ None
  of_length None = refl
  of_length (Some m) = rw e refl

pub none_without_b : (storage : Storage) (a b : ℕ) → is_in_core storage b ≡ false → needed_at storage a b ≡ None
none_without_b storage a b e = rw e refl

-- whichever it is
pub ruleset none_needed = (none_without_a, none_without_b)
