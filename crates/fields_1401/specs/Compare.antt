-- Fields compared (A24-1403, "Compare", "High-Low-Equal Compare Device"; the collating order is own).
use Rattle.std.specs.Prelude.{ℕ, ◌≡◌, ◌+◌, ◌-◌, ◌&&◌, ◌||◌, not, nat_lt, Bool, false, List, map, find, reverse}
use Rattle.std.specs.Prelude.{Option, Some, None, Result, Ok, Err}
use Rattle.std.specs.List.{list_any, range_with_len}
use Rattle.std.specs.declared.cmp.Ordering.{Ordering}
use Rattle.std.specs.Ordering.{is_eq, is_gt, is_lt}
use Rattle.bcd_1401.specs.Collation.{order_of}
use Rattle.core_1401.specs.Field.{pair_len_of}
use Rattle.core_1401.specs.Places.{is_unequal_pair}
use Rattle.core_1401.specs.Storage.{Storage, cell_at}
use Rattle.fields_1401.specs.Across.{chars_across}
use Rattle.fields_1401.specs.declared.done.Done.{Done}
use Rattle.fields_1401.specs.declared.done.FieldStop.{FieldStop}
use Rattle.fields_1401.specs.declared.done.FieldStop.TheVariants.{Address}
use Rattle.fields_1401.specs.Outcome.{below_by, registers_of}

-- whether the A field ends before the B field: of n pairs the last has a word mark in A, and none in B
abbrev pub ends_first : Storage → ℕ → ℕ → ℕ → Bool
ends_first storage a b n = (cell_at storage (a + 1 - n)).mark && not (cell_at storage (b + 1 - n)).mark

-- whether n pairs are unequal: two characters differ, or the A field ends before the B field
abbrev pub is_unequal : Storage → ℕ → ℕ → ℕ → Bool
is_unequal storage a b n =
    list_any (is_unequal_pair storage a b) (range_with_len 0 n) || ends_first storage a b n

-- the highest of n pairs whose characters differ, counted from the units; none if no two differ
unfoldable pub highest_difference : Storage → ℕ → ℕ → ℕ → Option ℕ
highest_difference storage a b n = find (is_unequal_pair storage a b) (reverse (range_with_len 0 n))

-- the place in the collating order of the character at an address
abbrev pub order_at : Storage → ℕ → ℕ
order_at storage at = order_of (cell_at storage at).char

-- whether the character of B is higher than that of A in the pair that decides
abbrev pub is_higher : Storage → ℕ → ℕ → Option ℕ → Bool
is_higher storage a b None = false
is_higher storage a b (Some i) = nat_lt (order_at storage (a - i)) (order_at storage (b - i))

-- whether B is high over n pairs: the A field ends before it, or the highest pair that differs has the higher character
-- in B
abbrev pub is_high : Storage → ℕ → ℕ → ℕ → Bool
is_high storage a b n = ends_first storage a b n || is_higher storage a b (highest_difference storage a b n)

-- two fields compared over the pairs up to and including the first word mark in either, B low if it is unequal and
-- not high; refused if there is none
abbrev pub compared : Storage → ℕ → ℕ → Option ℕ → Result Done FieldStop
compared storage a b None = Err Address
compared storage a b (Some n) =
    Ok (record (registers_of (below_by a n) (below_by b n)) {
      unequal = is_unequal storage a b n;
      low = is_unequal storage a b n && not (is_high storage a b n);
      high = is_high storage a b n;
    })

-- the fields at both addresses compared
unfoldable pub comparison_at : Storage → ℕ → ℕ → Result Done FieldStop
comparison_at storage a b = compared storage a b (pair_len_of storage a b)

-- the places in the collating order of the n characters that end at an address, from left to right
unfoldable pub orders_across : Storage → ℕ → ℕ → List ℕ
orders_across storage at n = map order_of (chars_across storage at n)

-- B is high if A comes before it, low if A comes after it, and unequal in both cases
pub record Tells (done : Done) (order : Ordering) : Type 0 where
  pub unequal : done.unequal ≡ not (is_eq order)
  pub low : done.low ≡ is_gt order
  pub high : done.high ≡ is_lt order

-- an unequal result is either low or high, and an equal one is neither
pub record IsOneOfThree (done : Done) : Type 0 where
  pub unequal : done.unequal ≡ (done.low || done.high)
  pub one : (done.low && done.high) ≡ false
