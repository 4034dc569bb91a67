-- Ranges of places (own).
use Rattle.std.specs.Prelude.{ℕ, ◌==◌, if◌then◌else◌, List, [], ◌∷◌, length, drop, slice_index, Option, None, Some}
use Rattle.std.specs.Prelude.{codes}
use Rattle.std.specs.Str.{bytes_eq}
use Rattle.operate_orders.specs.Parts.{before_byte, from_byte, numeral_in}
use Rattle.operate_orders.specs.Kind.{minus}
use Rattle.operate_orders.specs.Place.{place_in}
use Rattle.operate_orders.specs.declared.places.Base.TheVariants.{Number}
use Rattle.operate_orders.specs.declared.places.Place.{Place}
use Rattle.operate_orders.specs.declared.ranges.Area.{Area}
use Rattle.operate_orders.specs.declared.ranges.Area.TheVariants.{Read, Punch, Print}
use Rattle.operate_orders.specs.declared.ranges.Range.{Range}
use Rattle.operate_orders.specs.declared.ranges.Range.TheVariants as range

infixl 10 ◌>>=◌
-- what is on the left, and if it is there, what follows it
abbrev ◌>>=◌ : {X Y : Type 0} → Option X → (X → Option Y) → Option Y
None >>= beyond = None
Some x >>= beyond = beyond x

abbrev pub dot : ℕ
dot = 46

abbrev pub slash : ℕ
slash = 47

unfoldable pub area_named : List ℕ → Option Area
area_named word =
    if bytes_eq word (codes "READ") then Some Read
    else (if bytes_eq word (codes "PUNCH") then Some Punch
    else (if bytes_eq word (codes "PRINT") then Some Print else None))

-- 400..410
unfoldable pub between : List ℕ → List ℕ → Option Range
between first last = do
  first ← place_in first
  last ← place_in last
  Some (range.Between first last)

-- 400/11: a count from 1 on
unfoldable pub counted : List ℕ → List ℕ → Option Range
counted first count = do
  first ← place_in first
  count ← numeral_in count
  if count == 0 then None else Some (range.Counted first count)

-- the place that a number is
abbrev pub at_number : ℕ → Place
at_number number = record { base = Number number; adjustments = None ∷ None ∷ None ∷ [] }

-- 400-410: two numbers
unfoldable pub numbers_between : List ℕ → List ℕ → Option Range
numbers_between first last = do
  first ← numeral_in first
  last ← numeral_in last
  Some (range.Between (at_number first) (at_number last))

-- a place alone
unfoldable pub lone : List ℕ → Option Range
lone word = do
  place ← place_in word
  Some (range.At place)

abbrev range_or_lone : List ℕ → Option Range → Option Range
range_or_lone word (Some range) = Some range
range_or_lone word None = lone word

-- between two numbers a minus stands for a range, else for an adjustment
unfoldable pub range_by_minus : List ℕ → Option Range
range_by_minus word =
    range_or_lone word (numbers_between (before_byte minus word) (drop 1 (from_byte minus word)))

unfoldable pub range_by_slash : List ℕ → Option Range
range_by_slash word =
    if length (from_byte slash word) == 0 then range_by_minus word
    else counted (before_byte slash word) (drop 1 (from_byte slash word))

unfoldable pub range_by_dots : List ℕ → Option Range
range_by_dots word =
    if length (from_byte dot word) == 0 then range_by_slash word
    else (if slice_index (from_byte dot word) 1 == dot
    then between (before_byte dot word) (drop 1 (drop 1 (from_byte dot word))) else None)

abbrev area_or_range : List ℕ → Option Area → Option Range
area_or_range word (Some area) = Some (range.Area area)
area_or_range word None = range_by_dots word

-- the range that a word is, in capitals; the name of an area goes before a label
unfoldable pub range_in : List ℕ → Option Range
range_in word = area_or_range word (area_named word)
