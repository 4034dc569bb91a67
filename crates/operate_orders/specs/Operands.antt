-- The operands of a line, each with its fault (own).
use Rattle.std.specs.Prelude.{ℕ, ◌==◌, if◌then◌else◌, List, length, Option, None, Some, Result, Ok, Err}
use Rattle.std.specs.Option.{ok_or}
use Rattle.operate_orders.specs.Parts.{operand_in, beyond_operand, is_end, are_digits, file_in, numeral_in}
use Rattle.operate_orders.specs.Place.{place_in}
use Rattle.operate_orders.specs.Range.{range_in}
use Rattle.operate_orders.specs.Text.{kept, capitals}
use Rattle.operate_orders.specs.declared.fault.OrderFault.{OrderFault}
use Rattle.operate_orders.specs.declared.fault.OrderFault.TheVariants as fault
use Rattle.operate_orders.specs.declared.orders.Order.{Order}
use Rattle.operate_orders.specs.declared.places.Place.{Place}
use Rattle.operate_orders.specs.declared.ranges.Range.{Range}
use Rattle.operate_orders.specs.declared.words.Keyword.{Keyword}

-- what a line says, or its first fault from left to right
abbrev pub Said : Type 0
Said = Result Order OrderFault

infixl 10 ◌>>=◌
-- what is on the left, and if it has no fault, what follows it
abbrev pub ◌>>=◌ : {A B : Type 0} → Result A OrderFault → (A → Result B OrderFault) → Result B OrderFault
Ok value >>= beyond = beyond value
Err fault >>= beyond = Err fault

-- nothing follows what is said
abbrev pub ended : {A : Type 0} → Keyword → List ℕ → A → Result A OrderFault
ended keyword rest value = if is_end rest then Ok value else Err (fault.Usage keyword)

-- the fault of a word that says nothing: digits alone are a number, and too many
abbrev pub digits_or : List ℕ → OrderFault → OrderFault
digits_or word why = if are_digits word then fault.Digits (kept word) else why

-- a place, as its word says
unfoldable pub place_operand : Keyword → List ℕ → Result Place OrderFault
place_operand keyword word =
    if length word == 0 then Err (fault.Usage keyword)
    else ok_or (place_in (capitals word)) (digits_or word (fault.Place (kept word)))

-- a range
unfoldable pub range_operand : Keyword → List ℕ → Result Range OrderFault
range_operand keyword word =
    if length word == 0 then Err (fault.Usage keyword)
    else ok_or (range_in (capitals word)) (digits_or word (fault.Range (kept word)))

-- a number from 1 on
abbrev count_said : List ℕ → Option ℕ → Result (Option ℕ) OrderFault
count_said word None = Err (digits_or word (fault.Count (kept word)))
count_said word (Some number) = if number == 0 then Err (fault.Count (kept word)) else Ok (Some number)

-- the same, or none where there is no word
unfoldable pub count_operand : List ℕ → Result (Option ℕ) OrderFault
count_operand word = if length word == 0 then Ok None else count_said word (numeral_in word)

-- each of these alone
unfoldable pub lone_place : Keyword → List ℕ → Result Place OrderFault
lone_place keyword rest = do
  place ← place_operand keyword (operand_in rest)
  ended keyword (beyond_operand rest) place

-- the same, or none where there is no word
abbrev pub maybe_place : Keyword → List ℕ → Result (Option Place) OrderFault
maybe_place keyword rest = if is_end rest then Ok None else lone_place keyword rest >>= λ place. Ok (Some place)

unfoldable pub lone_range : Keyword → List ℕ → Result Range OrderFault
lone_range keyword rest = do
  range ← range_operand keyword (operand_in rest)
  ended keyword (beyond_operand rest) range

abbrev pub maybe_range : Keyword → List ℕ → Result (Option Range) OrderFault
maybe_range keyword rest = if is_end rest then Ok None else lone_range keyword rest >>= λ range. Ok (Some range)

unfoldable pub lone_count : Keyword → List ℕ → Result (Option ℕ) OrderFault
lone_count keyword rest = do
  count ← count_operand (operand_in rest)
  ended keyword (beyond_operand rest) count

-- the name of a file
unfoldable pub lone_file : Keyword → List ℕ → Result (List ℕ) OrderFault
lone_file keyword rest = if length (file_in rest) == 0 then Err (fault.Usage keyword) else Ok (kept (file_in rest))
