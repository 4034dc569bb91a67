-- Values, and conditions on fields (own).
use Rattle.std.specs.Prelude.{ℕ, ◌==◌, Bool, true, false, not, if◌then◌else◌, List, length, take, drop}
use Rattle.std.specs.Prelude.{slice_index, Option, None, Some, Result, Ok, Err}
use Rattle.std.specs.List.{position_or_len}
use Rattle.std.specs.Option.{ok_or}
use Rattle.console_text.specs.Words.{without_blanks}
use Rattle.operate_orders.specs.Kind.{plus, minus, equals, less, greater, is_relation}
use Rattle.operate_orders.specs.Operands.{◌>>=◌, ended, lone_place}
use Rattle.operate_orders.specs.Parts.{first_of, before_byte, from_byte, operand_in, beyond_operand, is_end, are_digits}
use Rattle.operate_orders.specs.Parts.{has_graphics}
use Rattle.operate_orders.specs.Text.{kept, capitals}
use Rattle.operate_orders.specs.declared.fault.OrderFault.{OrderFault}
use Rattle.operate_orders.specs.declared.fault.OrderFault.TheVariants as fault
use Rattle.operate_orders.specs.declared.values.Condition.{Condition}
use Rattle.operate_orders.specs.declared.values.Relation.{Relation}
use Rattle.operate_orders.specs.declared.values.Relation.TheVariants.{Equal, Unequal, Less, Greater, AtMost, AtLeast}
use Rattle.operate_orders.specs.declared.values.Value.{Value}
use Rattle.operate_orders.specs.declared.values.Value.TheVariants as value
use Rattle.operate_orders.specs.declared.words.Keyword.{Keyword}

-- it comes before a text and after it
abbrev pub at_sign : ℕ
at_sign = 64

-- a text has one byte or more, each in capitals the graphic of a character
unfoldable pub text_operand : Keyword → List ℕ → Result (List ℕ) OrderFault
text_operand keyword bytes =
    if length bytes == 0 then Err (fault.Usage keyword)
    else (if has_graphics (capitals bytes) then Ok (capitals bytes) else Err fault.Graphic)

-- a text after its first at sign, and nothing after its second
unfoldable pub quoted : Keyword → List ℕ → Result (List ℕ) OrderFault
quoted keyword rest =
    if length (from_byte at_sign rest) == 0 then Err (fault.Usage keyword)
    else (if not (is_end (drop 1 (from_byte at_sign rest))) then Err (fault.Usage keyword)
    else text_operand keyword (before_byte at_sign rest))

abbrev pub number_with : Bool → List ℕ → Option Value
number_with negative digits =
    if are_digits digits then Some (value.Number negative (kept digits)) else None

-- digits, or a sign and digits
unfoldable pub number_in : List ℕ → Option Value
number_in word =
    if first_of word == minus then number_with true (drop 1 word)
    else (if first_of word == plus then number_with false (drop 1 word) else number_with false word)

unfoldable pub number_operand : Keyword → List ℕ → Result Value OrderFault
number_operand keyword word =
    if length word == 0 then Err (fault.Usage keyword) else ok_or (number_in word) (fault.Number (kept word))

unfoldable pub lone_number : Keyword → List ℕ → Result Value OrderFault
lone_number keyword rest = do
  number ← number_operand keyword (operand_in rest)
  ended keyword (beyond_operand rest) number

abbrev pub quoted_value : Keyword → List ℕ → Result Value OrderFault
quoted_value keyword rest = do
  text ← quoted keyword rest
  Ok (value.Text text)

-- a number or a text, and nothing after it
unfoldable pub value_operand : Keyword → List ℕ → Result Value OrderFault
value_operand keyword rest =
    if first_of (without_blanks rest) == at_sign then quoted_value keyword (drop 1 (without_blanks rest))
    else lone_number keyword (without_blanks rest)

-- the relation that begins with these bytes: the longest
abbrev pub related : ℕ → ℕ → Option Relation
related first second =
    if first == equals then Some Equal
    else (if first == less
    then (if second == greater then Some Unequal else (if second == equals then Some AtMost else Some Less))
    else (if first == greater then (if second == equals then Some AtLeast else Some Greater) else None))

-- what follows a relation
unfoldable pub beyond_relation : Relation → List ℕ → List ℕ
beyond_relation Equal text = drop 1 text
beyond_relation Unequal text = drop 1 (drop 1 text)
beyond_relation Less text = drop 1 text
beyond_relation Greater text = drop 1 text
beyond_relation AtMost text = drop 1 (drop 1 text)
beyond_relation AtLeast text = drop 1 (drop 1 text)

abbrev compared_by : Keyword → List ℕ → Option Relation → Result (Relation × Value) OrderFault
compared_by keyword text None = Err (fault.Usage keyword)
compared_by keyword text (Some relation) = do
  value ← value_operand keyword (beyond_relation relation text)
  Ok (relation, value)

-- a relation and a value, which follow a field
unfoldable pub compared : Keyword → List ℕ → Result (Relation × Value) OrderFault
compared keyword text = compared_by keyword text (related (slice_index text 0) (slice_index text 1))

-- a field, a relation and a value, with or without blanks between them
unfoldable pub condition_operand : Keyword → List ℕ → Result Condition OrderFault
condition_operand keyword rest = do
  field ← lone_place keyword (take (position_or_len is_relation rest) rest)
  with ← compared keyword (drop (position_or_len is_relation rest) rest)
  Ok (record { field = field; relation = with.0; value = with.1 })
