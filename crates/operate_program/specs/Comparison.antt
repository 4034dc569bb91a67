-- Conditions on fields (own; A24-1403, "High-Low-Equal Compare Device": the collating order).
use Rattle.std.specs.Prelude.{ℕ, ◌+◌, ◌==◌, Bool, true, false, ◌&&◌, if◌then◌else◌, List, [], ◌∷◌, map, reverse}
use Rattle.std.specs.Prelude.{unwrap_or, Option, None, Some, Result, Ok}
use Rattle.std.specs.List.{list_all}
use Rattle.std.specs.Ordering.{nat_cmp, ordering_then, ordering_reverse}
use Rattle.std.specs.declared.cmp.Ordering.{Ordering}
use Rattle.std.specs.declared.cmp.Ordering.TheVariants.{Less, Equal, Greater}
use Rattle.std.specs.Ordering.{is_eq, is_ne, is_lt, is_gt, is_le, is_ge}
use Rattle.bcd_1401.specs.Collation.{order_of}
use Rattle.bcd_1401.specs.Digits.{is_digit, value_of}
use Rattle.bcd_1401.specs.declared.cell.Cell.{Cell}
use Rattle.core_1401.specs.Storage.{Storage}
use Rattle.cpu_1401.specs.State.{State}
use Rattle.fields_1401.specs.Number.{magnitude_of, sign_of}
use Rattle.fields_1401.specs.declared.sign.Sign.{Sign}
use Rattle.fields_1401.specs.declared.sign.Sign.TheVariants.{Plus, Minus}
use Rattle.machine_notation.specs.Characters.{char_of}
use Rattle.operate_orders.specs.declared.values.Condition.{Condition}
use Rattle.operate_orders.specs.declared.values.Relation.{Relation}
use Rattle.operate_orders.specs.declared.values.Relation.TheVariants as relation
use Rattle.operate_orders.specs.declared.values.Value.{Value}
use Rattle.operate_orders.specs.declared.values.Value.TheVariants as value
use Rattle.operate_program.specs.Field.{cells_of, field_of}
use Rattle.operate_program.specs.Known.{Known}
use Rattle.operate_program.specs.Value.{◌>>=◌}
use Rattle.operate_program.specs.declared.comparison.Comparison.{Comparison}
use Rattle.operate_program.specs.declared.fault.PlaceFault.{PlaceFault}
use Rattle.operate_program.specs.declared.field.Field.{Field}
use Rattle.operate_views.specs.NumberText.{is_number}

-- two values that compare so are in a relation
abbrev pub holds : Relation → Ordering → Bool
holds relation.Equal order = is_eq order
holds relation.Unequal order = is_ne order
holds relation.Less order = is_lt order
holds relation.Greater order = is_gt order
holds relation.AtMost order = is_le order
holds relation.AtLeast order = is_ge order

abbrev pub sign_meant : Bool → Sign
sign_meant minus = if minus then Minus else Plus

-- two zeros are equal, whatever their signs
abbrev pub unless_zero : Bool → Ordering → Ordering
unless_zero is_zero order = if is_zero then Equal else order

-- how two numbers compare, each by its sign and its magnitude
unfoldable pub number_order : Sign → ℕ → Sign → ℕ → Ordering
number_order Plus x Plus y = nat_cmp x y
number_order Minus x Minus y = ordering_reverse (nat_cmp x y)
number_order Plus x Minus y = unless_zero ((x + y) == 0) Greater
number_order Minus x Plus y = unless_zero ((x + y) == 0) Less

-- the same by which of them is below zero, by how their magnitudes compare, and by whether both are zero
abbrev pub by_signs : Bool → Bool → Ordering → Bool → Ordering
by_signs false false order is_zero = order
by_signs true true order is_zero = ordering_reverse order
by_signs false true order is_zero = unless_zero is_zero Greater
by_signs true false order is_zero = unless_zero is_zero Less

-- how two texts compare, by their places in the collating order: the shorter has blanks after it, which come first
unfoldable pub text_order : List ℕ → List ℕ → Ordering
text_order [] [] = Equal
text_order [] (y ∷ ys) = ordering_then (nat_cmp 0 y) (text_order [] ys)
text_order (x ∷ xs) [] = ordering_then (nat_cmp x 0) (text_order xs [])
text_order (x ∷ xs) (y ∷ ys) = ordering_then (nat_cmp x y) (text_order xs ys)

-- the places of a field's characters in the collating order, from the left
abbrev pub orders_of : List Cell → List ℕ
orders_of cells = map (λ (cell : Cell). order_of cell.char) (reverse cells)

-- the place of the character with a graphic
abbrev pub order_of_byte : ℕ → ℕ
order_of_byte byte = order_of (unwrap_or (char_of byte) 0)

abbrev pub orders_of_text : List ℕ → List ℕ
orders_of_text text = map order_of_byte text

-- a field, units first, is a number, and it is in a relation to another
abbrev pub is_so_number : Relation → Bool → List ℕ → List Cell → Bool
is_so_number relation minus digits cells =
    is_number cells && list_all is_digit digits
    && holds relation (number_order (sign_of cells) (magnitude_of cells) (sign_meant minus) (value_of digits))

-- the characters of a field are in a relation to a text
abbrev pub is_so_text : Relation → List ℕ → List Cell → Bool
is_so_text relation text cells = holds relation (text_order (orders_of cells) (orders_of_text text))

-- a field is in a relation to a value
abbrev pub is_so : Relation → Value → List Cell → Bool
is_so relation (value.Number minus digits) cells = is_so_number relation minus digits cells
is_so relation (value.Text text) cells = is_so_text relation text cells

abbrev is_so_if : Relation → Value → Option (List Cell) → Bool
is_so_if relation value None = false
is_so_if relation value (Some cells) = is_so relation value cells

-- there is such a field, and it is in a relation to a value
unfoldable pub compared_at : Storage → Field → Relation → Value → Bool
compared_at storage field relation value = is_so_if relation value (cells_of storage field)

abbrev comparison_on : Condition → Field → Result Comparison PlaceFault
comparison_on condition field =
    Ok (record { field = field; relation = condition.relation; value = condition.value })

-- a condition, with the field that its place names now
unfoldable pub condition_of : Known → State → Condition → Result Comparison PlaceFault
condition_of known s condition = do
  field ← field_of known s condition.field
  comparison_on condition field
