-- Places, ranges, values and conditions as they are typed (own).
use Rattle.std.specs.Prelude.{ℕ, Bool, if◌then◌else◌, List, [], ◌++◌, codes, slice_index_or, Option, None, Some}
use Rattle.machine_notation.specs.Digits.{digits_in}
use Rattle.operate_orders.specs.declared.places.Adjustment.{Adjustment}
use Rattle.operate_orders.specs.declared.places.Adjustment.TheVariants.{Plus, Minus, Indexed}
use Rattle.operate_orders.specs.declared.places.Base.{Base}
use Rattle.operate_orders.specs.declared.places.Base.TheVariants as base
use Rattle.operate_orders.specs.declared.places.Place.{Place}
use Rattle.operate_orders.specs.declared.places.Register.{Register}
use Rattle.operate_orders.specs.declared.places.Register.TheVariants.{I, A, B}
use Rattle.operate_orders.specs.declared.ranges.Area.{Area}
use Rattle.operate_orders.specs.declared.ranges.Area.TheVariants.{Read, Punch, Print}
use Rattle.operate_orders.specs.declared.ranges.Range.{Range}
use Rattle.operate_orders.specs.declared.ranges.Range.TheVariants as range
use Rattle.operate_orders.specs.declared.values.Condition.{Condition}
use Rattle.operate_orders.specs.declared.values.Relation.{Relation}
use Rattle.operate_orders.specs.declared.values.Relation.TheVariants as relation
use Rattle.operate_orders.specs.declared.values.Value.{Value}
use Rattle.operate_orders.specs.declared.values.Value.TheVariants as value
use Rattle.operate_program.specs.Value.{index_name}

-- the name of a register that holds an address
abbrev pub held_name : Register → List ℕ
held_name I = codes "$I"
held_name A = codes "$A"
held_name B = codes "$B"

-- what an address begins with
abbrev pub base_text : Base → List ℕ
base_text (base.Number number) = digits_in 1 number
base_text (base.Label label) = label
base_text (base.Line line) = codes ":" ++ digits_in 1 line
base_text (base.Index register) = index_name register
base_text (base.Held register) = held_name register

abbrev pub adjustment_text : Option Adjustment → List ℕ
adjustment_text None = []
adjustment_text (Some (Plus number)) = codes "+" ++ digits_in 1 number
adjustment_text (Some (Minus number)) = codes "-" ++ digits_in 1 number
adjustment_text (Some (Indexed register)) = codes "+" ++ index_name register

-- an address: where it begins, and its adjustments
unfoldable pub place_text : Place → List ℕ
place_text place =
    base_text place.base ++ adjustment_text (slice_index_or place.adjustments 0 None)
    ++ adjustment_text (slice_index_or place.adjustments 1 None)
    ++ adjustment_text (slice_index_or place.adjustments 2 None)

abbrev pub area_word : Area → List ℕ
area_word Read = codes "read"
area_word Punch = codes "punch"
area_word Print = codes "print"

-- a range
abbrev pub range_text : Range → List ℕ
range_text (range.Area area) = area_word area
range_text (range.Between first last) = place_text first ++ codes ".." ++ place_text last
range_text (range.Counted first count) = place_text first ++ codes "/" ++ digits_in 1 count
range_text (range.At place) = place_text place

abbrev pub relation_text : Relation → List ℕ
relation_text relation.Equal = codes "="
relation_text relation.Unequal = codes "<>"
relation_text relation.Less = codes "<"
relation_text relation.Greater = codes ">"
relation_text relation.AtMost = codes "<="
relation_text relation.AtLeast = codes ">="

-- a text between at signs
unfoldable pub quoted_text : List ℕ → List ℕ
quoted_text text = codes "@" ++ text ++ codes "@"

abbrev pub minus_text : Bool → List ℕ
minus_text minus = if minus then codes "-" else []

abbrev pub value_text : Value → List ℕ
value_text (value.Number minus digits) = minus_text minus ++ digits
value_text (value.Text text) = quoted_text text

-- a field, a relation and a value
unfoldable pub condition_text : Condition → List ℕ
condition_text condition =
    place_text condition.field ++ codes " " ++ relation_text condition.relation ++ codes " "
    ++ value_text condition.value
