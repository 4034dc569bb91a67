-- Up to eight operands of a kind (own).
use Rattle.std.specs.Prelude.{ℕ, zero, suc, ◌==◌, if◌then◌else◌, List, [], ◌∷◌, length, Option, None, Some, Result, Ok, Err}
use Rattle.operate_orders.specs.Operands.{◌>>=◌, ended, place_operand, count_operand}
use Rattle.operate_orders.specs.Parts.{operand_in, beyond_operand, is_end}
use Rattle.operate_orders.specs.declared.fault.OrderFault.{OrderFault}
use Rattle.operate_orders.specs.declared.fault.OrderFault.TheVariants as fault
use Rattle.operate_orders.specs.declared.places.Place.{Place}
use Rattle.operate_orders.specs.declared.words.Keyword.{Keyword}
use Rattle.operate_orders.specs.declared.words.Keyword.TheVariants as keyword

-- so many operands, and nothing after them; where there is no word, none
unfoldable pub listed : {A : Type 0} → Keyword → (List ℕ → Result (Option A) OrderFault) → ℕ → List ℕ
    → Result (List (Option A)) OrderFault
listed keyword one zero rest = ended keyword rest []
listed keyword one (suc n) rest = do
  first ← one (operand_in rest)
  more ← listed keyword one n (beyond_operand rest)
  Ok (first ∷ more)

-- a field, or none where there is no word
unfoldable pub field : List ℕ → Result (Option Place) OrderFault
field word = if length word == 0 then Ok None else do
  place ← place_operand keyword.Print word
  Ok (Some place)

-- the most of them that a line has
abbrev pub most_listed : ℕ
most_listed = 8

unfoldable pub fields_in : List ℕ → Result (List (Option Place)) OrderFault
fields_in rest = listed keyword.Print field most_listed rest

-- one field or more
abbrev pub some_fields_in : List ℕ → Result (List (Option Place)) OrderFault
some_fields_in rest = if is_end rest then Err (fault.Usage keyword.Print) else fields_in rest

unfoldable pub numbers_in : List ℕ → Result (List (Option ℕ)) OrderFault
numbers_in rest = listed keyword.Delete count_operand most_listed rest
