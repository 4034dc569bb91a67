-- Worked values: conditions on fields, given units first.
use Rattle.std.proofs.Common.{◌≡◌, ℕ, true, false, List, [], ◌∷◌, map, refl}
use Rattle.std.specs.Prelude.{codes}
use Rattle.bcd_1401.specs.Collation.{collation, orders}
use Rattle.bcd_1401.specs.Graphic.{graphics}
use Rattle.bcd_1401.specs.declared.cell.Cell.{Cell}
use Rattle.operate_orders.specs.declared.values.Relation.TheVariants as relation
use Rattle.operate_orders.specs.declared.values.Value.TheVariants as value
use Rattle.operate_program.specs.Comparison.{is_so, number_order, text_order}

abbrev cells : List ℕ → List Cell
cells codes = map (λ (code : ℕ). record { char = code; mark = false }) codes

-- 0000050!: a zero with B alone over it, 5, and zeros
abbrev less_500 : List Cell
less_500 = cells (42 ∷ 10 ∷ 5 ∷ 10 ∷ [])

it_is_minus_500 : is_so relation.Equal (value.Number true (codes "500")) less_500 ≡ true
unfolding number_order
it_is_minus_500 = refl

it_isnt_500 : is_so relation.Equal (value.Number false (codes "500")) less_500 ≡ false
unfolding number_order
it_isnt_500 = refl

it_is_less_than_minus_99 : is_so relation.Less (value.Number true (codes "99")) less_500 ≡ true
unfolding number_order
it_is_less_than_minus_99 = refl

-- 0!
minus_zero_is_zero : is_so relation.Equal (value.Number false (codes "0")) (cells (42 ∷ 10 ∷ [])) ≡ true
unfolding number_order
minus_zero_is_zero = refl

-- HI and two blanks
blanks_follow_a_text : is_so relation.Equal (value.Text (codes "HI")) (cells (0 ∷ 0 ∷ 57 ∷ 56 ∷ [])) ≡ true
unfolding text_order orders collation graphics
blanks_follow_a_text = refl

h_comes_before_i : is_so relation.Less (value.Text (codes "I")) (cells (57 ∷ 56 ∷ [])) ≡ true
unfolding text_order orders collation graphics
h_comes_before_i = refl

-- AB: a zone over the high place
ab_is_no_number : map (λ relation. is_so relation (value.Number false (codes "12")) (cells (50 ∷ 49 ∷ [])))
    (relation.Equal ∷ relation.Unequal ∷ relation.Greater ∷ relation.AtLeast ∷ []) ≡ false ∷ false ∷ false ∷ false ∷ []
ab_is_no_number = refl

-- a blank before a digit
a_blank_is_no_digit : is_so relation.Equal (value.Number false (codes "2")) (cells (2 ∷ 0 ∷ [])) ≡ false
a_blank_is_no_digit = refl
