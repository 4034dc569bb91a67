-- Digits of cells, units first, and the number that they write.
use Rattle.std.proofs.Common.{◌≡◌, ℕ, ◌+◌, ◌*◌, ◌==◌, Bool, true, false, List, [], ◌∷◌, ◌++◌}
use Rattle.std.proofs.Common.{refl, ◌∙◌, ap, arith, fold}
use Rattle.std.specs.Prelude.{if◌then◌else◌}
use Rattle.std.proofs.lemmas.Bool.{eqb-true}
use Rattle.bcd_1401.specs.Character.{digit_of}
use Rattle.bcd_1401.specs.Digits.{value_of, with_digit}
use Rattle.bcd_1401.specs.declared.cell.Cell.{Cell}
use Rattle.fields_1401.specs.Number.{magnitude_of}
use Rattle.operate_views.specs.NumberText.{figures, or_zero, with_figure}

-- a digit after others, in numbers
pub value_of_push : (digits : List ℕ) (digit : ℕ) → value_of (digits ++ digit ∷ []) ≡ with_digit (value_of digits) digit
value_of_push digits digit = from 0 digits
  where
    from : (start : ℕ) (ds : List ℕ)
        → fold with_digit start (ds ++ digit ∷ []) ≡ with_digit (fold with_digit start ds) digit
    from start [] = refl
    from start (d ∷ ds) = from (with_digit start d) ds

value_of_figure : (front : List ℕ) (digit : ℕ) → value_of (with_figure front digit) ≡ digit + 10 * value_of front
value_of_figure [] digit = from (digit == 0) refl
  where
    from : (b : Bool) → (digit == 0) ≡ b
        → value_of (if b then [] else (48 + digit) ∷ []) ≡ digit + 10 * 0
    from true e = omega (arith, eqb-true digit 0 e)
    from false e = omega arith
value_of_figure (first ∷ more) digit = value_of_push (first ∷ more) (48 + digit) ∙ omega arith

-- the digits write the magnitude
pub value_of_figures : (cells : List Cell) → value_of (figures cells) ≡ magnitude_of cells
value_of_figures [] = refl
value_of_figures (cell ∷ cells) =
    value_of_figure (figures cells) (digit_of cell.char)
    ∙ ap (λ n. digit_of cell.char + 10 * n) (value_of_figures cells)

or_zero_value : (front : List ℕ) → value_of (or_zero front) ≡ value_of front
or_zero_value [] = refl
or_zero_value (first ∷ more) = refl

pub value_of_magnitude : (cells : List Cell) → value_of (or_zero (figures cells)) ≡ magnitude_of cells
value_of_magnitude cells = or_zero_value (figures cells) ∙ value_of_figures cells
