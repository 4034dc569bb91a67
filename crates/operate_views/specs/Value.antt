-- What is put into a field, which keeps its places and its word marks (own: the zone over the units is that of a sign
-- in a result, and there is none without a sign; a text begins at the high place, and blanks follow it).
use Rattle.std.specs.Prelude.{◌≡◌, ℕ, ◌-◌, ◌<◌, Bool, List, [], ◌∷◌, map, reverse, Option, None, Some}
use Rattle.bcd_1401.specs.Character.{digit_under}
use Rattle.bcd_1401.specs.declared.cell.Cell.{Cell}
use Rattle.fields_1401.specs.Number.{sign_zone}
use Rattle.fields_1401.specs.declared.sign.Sign.{Sign}
use Rattle.fields_1401.specs.declared.sign.Sign.TheVariants.{Plus}
use Rattle.operate_views.specs.declared.fault.ValueFault.{ValueFault}
use Rattle.operate_views.specs.declared.fault.ValueFault.TheVariants.{Characters, Digits, Memory}

-- another character; the word mark stays
abbrev pub with_code : ℕ → Cell → Cell
with_code code cell = record { char = code; mark = cell.mark }

-- the zone over the units
abbrev pub zone_under : Option Sign → ℕ
zone_under None = 0
zone_under (Some sign) = sign_zone sign

-- the sign that a number has
abbrev pub sign_meant : Option Sign → Sign
sign_meant None = Plus
sign_meant (Some sign) = sign

-- digits put into cells, both units first, under a zone over the units; zeros where there are no more digits
abbrev pub filled : ℕ → List ℕ → List Cell → List Cell
filled zone digits [] = []
filled zone [] (cell ∷ cells) = with_code (digit_under zone 0) cell ∷ filled 0 [] cells
filled zone (digit ∷ digits) (cell ∷ cells) = with_code (digit_under zone (digit - 48)) cell ∷ filled 0 digits cells

-- the cells of a field, units first, with the number that these digits write, highest first
abbrev pub with_number : Option Sign → List ℕ → List Cell → List Cell
with_number sign digits cells = filled (zone_under sign) (reverse digits) cells

-- characters put into cells, both from the left; blanks where there are no more characters
abbrev pub lettered : List ℕ → List Cell → List Cell
lettered chars [] = []
lettered [] (cell ∷ cells) = with_code 0 cell ∷ lettered [] cells
lettered (char ∷ chars) (cell ∷ cells) = with_code char cell ∷ lettered chars cells

-- the word marks of cells
abbrev pub marks_of : List Cell → List Bool
marks_of cells = map (λ (cell : Cell). cell.mark) cells

-- the fault is so: a value of this many digits or characters doesn't fit
abbrev pub IsTooLong : ℕ → ℕ → ValueFault → Type 0
IsTooLong places given (Digits field number) = (field ≡ places) × (number ≡ given) × (places < given)
IsTooLong places given (Characters field text) = (field ≡ places) × (text ≡ given) × (places < given)
IsTooLong places given Memory = Unit {0}
