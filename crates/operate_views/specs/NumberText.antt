-- A field as a number, in digits (own: what counts as a number, and its text).
use Rattle.std.specs.Prelude.{ℕ, ◌+◌, ◌==◌, ◌&&◌, Bool, false, List, [], ◌∷◌, ◌++◌, codes, if◌then◌else◌}
use Rattle.std.specs.List.{list_all}
use Rattle.bcd_1401.specs.Character.{digit_of, zone_of}
use Rattle.bcd_1401.specs.declared.cell.Cell.{Cell}
use Rattle.core_1401.specs.Address.{is_digit}
use Rattle.fields_1401.specs.Number.{sign_of}
use Rattle.fields_1401.specs.declared.sign.Sign.{Sign}
use Rattle.fields_1401.specs.declared.sign.Sign.TheVariants.{Plus, Minus}

-- a digit 0 to 9 without a zone
abbrev pub is_plain_digit : Cell → Bool
is_plain_digit cell = is_digit cell.char && (zone_of cell.char == 0)

-- whether cells, units first, are a number: digits 0 to 9, and a zone over the units alone
abbrev pub is_number : List Cell → Bool
is_number [] = false
is_number (units ∷ cells) = is_digit units.char && list_all is_plain_digit cells

-- a digit after others; a zero isn't written in front
abbrev pub with_figure : List ℕ → ℕ → List ℕ
with_figure [] digit = if digit == 0 then [] else (48 + digit) ∷ []
with_figure (figure ∷ figures) digit = (figure ∷ figures) ++ (48 + digit) ∷ []

-- the digits of the magnitude of cells, units first, without zeros in front; none of a zero
abbrev pub figures : List Cell → List ℕ
figures [] = []
figures (cell ∷ cells) = with_figure (figures cells) (digit_of cell.char)

-- a zero is one digit
abbrev pub or_zero : List ℕ → List ℕ
or_zero [] = codes "0"
or_zero (figure ∷ figures) = figure ∷ figures

abbrev pub sign_text : Sign → List ℕ
sign_text Plus = []
sign_text Minus = codes "-"

-- the number of cells, units first: a minus, and the digits
abbrev pub number_text : List Cell → List ℕ
number_text cells = sign_text (sign_of cells) ++ or_zero (figures cells)
