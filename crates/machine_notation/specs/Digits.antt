-- Numbers in decimal digits (own).
use Rattle.std.specs.Prelude.{ℕ, ◌-◌, if◌then◌else◌, List, ◌++◌, length, replicate, Option, None, Some}
use Rattle.std.specs.Fmt.{decimal}
use Rattle.std.specs.List.{list_all}
use Rattle.bcd_1401.specs.Digits.{is_digit, value_of}

-- a number in decimal digits, with leading zeros up to the width; one that is wider has all its digits
abbrev pub digits_in : ℕ → ℕ → List ℕ
digits_in width number = replicate (width - length (decimal number)) 48 ++ decimal number

-- a number that is all of the text
unfoldable pub number_in : List ℕ → Option ℕ
number_in digits = if list_all is_digit digits then Some (value_of digits) else None

-- the most digits that are read: any nine are less than 2 ^ 32
abbrev pub most_read : ℕ
most_read = 9
