-- The numbers of operands (Autocoder, "Operand").
use Rattle.std.specs.Prelude.{ℕ, nat_le, nat_lt, Bool, ◌&&◌, if◌then◌else◌, List, length, Option, None, Some}
use Rattle.std.specs.List.{list_all}
use Rattle.bcd_1401.specs.Digits.{is_digit, value_of}

-- a word of digits alone, however many
abbrev pub is_number : List ℕ → Bool
is_number word = nat_lt 0 (length word) && list_all is_digit word

-- the number that a word of digits writes, if it is between two bounds
abbrev pub number_between : ℕ → ℕ → List ℕ → Option ℕ
number_between least most word =
    if is_number word && nat_le (value_of word) most && nat_le least (value_of word) then Some (value_of word) else None

-- the greatest number of five digits
abbrev pub greatest_number : ℕ
greatest_number = 99999

-- the numbers of addresses have one to five digits
abbrev pub short_number : List ℕ → Option ℕ
short_number word = if nat_lt 5 (length word) then None else number_between 0 greatest_number word
