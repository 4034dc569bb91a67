-- The bytes by which operands are told from each other and from what they say (Autocoder, "Operand", "Literals").
use Rattle.std.specs.Prelude.{ℕ}
use Rattle.std.specs.Str.{byte}

abbrev pub blank : ℕ
blank = byte " "

abbrev pub comma : ℕ
comma = byte ","

abbrev pub asterisk : ℕ
asterisk = byte "*"

abbrev pub at_sign : ℕ
at_sign = byte "@"

abbrev pub number_sign : ℕ
number_sign = byte "#"

abbrev pub plus_sign : ℕ
plus_sign = byte "+"

abbrev pub minus_sign : ℕ
minus_sign = byte "-"

abbrev pub ampersand : ℕ
ampersand = byte "&"

abbrev pub percent_sign : ℕ
percent_sign = byte "%"

abbrev pub letter_x : ℕ
letter_x = byte "X"
