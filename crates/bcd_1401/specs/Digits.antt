-- The ten digits as graphics, and the numbers that they write (own).
use Rattle.std.specs.Prelude.{ℕ, ◌+◌, ◌-◌, ◌*◌, nat_le, Bool, ◌&&◌, List, fold}

-- the digits 0 to 9 are the bytes 48 to 57
abbrev pub is_digit : ℕ → Bool
is_digit byte = nat_le 48 byte && nat_le byte 57

-- a digit after a number makes ten times the number and the digit
abbrev pub with_digit : ℕ → ℕ → ℕ
with_digit number digit = 10 * number + (digit - 48)

-- the number that digits write, highest first
abbrev pub value_of : List ℕ → ℕ
value_of digits = fold with_digit 0 digits
