-- Numbers in what a request says (own).
use Rattle.std.specs.Prelude.{ℕ, nat_le, ◌&&◌, if◌then◌else◌, List, length, Option, None}
use Rattle.machine_notation.specs.Digits.{most_read, number_in}

-- a number is one to nine digits
unfoldable pub number_of : List ℕ → Option ℕ
number_of text = if nat_le 1 (length text) && nat_le (length text) most_read then number_in text else None
