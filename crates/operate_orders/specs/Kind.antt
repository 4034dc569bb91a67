-- What the bytes of a part of a line have in common (own).
use Rattle.std.specs.Prelude.{ℕ, ◌==◌, nat_le, Bool, ◌&&◌, ◌||◌, not, is_some}
use Rattle.bcd_1401.specs.Digits.{is_digit}
use Rattle.console_text.specs.Words.{is_blank}
use Rattle.machine_notation.specs.Characters.{char_of}
use Rattle.operate_orders.specs.declared.parts.Kind.{Kind}
use Rattle.operate_orders.specs.declared.parts.Kind.TheVariants.{Blank, Before, BeforeSign, BeforeRelation, OfLine, Digit}
use Rattle.operate_orders.specs.declared.parts.Kind.TheVariants.{LetterOrDigit, Graphic}

-- the signs of adjustments and numbers
abbrev pub plus : ℕ
plus = 43

abbrev pub minus : ℕ
minus = 45

abbrev pub is_sign : ℕ → Bool
is_sign byte = byte == plus || byte == minus

-- the signs of relations
abbrev pub equals : ℕ
equals = 61

abbrev pub less : ℕ
less = 60

abbrev pub greater : ℕ
greater = 62

abbrev pub is_relation : ℕ → Bool
is_relation byte = byte == equals || byte == less || byte == greater

-- the bytes that a line may have: none below a blank, and neither 127 nor 255
abbrev pub is_of_line : ℕ → Bool
is_of_line byte = nat_le 32 byte && not (byte == 127) && not (byte == 255)

abbrev pub is_letter : ℕ → Bool
is_letter byte = nat_le 65 byte && nat_le byte 90

-- the kinds
abbrev pub is_of : Kind → ℕ → Bool
is_of Blank byte = is_blank byte
is_of (Before end) byte = not (byte == end)
is_of BeforeSign byte = not (is_sign byte)
is_of BeforeRelation byte = not (is_relation byte)
is_of OfLine byte = is_of_line byte
is_of Digit byte = is_digit byte
is_of LetterOrDigit byte = is_letter byte || is_digit byte
is_of Graphic byte = is_some (char_of byte)
