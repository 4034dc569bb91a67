-- Constants and literals (Autocoder, "Literals", "DCW").
use Rattle.std.specs.Prelude.{ℕ, ◌+◌, ◌==◌, nat_lt, Bool, not, ◌||◌, if◌then◌else◌, List, [], ◌∷◌, length, take, Option}
use Rattle.std.specs.Prelude.{None, Some}
use Rattle.std.specs.Option.{option_map}
use Rattle.std.specs.List.{position_or_len, list_all}
use Rattle.autocoder_statements.specs.SourceLine.{padded}
use Rattle.bcd_1401.specs.Digits.{is_digit}
use Rattle.autocoder_statements.specs.Numbers.{number_between}
use Rattle.autocoder_statements.specs.Punctuation.{at_sign, number_sign, plus_sign, minus_sign}
use Rattle.autocoder_statements.specs.declared.constant.Text.{Text}
use Rattle.autocoder_statements.specs.declared.constant.Constant.{Constant}
use Rattle.autocoder_statements.specs.declared.constant.Constant.TheVariants as constants

abbrev pub is_at_sign : ℕ → Bool
is_at_sign byte = byte == at_sign

-- how a text of at most 50 graphics is held
abbrev pub text_of : List ℕ → Text
text_of text = record { bytes = padded 50 text; len = length text }

-- the graphics of a text
abbrev pub bytes_of : Text → List ℕ
bytes_of text = take text.len text.bytes

-- what follows an at sign, up to the one that ends the word: one to fifty graphics
abbrev pub quoted : List ℕ → Option Text
quoted text =
    let n = position_or_len is_at_sign text in
    if (n == 0) || nat_lt 50 n || not (n + 1 == length text) then None else Some (text_of (take n text))

-- one to twenty digits
abbrev pub digits_in : List ℕ → Option Text
digits_in word =
    if (length word == 0) || nat_lt 20 (length word) || not (list_all is_digit word) then None else Some (text_of word)

-- the constant that a word is, by its first byte
abbrev pub constant_of : List ℕ → Option Constant
constant_of [] = None
constant_of (byte ∷ more) =
    if byte == at_sign then option_map constants.Text (quoted more)
    else if byte == plus_sign then option_map constants.Plus (digits_in more)
    else if byte == minus_sign then option_map constants.Minus (digits_in more)
    else if byte == number_sign then option_map constants.Blanks (number_between 1 50 more)
    else option_map constants.Number (digits_in (byte ∷ more))

-- how many graphics a constant has
abbrev pub graphics_in : Constant → ℕ
graphics_in (constants.Text text) = text.len
graphics_in (constants.Number text) = text.len
graphics_in (constants.Plus text) = text.len
graphics_in (constants.Minus text) = text.len
graphics_in (constants.Blanks count) = count
