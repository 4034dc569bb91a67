-- Characters by their graphics (own).
use Rattle.std.specs.Prelude.{ℕ, ◌-◌, ◌==◌, List, length, map, take, position, slice_index, Option}
use Rattle.std.specs.List.{suffix_len}
use Rattle.bcd_1401.specs.Graphic.{graphics}

-- the code of a blank
abbrev pub blank_code : ℕ
blank_code = 0

-- the character with this graphic
abbrev pub char_of : ℕ → Option ℕ
char_of byte = position (λ each. each == byte) graphics

-- the characters that a text spells, one for each byte; without a graphic there is no character
unfoldable pub chars_of : List ℕ → List (Option ℕ)
chars_of text = map char_of text

-- characters by their graphics
unfoldable pub graphics_of : List ℕ → List ℕ
graphics_of chars = map (λ char. slice_index graphics char) chars

-- characters without the blanks at their end
unfoldable pub trimmed : List ℕ → List ℕ
trimmed chars = take (length chars - suffix_len (λ char. char == blank_code) chars) chars
