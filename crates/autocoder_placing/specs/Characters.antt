-- The characters of constants (Autocoder, "Literals", "DCW").
use Rattle.std.specs.Prelude.{ℕ, ◌-◌, ◌==◌, nat_lt, if◌then◌else◌, List, map, take, replicate, position, unwrap_or}
use Rattle.std.specs.Prelude.{slice_index, slice_set}
use Rattle.bcd_1401.specs.Character.{with_zone_of}
use Rattle.bcd_1401.specs.Graphic.{graphics}
use Rattle.autocoder_statements.specs.declared.constant.Text.{Text}
use Rattle.autocoder_statements.specs.declared.constant.Constant.{Constant}
use Rattle.autocoder_statements.specs.declared.constant.Constant.TheVariants as constants
use Rattle.autocoder_placing.specs.declared.characters.Characters.{Characters}

-- the character of a graphic
abbrev pub char_of : ℕ → ℕ
char_of graphic = unwrap_or (position (λ each. each == graphic) graphics) 0

-- a zone over the last character
abbrev pub over_units : ℕ → List ℕ → ℕ → List ℕ
over_units zone chars units = slice_set chars units (with_zone_of (slice_index chars units) zone)

abbrev pub unsigned : Text → Characters
unsigned text = record { codes = map char_of text.bytes; len = text.len }

-- digits with a sign, which is a zone over their units
abbrev pub with_sign : Text → ℕ → Characters
with_sign digits zone = record { codes = over_units zone (map char_of digits.bytes) (digits.len - 1); len = digits.len }

-- a plus sign is zone BA, and a minus sign zone B
abbrev pub characters_of : Constant → Characters
characters_of (constants.Text text) = unsigned text
characters_of (constants.Number digits) = unsigned digits
characters_of (constants.Plus digits) = with_sign digits 3
characters_of (constants.Minus digits) = with_sign digits 2
characters_of (constants.Blanks count) = record { codes = replicate 50 0; len = count }

-- the character with a code; one that is none counts as a blank, and no constant has one
abbrev pub char_with : ℕ → ℕ
char_with code = if nat_lt code 64 then code else 0

-- the list of them
abbrev pub codes_in : Characters → List ℕ
codes_in this = map char_with (take this.len this.codes)
