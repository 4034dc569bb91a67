-- The columns of a line as the wider language reads them (Autocoder, "Coding Sheet", "Operand"; small letters own).
use Rattle.std.specs.Prelude.{ℕ, ◌==◌, Bool, true, false, not, ◌&&◌, ◌||◌, if◌then◌else◌, List, [], ◌∷◌, ◌++◌, map}
use Rattle.std.specs.Prelude.{take, drop, codes}
use Rattle.std.specs.Char.{to_ascii_uppercase}
use Rattle.std.specs.Str.{bytes_eq}
use Rattle.autocoder_statements.specs.Punctuation.{ampersand, at_sign, blank, comma, plus_sign}
use Rattle.autocoder_statements.specs.SourceLine.{columns_in, is_comment}

-- small letters in columns 6 to 72 are capitals; a comment stays as it is
abbrev pub capitals : List ℕ → List ℕ
capitals columns =
    if is_comment columns then columns
    else take 5 columns ++ (map to_ascii_uppercase (columns_in 6 72 columns) ++ drop 72 columns)

-- a word ends at a comma or a blank
abbrev pub is_separator : ℕ → Bool
is_separator byte = (byte == comma) || (byte == blank)

-- or with the columns
abbrev pub is_word_end : List ℕ → Bool
is_word_end [] = true
is_word_end (byte ∷ more) = is_separator byte

-- a byte, and what follows it: outside of at signs an `&` is a plus sign, unless it is a word by itself
abbrev pub plus_sign_for : Bool → Bool → ℕ → List ℕ → ℕ
plus_sign_for is_quoted begins byte more =
    if (byte == ampersand) && not is_quoted && not (begins && is_word_end more) then plus_sign else byte

-- operands with plus signs for `&`, by whether they begin between at signs, and whether a word begins there
abbrev pub plus_signs_from : Bool → Bool → List ℕ → List ℕ
plus_signs_from is_quoted begins [] = []
plus_signs_from is_quoted begins (byte ∷ more) =
    plus_sign_for is_quoted begins byte more
    ∷ plus_signs_from (if byte == at_sign then not is_quoted else is_quoted) (not is_quoted && is_separator byte) more

-- columns 16 to 20 ask for a constant
abbrev pub is_constant_operation : List ℕ → Bool
is_constant_operation operation = bytes_eq (codes "DCW  ") operation || bytes_eq (codes "DC   ") operation

-- columns for operands begin with a text
abbrev pub begins_text : List ℕ → Bool
begins_text [] = false
begins_text (byte ∷ more) = byte == at_sign

-- columns hold a constant that begins as a text does
abbrev pub is_text_constant : List ℕ → Bool
is_text_constant columns =
    is_constant_operation (columns_in 16 20 columns) && begins_text (columns_in 21 72 columns)

-- the operands of a constant that is a text stay as they are
abbrev pub signed : Bool → List ℕ → List ℕ
signed is_text operands = if is_text then operands else plus_signs_from false true operands

-- an `&` of columns 21 to 72 may stand for a plus sign: both are the 12 punch
abbrev pub plus_signs : List ℕ → List ℕ
plus_signs columns =
    take 20 columns ++ (signed (is_text_constant columns) (columns_in 21 72 columns) ++ drop 72 columns)
