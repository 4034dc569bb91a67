-- Labels and symbols (Autocoder, "Label").
use Rattle.std.specs.Prelude.{ℕ, ◌==◌, nat_le, Bool, true, not, ◌&&◌, ◌||◌, if◌then◌else◌, List, length, take, drop}
use Rattle.std.specs.Prelude.{slice_index, Option, None, Some, is_some, codes}
use Rattle.std.specs.List.{position_or_len, list_all}
use Rattle.std.specs.Str.{bytes_eq}
use Rattle.bcd_1401.specs.Digits.{is_digit}
use Rattle.autocoder_statements.specs.Numbers.{short_number}
use Rattle.autocoder_statements.specs.SourceLine.{padded, is_blank}
use Rattle.autocoder_statements.specs.declared.label.Label.{Label}
use Rattle.autocoder_statements.specs.declared.label.LabelField.{LabelField}
use Rattle.autocoder_statements.specs.declared.label.LabelField.TheVariants as labels
use Rattle.autocoder_statements.specs.declared.language.Language.{Language}
use Rattle.autocoder_statements.specs.declared.language.Language.TheVariants as languages

abbrev pub is_letter : ℕ → Bool
is_letter byte = nat_le 65 byte && nat_le byte 90

abbrev pub is_letter_or_digit : ℕ → Bool
is_letter_or_digit byte = is_letter byte || is_digit byte

-- the index register that a word names
abbrev pub register_of : List ℕ → Option ℕ
register_of word =
    if bytes_eq word (codes "X1") then Some 1
    else if bytes_eq word (codes "X2") then Some 2
    else if bytes_eq word (codes "X3") then Some 3
    else None

-- the names of the index registers are no labels, but in the wider language
abbrev pub may_be_label : Language → List ℕ → Bool
may_be_label languages.Plain word = not (is_some (register_of word))
may_be_label languages.Ibm word = true

-- a letter and up to five letters or digits
abbrev pub is_label : Language → List ℕ → Bool
is_label language word =
    nat_le (length word) 6 && may_be_label language word && is_letter (slice_index word 0)
    && list_all is_letter_or_digit word

-- the label that a word is
abbrev pub label_of : Language → List ℕ → Option Label
label_of language word = if is_label language word then Some (record { text = padded 6 word }) else None

-- a word that should be a label
abbrev pub labelled : Option Label → LabelField
labelled None = labels.Malformed
labelled (Some label) = labels.Label label

-- what the columns for a label say: a label from the first of them on, or nothing
abbrev pub label_in : Language → List ℕ → LabelField
label_in language columns =
    let n = position_or_len is_blank columns in
    if not (list_all is_blank (drop n columns)) then labels.Malformed
    else if n == 0 then labels.Absent
    else labelled (label_of language (take n columns))

-- the place that the columns for a label say: a number from the first of them on
abbrev pub place_in : List ℕ → Option ℕ
place_in columns =
    let n = position_or_len is_blank columns in
    if list_all is_blank (drop n columns) then short_number (take n columns) else None
