-- What a line loses: all of it, or operands after a text or after the last column for them (own).
use Rattle.std.specs.Prelude.{ℕ, ◌+◌, ◌==◌, Bool, false, not, ◌&&◌, if◌then◌else◌, List, [], ◌∷◌, drop, take}
use Rattle.std.specs.Prelude.{map, slice_index_or, Option, None, Some}
use Rattle.std.specs.List.{list_any}
use Rattle.autocoder_statements.specs.Constant.{is_at_sign}
use Rattle.autocoder_statements.specs.Heading.{is_system_line}
use Rattle.autocoder_statements.specs.Punctuation.{at_sign, blank}
use Rattle.autocoder_statements.specs.SourceLine.{lines_of}
use Rattle.autocoder_warnings.specs.declared.loss.Loss.{Loss}
use Rattle.autocoder_warnings.specs.declared.loss.Loss.TheVariants as losses

-- what a line has in columns 21 to 72
abbrev pub operand_columns : List ℕ → List ℕ
operand_columns line = take 52 (drop 20 line)

-- how many columns operands take that begin within two at signs or not: up to the first blank outside of them
abbrev pub operands_len : Bool → List ℕ → ℕ
operands_len is_quoted [] = 0
operands_len is_quoted (byte ∷ more) =
    if not is_quoted && (byte == blank) then 0
    else 1 + operands_len (if byte == at_sign then not is_quoted else is_quoted) more

-- a text among the operands, and an at sign in the remark after them
abbrev pub is_cut : List ℕ → Bool
is_cut columns =
    let n = operands_len false columns in
    list_any is_at_sign (take n columns) && list_any is_at_sign (drop n columns)

-- operands up to column 72, and something in column 73
abbrev pub goes_on : List ℕ → Bool
goes_on line =
    (operands_len false (operand_columns line) == 52)
    && not (slice_index_or line 71 blank == blank) && not (slice_index_or line 72 blank == blank)

-- what a line loses
abbrev pub loss_of : List ℕ → Option Loss
loss_of line =
    if is_system_line line then Some losses.Card
    else if goes_on line then Some losses.Column73
    else if is_cut (operand_columns line) then Some losses.Text
    else None

-- what each line of a source loses
abbrev pub losses_of : List ℕ → List (Option Loss)
losses_of source = map loss_of (lines_of source)
