-- Which columns of a line are at fault (own).
use Rattle.std.specs.Prelude.{ℕ, ◌+◌, ◌-◌, nat_lt, Bool, false, if◌then◌else◌, List, length}
use Rattle.std.specs.Prelude.{drop, slice_index, Option, None, Some, is_some}
use Rattle.std.specs.Option.{option_or}
use Rattle.std.specs.List.{prefix_len, suffix_len, list_all}
use Rattle.autocoder_statements.specs.Address.{base_len}
use Rattle.autocoder_statements.specs.Mnemonic.{operation_of}
use Rattle.autocoder_statements.specs.Nearness.{nearest_mnemonic, word_in}
use Rattle.autocoder_statements.specs.Operands.{operand_len, beyond_operand}
use Rattle.autocoder_statements.specs.SourceLine.{padded, columns_in, is_blank, is_comment, is_graphic, is_printable}
use Rattle.autocoder_statements.specs.Literal.{is_sign}
use Rattle.autocoder_statements.specs.declared.flaw.OperationFlaw.{OperationFlaw}
use Rattle.autocoder_statements.specs.declared.flaw.OperationFlaw.TheVariants as operation_flaws
use Rattle.autocoder_statements.specs.declared.flaw.Stretch.{Stretch}

-- the columns from one on
abbrev pub stretch : ℕ → ℕ → Stretch
stretch column length = record { column = column; length = length }

-- what columns hold that begin with this one, without the blanks around it
abbrev pub filled : ℕ → List ℕ → Stretch
filled column columns =
    if list_all is_blank columns then stretch column 0
    else stretch (column + prefix_len is_blank columns)
    (length columns - suffix_len is_blank columns - prefix_len is_blank columns)

-- the first of these columns, of which the first has this number, whose byte doesn't pass the test
abbrev pub first_without : (ℕ → Bool) → ℕ → List ℕ → Option ℕ
first_without test column columns =
    if nat_lt (prefix_len test columns) (length columns) then Some (column + prefix_len test columns) else None

-- the first column that holds a byte that can't be there
abbrev pub foreign_column : List ℕ → Option ℕ
foreign_column columns =
    if is_comment columns then first_without is_printable 1 columns
    else option_or (first_without is_printable 1 (columns_in 1 5 columns))
    (option_or (first_without is_graphic 6 (columns_in 6 72 columns))
    (first_without is_printable 73 (columns_in 73 80 columns)))

-- a sign before an address
abbrev pub sign_len : List ℕ → ℕ
sign_len columns = if is_sign (slice_index columns 0) then 1 else 0

-- the symbol or the number that the first operand begins with, after the sign of a constant or a literal
abbrev pub first_base : List ℕ → Stretch
first_base columns = stretch (21 + sign_len columns) (base_len (drop (sign_len columns) columns))

-- that of the second
abbrev pub second_base : List ℕ → Stretch
second_base columns =
    let second = drop 1 (beyond_operand columns) in
    stretch (21 + (operand_len false columns + 1) + sign_len second) (base_len (drop (sign_len second) second))

-- what columns hold from the first that isn't blank on
abbrev pub without_first_blanks : List ℕ → List ℕ
without_first_blanks columns = drop (prefix_len is_blank columns) columns

-- what is wrong with columns for an operation that hold none: they hold one that begins too far right, or a word that
-- is none, and may nearly be one
abbrev pub operation_flaw : List ℕ → OperationFlaw
operation_flaw columns =
    let word = without_first_blanks columns in
    if is_some (operation_of (padded 5 word)) then operation_flaws.Displaced
    else operation_flaws.Unknown (nearest_mnemonic (word_in word))
