-- Which columns of a line are at fault in a language (own).
use Rattle.std.specs.Prelude.{ℕ, Bool, ◌||◌, if◌then◌else◌, List, length, Option, None, Some, is_some}
use Rattle.std.specs.Prelude.{find}
use Rattle.std.specs.Option.{option_map, option_or}
use Rattle.autocoder_statements.specs.Flaw.{first_without, foreign_column, operation_flaw, without_first_blanks}
use Rattle.autocoder_statements.specs.OperandsAtFault.{flaw_with, operand_flaw, wide_operands_flaw}
use Rattle.autocoder_statements.specs.Heading.{is_job_line, has_wide_foreign_bytes}
use Rattle.autocoder_statements.specs.Language.{stays_plain}
use Rattle.autocoder_statements.specs.Mnemonic.{operation_of}
use Rattle.autocoder_statements.specs.Nearness.{is_near, near_mnemonic, word_in}
use Rattle.autocoder_statements.specs.SourceLine.{padded, columns_of, columns_in, is_graphic, is_printable}
use Rattle.autocoder_statements.specs.SourceLine.{has_foreign_bytes}
use Rattle.autocoder_statements.specs.WideColumns.{capitals, plus_signs}
use Rattle.autocoder_statements.specs.WideMnemonic.{AWideRow, form_by, wide_instructions, wide_row_of}
use Rattle.autocoder_statements.specs.WideOperation.{AWideOwnRow, wide_flaw_with, wide_operation_of, wide_operations}
use Rattle.autocoder_statements.specs.declared.flaw.Flaw.{Flaw}
use Rattle.autocoder_statements.specs.declared.flaw.OperationFlaw.{OperationFlaw}
use Rattle.autocoder_statements.specs.declared.flaw.OperationFlaw.TheVariants as operation_flaws
use Rattle.autocoder_statements.specs.declared.language.Language.{Language}
use Rattle.autocoder_statements.specs.declared.language.Language.TheVariants as languages
use Rattle.autocoder_statements.specs.declared.wide_operation.WideOperation.{WideOperation}

-- columns with capitals, and with plus signs too if they don't stay plain
unfoldable pub wider_columns : ℕ → List ℕ → List ℕ
wider_columns len columns = if stays_plain len columns then columns else plus_signs columns

-- the columns of a line as a language reads them
abbrev pub columns_in_language : Language → List ℕ → List ℕ
columns_in_language languages.Plain line = columns_of line
columns_in_language languages.Ibm line = wider_columns (length line) (capitals (columns_of line))

-- the first column that holds a byte that can't be there; in a heading more bytes can
abbrev pub wide_foreign_column : List ℕ → Option ℕ
wide_foreign_column columns =
    if is_job_line columns
    then option_or (first_without is_printable 1 (columns_in 1 5 columns))
    (option_or (first_without is_graphic 6 (columns_in 6 20 columns))
    (first_without is_printable 21 (columns_in 21 80 columns)))
    else foreign_column columns

abbrev pub foreign_column_in : Language → List ℕ → Option ℕ
foreign_column_in languages.Plain columns = foreign_column columns
foreign_column_in languages.Ibm columns = wide_foreign_column columns

abbrev pub has_foreign_bytes_in : Language → List ℕ → Bool
has_foreign_bytes_in languages.Plain columns = has_foreign_bytes columns
has_foreign_bytes_in languages.Ibm columns = has_wide_foreign_bytes columns

-- columns 16 to 20 hold an operation of the wider language
unfoldable pub is_wide_operation : List ℕ → Bool
is_wide_operation columns =
    is_some (wide_operation_of columns) || is_some (wide_row_of columns) || is_some (operation_of columns)

-- the first mnemonic of the wider table from which a word differs by no more than this many letters
abbrev pub near_wide_row : ℕ → List ℕ → Option (List ℕ)
near_wide_row letters word =
    option_map (λ (row : AWideRow). row.0)
    (find (λ (row : AWideRow). is_near letters word (word_in row.0)) wide_instructions)

-- the first of the assembler's own that the plain language hasn't
abbrev pub near_wide_own : ℕ → List ℕ → Option (List ℕ)
near_wide_own letters word =
    option_map (λ (row : AWideOwnRow). row.0)
    (find (λ (row : AWideOwnRow). is_near letters word (word_in row.0)) wide_operations)

abbrev pub near_wide_mnemonic : ℕ → List ℕ → Option (List ℕ)
near_wide_mnemonic letters word =
    option_or (near_wide_row letters word) (option_or (near_mnemonic letters word) (near_wide_own letters word))

-- the mnemonic that a word nearly is: the first that differs by one letter, or else by two
unfoldable pub nearest_wide_mnemonic : List ℕ → Option (List ℕ)
nearest_wide_mnemonic word = option_or (near_wide_mnemonic 1 word) (near_wide_mnemonic 2 word)

-- what is wrong with columns for an operation that hold none
abbrev pub wide_operation_flaw : List ℕ → OperationFlaw
wide_operation_flaw columns =
    let word = without_first_blanks columns in
    if is_wide_operation (padded 5 word) then operation_flaws.Displaced
    else operation_flaws.Unknown (nearest_wide_mnemonic (word_in word))

abbrev pub operation_flaw_in : Language → List ℕ → OperationFlaw
operation_flaw_in languages.Plain columns = operation_flaw columns
operation_flaw_in languages.Ibm columns = wide_operation_flaw columns

-- what is wrong with the operands of an instruction, by the form that they are read by, or of another operation
abbrev pub row_flaw : Option AWideRow → List ℕ → List ℕ → Option Flaw
row_flaw None operation columns = option_map (λ known. flaw_with languages.Ibm known columns) (operation_of operation)
row_flaw (Some row) operation columns = Some (wide_operands_flaw row.2 (form_by row columns) columns)

abbrev pub wide_flaw_by : Option WideOperation → List ℕ → List ℕ → Option Flaw
wide_flaw_by None operation columns = row_flaw (wide_row_of operation) operation columns
wide_flaw_by (Some known) operation columns = wide_flaw_with known columns

abbrev pub wide_flaw_of : List ℕ → List ℕ → Option Flaw
wide_flaw_of operation columns = wide_flaw_by (wide_operation_of operation) operation columns

abbrev pub operand_flaw_in : Language → List ℕ → Option Flaw
operand_flaw_in languages.Plain columns = operand_flaw columns
operand_flaw_in languages.Ibm columns = wide_flaw_of (columns_in 16 20 columns) (columns_in 21 72 columns)
