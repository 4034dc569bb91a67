-- JOB and ENT, by which a source in the wider language is headed, and cards for the system that assembled it (Autocoder,
-- "Assembler Control"; JOB's bytes own, and so is which cards are read as comments).
use Rattle.std.specs.Prelude.{ℕ, nat_lt, Bool, not, ◌&&◌, ◌||◌, if◌then◌else◌, List, [], ◌∷◌, codes}
use Rattle.std.specs.List.{list_all, list_any}
use Rattle.std.specs.Str.{bytes_eq, str_eq_ignore_ascii_case}
use Rattle.autocoder_statements.specs.Nearness.{word_in}
use Rattle.autocoder_statements.specs.SourceLine.{columns_of, columns_in, is_comment, is_graphic, is_printable}
use Rattle.autocoder_statements.specs.SourceLine.{has_foreign_bytes}
use Rattle.autocoder_statements.specs.declared.statement.LineCheck.{LineCheck}
use Rattle.autocoder_statements.specs.declared.statement.LineCheck.TheVariants as bytes

-- columns 16 to 20 ask for a heading
abbrev pub is_job : List ℕ → Bool
is_job operation = bytes_eq operation (codes "JOB  ")

-- the operand of ENT names the assembler that there is
abbrev pub names_autocoder : List ℕ → Bool
names_autocoder columns = bytes_eq (word_in columns) (codes "AUTOCODER")

abbrev pub is_job_line : List ℕ → Bool
is_job_line columns = not (is_comment columns) && is_job (columns_in 16 20 columns)

-- a byte can't stand in its column: JOB may have any bytes 32 to 126 outside of columns 6 to 20
abbrev pub has_wide_foreign_bytes : List ℕ → Bool
has_wide_foreign_bytes columns =
    if is_job_line columns
    then not (list_all is_printable (columns_in 1 5 columns))
    || not (list_all is_graphic (columns_in 6 20 columns))
    || not (list_all is_printable (columns_in 21 80 columns))
    else has_foreign_bytes columns

-- whether a line of this length with these columns can be a line
abbrev pub wide_bytes_with : ℕ → List ℕ → LineCheck
wide_bytes_with len columns =
    if nat_lt 80 len then bytes.Long else if has_wide_foreign_bytes columns then bytes.Foreign else bytes.Good

-- columns 16 to 20 of cards for the system: AUTOCODER RUN, the assignment of units, remarks for the operator, and the
-- librarian's
unfoldable pub system_cards : List (List ℕ)
system_cards =
    codes "RUN  " ∷ codes "ASGN " ∷ codes "LOG  " ∷ codes "NOTE " ∷ codes "HEADR" ∷ codes "INSER" ∷ codes "DELET" ∷ []

abbrev pub is_system_card : List ℕ → Bool
is_system_card operation = list_any (λ card. bytes_eq card operation) system_cards

-- a card for the system is read as a comment is
abbrev pub is_wide_comment : List ℕ → Bool
is_wide_comment columns = is_comment columns || is_system_card (columns_in 16 20 columns)

-- whether a line, which is no comment, is read as one in the wider language: there are small letters too
abbrev pub is_system_line : List ℕ → Bool
is_system_line line =
    not (is_comment (columns_of line))
    && list_any (λ card. str_eq_ignore_ascii_case (columns_in 16 20 (columns_of line)) card) system_cards
