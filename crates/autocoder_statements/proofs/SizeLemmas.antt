-- CTL asks for a size that it has a digit for, or for none.
use Rattle.std.proofs.Common.{◌≡◌, ℕ, ◌<◌, ◌≤◌, ◌==◌, nat_le, Bool, true, false, cond, List, [], ◌∷◌, ◌++◌, length, map}
use Rattle.std.proofs.Common.{take, drop}
use Rattle.std.proofs.Common.{Option, Some, None, IfSome, refl, sym, ap, subst, ◌∙◌, slice_index, arith}
use Rattle.std.specs.Prelude.{codes}
use Rattle.std.specs.Char.{to_ascii_lowercase, to_ascii_uppercase}
use Rattle.std.specs.Option.{option_map}
use Rattle.std.specs.Str.{bytes_eq, str_eq_ignore_ascii_case, str_to_ascii_lowercase}
use Rattle.std.proofs.lemmas.Bool.{leb-false, leb-true, true≢false}
use Rattle.std.proofs.lemmas.Bool.Decides.{nat_tests}
use Rattle.std.proofs.lemmas.List.{length-append, length-replicate, length-take}
use Rattle.std.proofs.lemmas.Slice.Eq.{bytes_eq-Decides}
use Rattle.std.proofs.lemmas.Str.Ascii.{lowercase-uppercase}
use Rattle.autocoder_statements.specs.Context.{control_in, control_of, first_size, may_be_control, size_of, size_or}
use Rattle.autocoder_statements.specs.Control.{is_control_size, size_by}
use Rattle.autocoder_statements.specs.Heading.{is_wide_comment}
use Rattle.autocoder_statements.specs.Language.{line_in, stays_plain, wider_line}
use Rattle.autocoder_statements.specs.Literal.{signed_address}
use Rattle.autocoder_statements.specs.Mnemonic.{operation_of}
use Rattle.autocoder_statements.specs.Operands.{lone_operand, operand_in}
use Rattle.autocoder_statements.specs.SourceLine.{columns_of, columns_in, is_comment, lines_of}
use Rattle.autocoder_statements.specs.Statement.{body_by, line_with, statement_of}
use Rattle.autocoder_statements.specs.WideBody.{shared_body_by}
use Rattle.autocoder_statements.specs.WideColumns.{capitals, plus_signs}
use Rattle.autocoder_statements.specs.WideConstant.{address_or_none, blanks_or_else, constant_by, constant_or_address}
use Rattle.autocoder_statements.specs.WideConstant.{many_blanks, wide_constant_of}
use Rattle.autocoder_statements.specs.WideMnemonic.{AWideRow, wide_row_of}
use Rattle.autocoder_statements.specs.WideOperation.{AWideOwnRow, wide_operations, wide_operation_of}
use Rattle.autocoder_statements.specs.WideStatement.{instruction_or_else, wide_body_by, wide_line_with}
use Rattle.autocoder_statements.specs.WideStatement.{constant_place, wide_statement_by, wide_statement_of}
use Rattle.autocoder_statements.specs.declared.address.Address.{Address}
use Rattle.autocoder_statements.specs.declared.constant.Constant.{Constant}
use Rattle.autocoder_statements.specs.declared.language.Language.TheVariants as languages
use Rattle.autocoder_statements.specs.declared.mnemonic.Operation.{Operation}
use Rattle.autocoder_statements.specs.declared.mnemonic.Operation.TheVariants as operations
use Rattle.autocoder_statements.specs.declared.statement.SizeField.{SizeField}
use Rattle.autocoder_statements.specs.declared.statement.SizeField.TheVariants as sizes
use Rattle.autocoder_statements.specs.declared.wide_operation.WideOperation.{WideOperation}
use Rattle.autocoder_statements.specs.declared.wide_operation.WideOperation.TheVariants as own

-- there is no size, or it is one that CTL has a digit for
abbrev is_good_size : Option ℕ → Bool
is_good_size None = true
is_good_size (Some size) = is_control_size size

abbrev is_good : Option SizeField → Bool
is_good None = true
is_good (Some size) = is_good_size (size_of size)

by_digit : (blank one two three four five six : Bool) → is_good_size (size_of (cond blank sizes.Absent
    (cond one (sizes.Size 1400) (cond two (sizes.Size 2000) (cond three (sizes.Size 4000)
    (cond four (sizes.Size 8000) (cond five (sizes.Size 12000) (cond six (sizes.Size 16000) sizes.Malformed)))))))) ≡ true
by_digit true one two three four five six = refl
by_digit false true two three four five six = refl
by_digit false false true three four five six = refl
by_digit false false false true four five six = refl
by_digit false false false false true five six = refl
by_digit false false false false false true six = refl
by_digit false false false false false false true = refl
by_digit false false false false false false false = refl

of_column : (column : ℕ) → is_good_size (size_of (size_by column)) ≡ true
of_column column =
    by_digit (column == 32) (column == 49) (column == 50) (column == 51) (column == 52) (column == 53) (column == 54)

-- an operation that both languages have is no CTL
of_plain : (operation : Option Operation) (columns : List ℕ)
    → control_of (body_by operation columns) ≡ None
of_plain None columns = refl
of_plain (Some (operations.Instruction instruction)) columns = refl
of_plain (Some operations.MarkedConstant) columns = refl
of_plain (Some operations.Constant) columns = refl
of_plain (Some operations.Space) columns = refl
of_plain (Some operations.Areas) columns = refl
of_plain (Some operations.Field) columns = refl
of_plain (Some operations.Equate) columns = refl
of_plain (Some operations.Origin) columns = refl
of_plain (Some operations.Execute) columns = refl
of_plain (Some operations.End) columns = refl

of_constant : (is_marked : Bool) (constant : Option Constant) (address : Option Address) (columns : List ℕ)
    → control_of (constant_by is_marked constant) ≡ None
    × control_of (address_or_none is_marked address columns) ≡ None
of_constant true constant None columns = (refl, refl)
of_constant false constant None columns = (refl, refl)
of_constant true constant (Some address) columns = (refl, refl)
of_constant false constant (Some address) columns = (refl, refl)

of_either : (is_marked : Bool) (constant : Option Constant) (columns : List ℕ)
    → control_of (constant_or_address is_marked constant columns) ≡ None
of_either is_marked (Some constant) columns = (of_constant is_marked (Some constant) None columns).0
of_either is_marked None columns = (of_constant is_marked None (signed_address (operand_in columns)) columns).1

of_blanks : (is_marked : Bool) (blanks : Option ℕ) (columns : List ℕ)
    → control_of (blanks_or_else is_marked blanks columns) ≡ None
of_blanks true (Some places) columns = refl
of_blanks false (Some places) columns = refl
of_blanks is_marked None columns = of_either is_marked (wide_constant_of columns) columns

of_shared : (operation : Option Operation) (columns : List ℕ)
    → control_of (shared_body_by operation columns) ≡ None
of_shared None columns = refl
of_shared (Some (operations.Instruction instruction)) columns = refl
of_shared (Some operations.MarkedConstant) columns = of_blanks true (many_blanks (lone_operand columns)) columns
of_shared (Some operations.Constant) columns = of_blanks false (many_blanks (lone_operand columns)) columns
of_shared (Some operations.Space) columns = refl
of_shared (Some operations.Areas) columns = refl
of_shared (Some operations.Field) columns = refl
of_shared (Some operations.Equate) columns = refl
of_shared (Some operations.Origin) columns = refl
of_shared (Some operations.Execute) columns = refl
of_shared (Some operations.End) columns = refl

of_row : (row : Option AWideRow) (operation columns : List ℕ)
    → control_of (instruction_or_else row operation columns) ≡ None
of_row None operation columns = of_shared (operation_of operation) columns
of_row (Some row) operation columns = refl

-- an operation of the assembler itself but CTL, or another
abbrev is_no_control : Option WideOperation → Bool
is_no_control None = true
is_no_control (Some own.Heading) = true
is_no_control (Some own.Assembler) = true
is_no_control (Some own.Control) = false
is_no_control (Some own.Suffix) = true
is_no_control (Some own.Transfer) = true
is_no_control (Some own.Chain) = true
is_no_control (Some own.Address) = true
is_no_control (Some own.LiteralOrigin) = true

good_none : (control : Option SizeField) → control ≡ None → is_good control ≡ true
good_none control none = rw none refl

of_own : (known : Option WideOperation) (operation columns : List ℕ)
    → (is_no_control known ≡ true → control_of (wide_body_by known operation columns) ≡ None)
    × is_good (control_of (wide_body_by known operation columns)) ≡ true
of_own None operation columns =
    let none = of_row (wide_row_of operation) operation columns in
    (λ _. none, good_none (control_of (instruction_or_else (wide_row_of operation) operation columns)) none)
of_own (Some own.Heading) operation columns = (λ _. refl, refl)
of_own (Some own.Assembler) operation columns = (λ _. refl, refl)
of_own (Some own.Control) operation columns =
    (λ other. absurd (true≢false (sym other)), of_column (slice_index columns 1))
of_own (Some own.Suffix) operation columns = (λ _. refl, refl)
of_own (Some own.Transfer) operation columns = (λ _. refl, refl)
of_own (Some own.Chain) operation columns = (λ _. refl, refl)
of_own (Some own.Address) operation columns = (λ _. refl, refl)
of_own (Some own.LiteralOrigin) operation columns = (λ _. refl, refl)

of_plain_line : (len : ℕ) (columns : List ℕ) → control_in (line_with len columns).statement ≡ None
of_plain_line len columns = by (is_comment columns)
  where
    by : (b : Bool) → control_in (cond b None (Some (statement_of columns))) ≡ None
    by true = refl
    by false = of_plain (operation_of (columns_in 16 20 columns)) (columns_in 21 72 columns)

abbrev has_no_control : List ℕ → Bool
has_no_control columns = is_no_control (wide_operation_of (columns_in 16 20 columns))

of_statement : (columns : List ℕ) (place : Option ℕ)
    → (has_no_control columns ≡ true → control_in (Some (wide_statement_by place columns)) ≡ None)
    × is_good (control_in (Some (wide_statement_by place columns))) ≡ true
of_statement columns None =
    of_own (wide_operation_of (columns_in 16 20 columns)) (columns_in 16 20 columns) (columns_in 21 72 columns)
of_statement columns (Some last) = (λ _. refl, refl)

of_wide_line : (len : ℕ) (columns : List ℕ)
    → (has_no_control columns ≡ true → control_in (wide_line_with len columns).statement ≡ None)
    × is_good (control_in (wide_line_with len columns).statement) ≡ true
unfolding wide_line_with
of_wide_line len columns = by (is_wide_comment columns)
  where
    by : (b : Bool)
        → (has_no_control columns ≡ true → control_in (cond b None (Some (wide_statement_of columns))) ≡ None)
        × is_good (control_in (cond b None (Some (wide_statement_of columns)))) ≡ true
    by true = (λ _. refl, refl)
    by false = of_statement columns (constant_place columns)

of_columns : (len : ℕ) (columns : List ℕ)
    → (has_no_control (plus_signs columns) ≡ true → control_in (wider_line len columns).statement ≡ None)
    × is_good (control_in (wider_line len columns).statement) ≡ true
unfolding wider_line
of_columns len columns = by (stays_plain len columns)
  where
    by : (b : Bool)
        → (has_no_control (plus_signs columns) ≡ true
        → control_in (cond b (line_with len columns) (wide_line_with len (plus_signs columns))).statement ≡ None)
        × is_good (control_in (cond b (line_with len columns) (wide_line_with len (plus_signs columns))).statement) ≡ true
    by true =
        let none = of_plain_line len columns in (λ _. none, good_none (control_in (line_with len columns).statement) none)
    by false = of_wide_line len (plus_signs columns)

of_lines : (texts : List (List ℕ)) → is_good_size (first_size (map (line_in languages.Ibm) texts)) ≡ true
of_lines [] = refl
of_lines (text ∷ texts) =
    by (control_in (line_in languages.Ibm text).statement) (of_columns (length text) (capitals (columns_of text))).1
    (first_size (map (line_in languages.Ibm) texts)) (of_lines texts)
  where
    by : (first : Option SizeField) → is_good first ≡ true → (later : Option ℕ) → is_good_size later ≡ true
        → is_good_size (size_or first later) ≡ true
    by None good later rest = rest
    by (Some size) good later rest = good

-- the size that a source asks for is one that CTL has a digit for
pub asked_size : (source : List ℕ)
    → IfSome (first_size (map (line_in languages.Ibm) (lines_of source))) (λ size. is_control_size size ≡ true)
asked_size source = by (first_size (map (line_in languages.Ibm) (lines_of source))) (of_lines (lines_of source))
  where
    by : (asked : Option ℕ) → is_good_size asked ≡ true → IfSome asked (λ size. is_control_size size ≡ true)
    by None good = tt
    by (Some size) good = good

-- columns 16 to 20 that aren't those of CTL ask for another operation, or none
other_columns : (operation : List ℕ) → bytes_eq (codes "CTL  ") operation ≡ false
    → is_no_control (wide_operation_of operation) ≡ true
unfolding wide_operations
other_columns operation other =
    rw other
    (by (bytes_eq (codes "JOB  ") operation) (bytes_eq (codes "ENT  ") operation) (bytes_eq (codes "SFX  ") operation)
    (bytes_eq (codes "XFR  ") operation) (bytes_eq (codes "CHAIN") operation) (bytes_eq (codes "DSA  ") operation)
    (bytes_eq (codes "LTORG") operation))
  where
    by : (job ent sfx xfr chain dsa ltorg : Bool) → is_no_control (option_map (λ (row : AWideOwnRow). row.1)
        (cond job (Some (codes "JOB  ", own.Heading)) (cond ent (Some (codes "ENT  ", own.Assembler))
        (cond sfx (Some (codes "SFX  ", own.Suffix)) (cond xfr (Some (codes "XFR  ", own.Transfer))
        (cond chain (Some (codes "CHAIN", own.Chain)) (cond dsa (Some (codes "DSA  ", own.Address))
        (cond ltorg (Some (codes "LTORG", own.LiteralOrigin)) None)))))))) ≡ true
    by true ent sfx xfr chain dsa ltorg = refl
    by false true sfx xfr chain dsa ltorg = refl
    by false false true xfr chain dsa ltorg = refl
    by false false false true chain dsa ltorg = refl
    by false false false false true dsa ltorg = refl
    by false false false false false true ltorg = refl
    by false false false false false false true = refl
    by false false false false false false false = refl

-- a text is the same as itself and as its capitals, but for the size of letters
alike : (text : List ℕ) → (str_eq_ignore_ascii_case text text ≡ true)
    × (str_eq_ignore_ascii_case text (map to_ascii_uppercase text) ≡ true)
alike [] = (refl, refl)
alike (letter ∷ more) =
    let rest = alike more in (
      grind (arith, rest.0, nat_tests),
      rw (lowercase-uppercase letter) (grind (arith, rest.1, nat_tests)),
    )

eighty : (line : List ℕ) → length (columns_of line) ≡ 80
unfolding columns_of
eighty line =
    let few : length (take 80 line) ≤ 80 = omega (arith, length-take 80 line) in
    simp (length-append, length-replicate) (omega (arith, few))

abbrev in_capitals : List ℕ → List ℕ
in_capitals columns = take 5 columns ++ (map to_ascii_uppercase (columns_in 6 72 columns) ++ drop 72 columns)

-- plus signs are put after column 20, and capitals in place
operation_read : (columns : List ℕ) → length columns ≡ 80
    → (columns_in 16 20 (plus_signs columns) ≡ columns_in 16 20 columns)
    × (columns_in 16 20 (plus_signs (in_capitals columns)) ≡ map to_ascii_uppercase (columns_in 16 20 columns))
operation_read (a ∷ b ∷ c ∷ d ∷ e ∷ f ∷ g ∷ h ∷ i ∷ j ∷ k ∷ l ∷ m ∷ n ∷ o ∷ p ∷ q ∷ r ∷ s ∷ t ∷ more) full =
    (refl, refl)
operation_read columns full = absurd (omega (arith, full))

operation_alike : (columns : List ℕ) → length columns ≡ 80
    → str_eq_ignore_ascii_case (columns_in 16 20 columns) (columns_in 16 20 (plus_signs (capitals columns))) ≡ true
operation_alike columns full = by (is_comment columns)
  where
    by : (b : Bool)
        → str_eq_ignore_ascii_case (columns_in 16 20 columns)
        (columns_in 16 20 (plus_signs (cond b columns (in_capitals columns)))) ≡ true
    by true = rw (operation_read columns full).0 (alike (columns_in 16 20 columns)).0
    by false = rw (operation_read columns full).1 (alike (columns_in 16 20 columns)).1

-- what stands where an operation begins, and in the last of the columns that CTL has there
letters_read : (columns : List ℕ) → length columns ≡ 80
    → str_to_ascii_lowercase (columns_in 16 20 columns) ≡ codes "ctl  "
    → (str_to_ascii_lowercase (columns_in 16 18 columns) ≡ codes "ctl")
    × (to_ascii_lowercase (slice_index columns 17) ≡ 108)
letters_read (a ∷ b ∷ c ∷ d ∷ e ∷ f ∷ g ∷ h ∷ i ∷ j ∷ k ∷ l ∷ m ∷ n ∷ o ∷ p ∷ q ∷ r ∷ s ∷ t ∷ more) full same =
    (ap (take 3) same, ap (λ (text : List ℕ). slice_index text 2) same)
letters_read columns full same = absurd (omega (arith, full))

-- a line of 18 bytes has the columns of its bytes, and a shorter one has a blank in column 18
front_read : (line : List ℕ) → 18 ≤ length line → columns_in 16 18 (columns_of line) ≡ columns_in 16 18 line
unfolding columns_of
front_read (a ∷ b ∷ c ∷ d ∷ e ∷ f ∷ g ∷ h ∷ i ∷ j ∷ k ∷ l ∷ m ∷ n ∷ o ∷ p ∷ q ∷ r ∷ more) many = refl
front_read line many = absurd (omega (arith, many))

blank_read : (line : List ℕ) → length line < 18 → slice_index (columns_of line) 17 ≡ 32
unfolding columns_of
blank_read (a ∷ b ∷ c ∷ d ∷ e ∷ f ∷ g ∷ h ∷ i ∷ j ∷ k ∷ l ∷ m ∷ n ∷ o ∷ p ∷ q ∷ r ∷ more) few =
    absurd (omega (arith, few))
blank_read line few = refl

-- a line that asks for CTL has its letters where an operation begins
letters_stand : (line : List ℕ) → str_eq_ignore_ascii_case (columns_in 16 20 (columns_of line)) (codes "CTL  ") ≡ true
    → may_be_control line ≡ true
letters_stand line asks = by (nat_le 18 (length line)) refl
  where
    same : (str_to_ascii_lowercase (columns_in 16 18 (columns_of line)) ≡ codes "ctl")
        × (to_ascii_lowercase (slice_index (columns_of line) 17) ≡ 108)
    same =
        letters_read (columns_of line) (eighty line)
        ((bytes_eq-Decides (str_to_ascii_lowercase (columns_in 16 20 (columns_of line))) (codes "ctl  ")).0 asks)

    by : (b : Bool) → nat_le 18 (length line) ≡ b → may_be_control line ≡ true
    by true e =
        let letters : str_to_ascii_lowercase (columns_in 16 18 line) ≡ codes "ctl"
        = ap str_to_ascii_lowercase (sym (front_read line (leb-true 18 (length line) e))) ∙ same.0 in
        rw e ((bytes_eq-Decides (str_to_ascii_lowercase (columns_in 16 18 line)) (codes "ctl")).1 letters)
    by false e =
        let blank : slice_index (columns_of line) 17 ≡ 32 = blank_read line (leb-false 18 (length line) e) in
        let small : to_ascii_lowercase 32 ≡ 108 = rw blank at same.1 in
        absurd (omega (arith, small))

-- a line without the letters of CTL where an operation begins says nothing of the size of core
pub no_control : (line : List ℕ) → may_be_control line ≡ false
    → control_in (line_in languages.Ibm line).statement ≡ None
no_control line other =
    (of_columns (length line) (capitals (columns_of line))).0 (other_columns read (by (bytes_eq (codes "CTL  ") read) refl))
  where
    read : List ℕ
    read = columns_in 16 20 (plus_signs (capitals (columns_of line)))

    by : (b : Bool) → bytes_eq (codes "CTL  ") read ≡ b → b ≡ false
    by false e = refl
    by true e =
        let same : codes "CTL  " ≡ read = (bytes_eq-Decides (codes "CTL  ") read).0 e in
        let asks : str_eq_ignore_ascii_case (columns_in 16 20 (columns_of line)) (codes "CTL  ") ≡ true
        = subst (λ (text : List ℕ). str_eq_ignore_ascii_case (columns_in 16 20 (columns_of line)) text ≡ true) (sym same)
        (operation_alike (columns_of line) (eighty line)) in
        absurd (true≢false (sym (letters_stand line asks) ∙ other))
