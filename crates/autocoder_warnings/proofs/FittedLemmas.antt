-- Each machine carries out each instruction that the plain language takes.
use Rattle.std.proofs.Common.{◌≡◌, ℕ, ◌+◌, ◌*◌, ◌==◌, ◌⊎◌, Bool, true, false, not, ◌&&◌, ◌||◌, cond, nat_le, nat_lt}
use Rattle.std.proofs.Common.{List, [], ◌∷◌, Option, None, Some, refl, sym, ap, ◌∙◌, inl, inr}
use Rattle.std.proofs.lemmas.Bool.{and_parts, or_parts, not-false, true≢false}
use Rattle.std.specs.Prelude.{find, is_some}
use Rattle.std.specs.List.{list_all}
use Rattle.std.specs.Option.{option_map, option_map_or}
use Rattle.std.specs.Str.{bytes_eq}
use Rattle.machine_tables.specs.Fitted.{is_fitted_with}
use Rattle.machine_tables.specs.Operation.{is_fitted}
use Rattle.machine_tables.specs.declared.features.Features.{Features}
use Rattle.autocoder_statements.specs.Address.{address_of}
use Rattle.autocoder_statements.specs.Constant.{constant_of}
use Rattle.autocoder_statements.specs.Description.{describe}
use Rattle.autocoder_statements.specs.LoneAddress.{is_unit}
use Rattle.autocoder_statements.specs.Mnemonic.{ARow, AnOwnRow, instructions, assembler_operations, instruction_in}
use Rattle.autocoder_statements.specs.Mnemonic.{either_operation}
use Rattle.autocoder_statements.specs.Operands.{count_of, d_at, d_by, d_of, first_operand, second_operand, is_ended}
use Rattle.autocoder_statements.specs.Operands.{is_malformed, operands_of, has_malformed, read_operand, operand_in}
use Rattle.autocoder_statements.specs.Operands.{operand_of}
use Rattle.autocoder_statements.specs.Operands.{field_of, as_literal, field_with, begins_literal}
use Rattle.autocoder_statements.specs.Punctuation.{comma}
use Rattle.autocoder_statements.specs.Statement.{body_by, body_of, body_with, has_bad_operands, span_of}
use Rattle.autocoder_statements.specs.declared.address.Address.{Address}
use Rattle.autocoder_statements.specs.declared.constant.Constant.{Constant}
use Rattle.autocoder_statements.specs.declared.language.Language.TheVariants.{Plain}
use Rattle.autocoder_statements.specs.declared.mnemonic.DCharacter.{DCharacter}
use Rattle.autocoder_statements.specs.declared.mnemonic.DCharacter.TheVariants as d
use Rattle.autocoder_statements.specs.declared.mnemonic.Form.{Form}
use Rattle.autocoder_statements.specs.declared.mnemonic.Instruction.{Instruction}
use Rattle.autocoder_statements.specs.declared.mnemonic.Operation.{Operation}
use Rattle.autocoder_statements.specs.declared.mnemonic.Operation.TheVariants as operations
use Rattle.autocoder_statements.specs.declared.operands.Operand.{Operand}
use Rattle.autocoder_statements.specs.declared.operands.Operand.TheVariants as operands
use Rattle.autocoder_statements.specs.declared.operands.OperandField.{OperandField}
use Rattle.autocoder_statements.specs.declared.operands.OperandField.TheVariants as fields
use Rattle.autocoder_statements.specs.declared.statement.Body.{Body}
use Rattle.autocoder_statements.specs.declared.statement.Body.TheVariants as bodies
use Rattle.autocoder_statements.specs.declared.statement.Span.{Span}
use Rattle.autocoder_placing.specs.Placement.{instruction_length}
use Rattle.autocoder_warnings.specs.Warnings.{is_unfitted, is_not_fitted}
use Rattle.autocoder_warnings.proofs.FeaturesLemmas.{found_has, stays_fitted}

-- the first and the second operand are there or not, and a d-character
zero_or_one : (field : OperandField) → (count_of field ≡ 0) ⊎ (count_of field ≡ 1)
zero_or_one fields.Absent = inl refl
zero_or_one fields.Malformed = inr refl
zero_or_one (fields.Operand operand) = inr refl

-- how many d-characters there are
abbrev d_count : Option ℕ → ℕ
d_count d = option_map_or (λ graphic. 1) d 0

zero_or_one_d : (d : Option ℕ) → (d_count d ≡ 0) ⊎ (d_count d ≡ 1)
zero_or_one_d None = inl refl
zero_or_one_d (Some graphic) = inr refl

-- a form has this many d-characters
abbrev has_d : DCharacter → ℕ → Bool
has_d d.Never n = n == 0
has_d (d.Fixed graphic) n = n == 1
has_d d.Optional n = true
has_d d.Required n = n == 1

asked_is_there : (read : Option ℕ) → is_some read ≡ true → (d_count read == 1) ≡ true
asked_is_there None e = absurd (true≢false (sym e))
asked_is_there (Some graphic) e = refl

d_is_had : (asks : DCharacter) (most : ℕ) (rest : List ℕ) → (d_by asks most rest).1 ≡ true
    → has_d asks (d_count (d_by asks most rest).0) ≡ true
d_is_had d.Never most rest whole = refl
d_is_had (d.Fixed graphic) most rest whole = refl
d_is_had d.Optional most rest whole = refl
d_is_had d.Required most rest whole = asked_is_there (d_at most rest) whole

-- a form has these numbers of first and second operands, and of d-characters
abbrev has_counts : Form → ℕ → ℕ → ℕ → Bool
has_counts form a b n =
    cond (form.most == 0) (a == 0) true
    && (cond (nat_lt 1 form.most) true (b == 0) && (nat_le form.least (a + b) && has_d form.d n))

first_is_had : (most : ℕ) (columns : List ℕ)
    → cond (most == 0) (count_of (first_operand Plain most columns).0 == 0) true ≡ true
first_is_had most columns = by (most == 0) (is_ended columns)
  where
    by : (none ended : Bool)
        → cond none (count_of (cond (none || ended) (fields.Absent, columns) (read_operand Plain columns)).0 == 0) true ≡ true
    by true ended = refl
    by false ended = refl

second_is_had : (most : ℕ) (columns : List ℕ)
    → cond (nat_lt 1 most) true (count_of (second_operand Plain most columns).0 == 0) ≡ true
second_is_had most [] = by (nat_lt 1 most)
  where
    by : (two : Bool) → cond two true true ≡ true
    by true = refl
    by false = refl
second_is_had most (byte ∷ more) = by (byte == comma) (nat_lt 1 most)
  where
    by : (follows two : Bool)
        → cond two true (count_of (cond (follows && two) (read_operand Plain more) (fields.Absent, byte ∷ more)).0 == 0) ≡ true
    by follows true = refl
    by true false = refl
    by false false = refl

all_true : (first second third fourth : Bool) → first ≡ true → second ≡ true → third ≡ true → fourth ≡ true
    → (first && (second && (third && fourth))) ≡ true
all_true first second third fourth a b c e = rw (a, b, c, e) refl

-- operands of a form have its counts
counts_of_form : (form : Form) (columns : List ℕ) → has_malformed (operands_of Plain form columns) ≡ false
    → has_counts form (count_of (operands_of Plain form columns).a) (count_of (operands_of Plain form columns).b)
    (d_count (operands_of Plain form columns).d) ≡ true
counts_of_form form columns good =
    let first = first_operand Plain form.most columns in
    let second = second_operand Plain form.most first.1 in
    let read = d_of form second.1 in
    let enough = nat_le form.least (count_of first.0 + count_of second.0) in
    let whole : (read.1 && enough) ≡ true =
    not-false (read.1 && enough)
    (or_parts (not (read.1 && enough)) (is_malformed first.0)
    (or_parts (not (read.1 && enough) || is_malformed first.0) (is_malformed second.0) good).0).0 in
    let parts = and_parts read.1 enough whole in
    all_true (cond (form.most == 0) (count_of first.0 == 0) true)
    (cond (nat_lt 1 form.most) true (count_of second.0 == 0)) enough (has_d form.d (d_count read.0))
    (first_is_had form.most columns) (second_is_had form.most first.1) parts.1
    (d_is_had form.d form.most second.1 parts.0)

-- the machine carries out a row's instructions with these numbers of operands and d-characters, if its form has them
abbrev fits : ARow → ℕ → ℕ → ℕ → Bool
fits row a b n = not (has_counts (instruction_in row).form a b n) || is_fitted row.1 (1 + 3 * a + 3 * b + n)

abbrev up_to_one : List ℕ
up_to_one = 0 ∷ 1 ∷ []

abbrev fits_all : ARow → Bool
fits_all row = list_all (λ a. list_all (λ b. list_all (λ n. fits row a b n) up_to_one) up_to_one) up_to_one

each_row_fits : list_all fits_all instructions ≡ true
unfolding instructions
each_row_fits = refl

of_two : (test : ℕ → Bool) (n : ℕ) → (n ≡ 0) ⊎ (n ≡ 1) → list_all test up_to_one ≡ true → test n ≡ true
of_two test n which all =
    let parts = and_parts (test 0) (list_all test (1 ∷ [])) all in
    elim which [
      | inl zero ↦ ap test zero ∙ parts.0
      | inr one ↦ ap test one ∙ (and_parts (test 1) true parts.1).0
    ]

implied : (holds follows : Bool) → holds ≡ true → (not holds || follows) ≡ true → follows ≡ true
implied true true e h = refl
implied true false e h = absurd (true≢false (sym h))
implied false follows e h = absurd (true≢false (sym e))

row_is_fitted : (features : Features) (row : ARow) (columns : List ℕ) → fits_all row ≡ true
    → has_malformed (operands_of Plain (instruction_in row).form columns) ≡ false
    → not (is_fitted_with features row.1 (instruction_length (operands_of Plain (instruction_in row).form columns)))
    ≡ false
row_is_fitted features row columns all good =
    let of = operands_of Plain (instruction_in row).form columns in
    let a = count_of of.a in
    let b = count_of of.b in
    let n = d_count of.d in
    let first = of_two (λ a. list_all (λ b. list_all (λ n. fits row a b n) up_to_one) up_to_one) a (zero_or_one of.a) all in
    let second = of_two (λ b. list_all (λ n. fits row a b n) up_to_one) b (zero_or_one of.b) first in
    let third = of_two (λ n. fits row a b n) n (zero_or_one_d of.d) second in
    let fitted = implied (has_counts (instruction_in row).form a b n) (is_fitted row.1 (1 + 3 * a + 3 * b + n))
    (counts_of_form (instruction_in row).form columns good) third in
    ap not (stays_fitted features row.1 (1 + 3 * a + 3 * b + n) fitted)

-- the plain language has no units
abbrev is_no_unit : Operand → Bool
is_no_unit (operands.Address address) = true
is_no_unit (operands.Literal literal) = true
is_no_unit (operands.Unit unit) = false

no_unit_in : (operand : Option Operand) → option_map_or is_no_unit operand true ≡ true
    → is_unit (field_with operand) ≡ false
no_unit_in None e = refl
no_unit_in (Some (operands.Address address)) e = refl
no_unit_in (Some (operands.Literal literal)) e = refl
no_unit_in (Some (operands.Unit unit)) e = absurd (true≢false (sym e))

literal_is_no_unit : (constant : Option Constant)
    → option_map_or is_no_unit (option_map as_literal constant) true ≡ true
literal_is_no_unit None = refl
literal_is_no_unit (Some constant) = refl

address_is_no_unit : (address : Option Address)
    → option_map_or is_no_unit (option_map operands.Address address) true ≡ true
address_is_no_unit None = refl
address_is_no_unit (Some address) = refl

word_is_no_unit : (word : List ℕ) → is_unit (field_of Plain word) ≡ false
word_is_no_unit [] = refl
word_is_no_unit (byte ∷ more) =
    no_unit_in (operand_of Plain (byte ∷ more)) (by (begins_literal byte))
  where
    by : (is_literal : Bool)
        → option_map_or is_no_unit (cond is_literal (option_map as_literal (constant_of (byte ∷ more)))
        (option_map operands.Address (address_of Plain (byte ∷ more)))) true
        ≡ true
    by true = literal_is_no_unit (constant_of (byte ∷ more))
    by false = address_is_no_unit (address_of Plain (byte ∷ more))

first_is_no_unit : (most : ℕ) (columns : List ℕ) → is_unit (first_operand Plain most columns).0 ≡ false
first_is_no_unit most columns = by ((most == 0) || is_ended columns)
  where
    by : (is_absent : Bool) → is_unit (cond is_absent (fields.Absent, columns) (read_operand Plain columns)).0 ≡ false
    by true = refl
    by false = word_is_no_unit (operand_in columns)

second_is_no_unit : (most : ℕ) (rest : List ℕ) → is_unit (second_operand Plain most rest).0 ≡ false
second_is_no_unit most [] = refl
second_is_no_unit most (byte ∷ more) = by ((byte == comma) && nat_lt 1 most)
  where
    by : (is_there : Bool)
        → is_unit (cond is_there (read_operand Plain more) (fields.Absent, byte ∷ more)).0 ≡ false
    by true = word_is_no_unit (operand_in more)
    by false = refl

operands_are_fitted : (features : Features) (instruction : Instruction) (columns : List ℕ)
    → not (is_fitted_with features instruction.operation (instruction_length (operands_of Plain instruction.form columns)))
    ≡ false
    → is_unfitted features instruction (operands_of Plain instruction.form columns) ≡ false
operands_are_fitted features instruction columns fitted =
    rw (
      first_is_no_unit instruction.form.most columns,
      second_is_no_unit instruction.form.most (first_operand Plain instruction.form.most columns).1,
    )
    fitted

-- the assembler's own operations are no instructions
abbrev is_own : Operation → Bool
is_own (operations.Instruction instruction) = false
is_own operations.MarkedConstant = true
is_own operations.Constant = true
is_own operations.Space = true
is_own operations.Areas = true
is_own operations.Field = true
is_own operations.Equate = true
is_own operations.Origin = true
is_own operations.Execute = true
is_own operations.End = true

each_row_is_own : list_all (λ (row : AnOwnRow). is_own row.1) assembler_operations ≡ true
unfolding assembler_operations
each_row_is_own = refl

field_is_fitted : (features : Features) (span : Option Span)
    → is_not_fitted features (describe (bodies.Field span)).contents ≡ false
field_is_fitted features None = refl
field_is_fitted features (Some span) = refl

own_is_fitted : (features : Features) (operation : Operation) (columns : List ℕ) → is_own operation ≡ true
    → is_not_fitted features (describe (body_with operation columns)).contents ≡ false
own_is_fitted features (operations.Instruction instruction) columns own = absurd (true≢false (sym own))
own_is_fitted features operations.MarkedConstant columns own = refl
own_is_fitted features operations.Constant columns own = refl
own_is_fitted features operations.Space columns own = refl
own_is_fitted features operations.Areas columns own = refl
own_is_fitted features operations.Field columns own = field_is_fitted features (span_of columns)
own_is_fitted features operations.Equate columns own = refl
own_is_fitted features operations.Origin columns own = refl
own_is_fitted features operations.Execute columns own = refl
own_is_fitted features operations.End columns own = refl

-- what rows that were found ask for
abbrev found_body : Option ARow → Option AnOwnRow → List ℕ → Body
found_body row own columns =
    body_by (either_operation (option_map instruction_in row) (option_map (λ (own : AnOwnRow). own.1) own)) columns

twice : (b : Bool) → not (not b) ≡ false → b ≡ false
twice true e = absurd (true≢false e)
twice false e = refl

-- what the plain language takes, each machine carries out
pub plain_is_fitted : (features : Features) (operation columns : List ℕ)
    → has_bad_operands (body_of operation columns) ≡ false
    → is_not_fitted features (describe (body_of operation columns)).contents ≡ false
plain_is_fitted features operation columns good =
    by (find (λ (row : ARow). bytes_eq row.0 operation) instructions) refl
    (find (λ (row : AnOwnRow). bytes_eq row.0 operation) assembler_operations) refl good
  where
    by : (row : Option ARow) → find (λ (row : ARow). bytes_eq row.0 operation) instructions ≡ row
        → (own : Option AnOwnRow) → find (λ (row : AnOwnRow). bytes_eq row.0 operation) assembler_operations ≡ own
        → has_bad_operands (found_body row own columns) ≡ false
        → is_not_fitted features (describe (found_body row own columns)).contents ≡ false
    by (Some row) found own e good =
        operands_are_fitted features (instruction_in row) columns
        (row_is_fitted features row columns
        (found_has (λ (row : ARow). bytes_eq row.0 operation) fits_all instructions row each_row_fits found)
        (twice (has_malformed (operands_of Plain (instruction_in row).form columns)) good))
    by None none (Some own) found good =
        own_is_fitted features own.1 columns
        (found_has (λ (row : AnOwnRow). bytes_eq row.0 operation) (λ (row : AnOwnRow). is_own row.1) assembler_operations
        own each_row_is_own found)
    by None none None none_own good = refl
