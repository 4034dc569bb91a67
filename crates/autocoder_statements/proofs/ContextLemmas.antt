-- Lines of the plain language say the same with their neighbours, and only lines with X1 to X3 as labels change others.
use Rattle.std.proofs.Common.{◌≡◌, ℕ, ◌==◌, Bool, true, false, cond, ◌&&◌, ◌||◌, nat_lt, List, [], ◌∷◌, length, map}
use Rattle.std.proofs.Common.{take}
use Rattle.std.proofs.Common.{drop, Option, Some, None, refl, ap, ◌∙◌}
use Rattle.std.specs.Prelude.{ℤ, pos, slice_index, codes}
use Rattle.std.proofs.lemmas.Bool.{and_parts, not-true, or_parts}
use Rattle.std.specs.List.{list_all, prefix_len}
use Rattle.std.specs.Option.{option_map, option_and_then}
use Rattle.std.specs.Str.{bytes_eq}
use Rattle.autocoder_statements.specs.Address.{address_of, adjusted, adjusted_by, adjustment_of, base_of, base_len}
use Rattle.autocoder_statements.specs.Address.{index_of}
use Rattle.autocoder_statements.specs.Address.{indexed}
use Rattle.autocoder_statements.specs.Address.{is_adjusted, number_or_name}
use Rattle.autocoder_statements.specs.Constant.{constant_of}
use Rattle.autocoder_statements.specs.Context.{in_context, body_below, statement_in, below, below_body, below_statement}
use Rattle.autocoder_statements.specs.Context.{with_context, nothing_above, registers_of, rule_in, with_registers}
use Rattle.autocoder_statements.specs.Context.{settled}
use Rattle.autocoder_statements.specs.Context.{lines_said}
use Rattle.bcd_1401.specs.Digits.{is_digit}
use Rattle.autocoder_statements.specs.Label.{label_of, label_in}
use Rattle.autocoder_statements.specs.Language.{cuts_nothing, has_cut_constant, is_sound, line_in}
use Rattle.autocoder_statements.specs.Mnemonic.{operation_of}
use Rattle.autocoder_statements.specs.Numbers.{short_number}
use Rattle.autocoder_statements.specs.Operands.{as_literal, begins_literal, field_of, field_with, first_operand}
use Rattle.autocoder_statements.specs.Operands.{second_operand}
use Rattle.autocoder_statements.specs.Operands.{operand_of}
use Rattle.autocoder_statements.specs.Operands.{operand_in, operands_of, read_operand, is_ended}
use Rattle.autocoder_statements.specs.Punctuation.{comma}
use Rattle.autocoder_statements.specs.SourceLine.{columns_of, columns_in, is_comment}
use Rattle.autocoder_statements.specs.Statement.{body_by, bytes_with, line_of, one_address, statement_of}
use Rattle.autocoder_statements.specs.Description.{body_under}
use Rattle.autocoder_statements.specs.LineSymbols.{line_under, statement_under}
use Rattle.autocoder_statements.specs.Symbols.{address_under, base_under, field_under, is_any, is_labelled}
use Rattle.autocoder_statements.specs.Symbols.{label_under, literal_under}
use Rattle.autocoder_statements.specs.Symbols.{no_registers, operand_under, operands_under}
use Rattle.autocoder_statements.specs.declared.address.Address.{Address}
use Rattle.autocoder_statements.specs.declared.address.Base.{Base}
use Rattle.autocoder_statements.specs.declared.address.Base.TheVariants as bases
use Rattle.autocoder_statements.specs.declared.constant.Constant.{Constant}
use Rattle.autocoder_statements.specs.declared.context.Context.{Context}
use Rattle.autocoder_statements.specs.declared.label.Label.{Label}
use Rattle.autocoder_statements.specs.declared.label.LabelField.{LabelField}
use Rattle.autocoder_statements.specs.declared.label.LabelField.TheVariants as labels
use Rattle.autocoder_statements.specs.declared.language.Language.TheVariants.{Plain, Ibm}
use Rattle.autocoder_statements.specs.declared.mnemonic.Form.{Form}
use Rattle.autocoder_statements.specs.declared.mnemonic.Operation.{Operation}
use Rattle.autocoder_statements.specs.declared.mnemonic.Operation.TheVariants as operations
use Rattle.autocoder_statements.specs.declared.literal.Literal.{Literal}
use Rattle.autocoder_statements.specs.declared.literal.Literal.TheVariants as literals
use Rattle.autocoder_statements.specs.declared.operands.Operand.{Operand}
use Rattle.autocoder_statements.specs.declared.operands.Operand.TheVariants as operands
use Rattle.autocoder_statements.specs.declared.operands.OperandField.{OperandField}
use Rattle.autocoder_statements.specs.declared.operands.OperandField.TheVariants as fields
use Rattle.autocoder_statements.specs.declared.operands.Operands.{Operands}
use Rattle.autocoder_statements.specs.declared.statement.Body.{Body}
use Rattle.autocoder_statements.specs.declared.statement.Body.TheVariants as bodies
use Rattle.autocoder_statements.specs.declared.statement.Line.{Line}
use Rattle.autocoder_statements.specs.declared.statement.Statement.{Statement}
use Rattle.autocoder_statements.specs.declared.symbols.Registers.{Registers}
use Rattle.autocoder_statements.specs.declared.symbols.SymbolRule.{SymbolRule}
use Rattle.autocoder_statements.proofs.LanguageLemmas.{sound_lines_agree}

-- symbols that get no suffix, with these of X1 to X3 among them
abbrev among : Registers → SymbolRule
among these = record { suffix = None; registers = these }

-- with no label among X1 to X3 these are index registers

none_labelled : (these : Registers) (number : ℕ) → is_any these ≡ false → is_labelled these number ≡ false
none_labelled these number none =
    let three = or_parts (these.one || these.two) these.three none in
    let two = or_parts these.one these.two three.0 in
    by (number == 1) (number == 2) two.0 two.1 three.1
  where
    by : (is_one is_two : Bool) → these.one ≡ false → these.two ≡ false → these.three ≡ false
        → cond is_one these.one (cond is_two these.two these.three) ≡ false
    by true b one two three = one
    by false true one two three = two
    by false false one two three = three

base_stays : (these : Registers) (base : Base) → is_any these ≡ false → base_under (among these) base ≡ base
base_stays these (bases.Number number) none = refl
base_stays these (bases.Symbol label) none = refl
base_stays these bases.Here none = refl
base_stays these (bases.Register number) none = rw (none_labelled these number none) refl
base_stays these bases.NextHundred none = refl

abbrev with_base : Address → Base → Address
with_base this base = record { base = base; adjustment = this.adjustment; index = this.index }

address_stays : (these : Registers) (this : Address) → is_any these ≡ false → address_under (among these) this ≡ this
address_stays these this none = ap (with_base this) (base_stays these this.base none)

literal_stays : (these : Registers) (this : Literal) → is_any these ≡ false → literal_under (among these) this ≡ this
literal_stays these (literals.Constant constant) none = refl
literal_stays these (literals.Address this) none =
    ap (λ (address : Address). literals.Address (record { is_negative = this.is_negative; address = address }))
    (address_stays these this.address none)
literal_stays these (literals.Area this) none = refl

field_stays : (these : Registers) (field : OperandField) → is_any these ≡ false
    → field_under (among these) field ≡ field
field_stays these fields.Absent none = refl
field_stays these fields.Malformed none = refl
field_stays these (fields.Operand (operands.Address address)) none =
    ap (λ (address : Address). fields.Operand (operands.Address address)) (address_stays these address none)
field_stays these (fields.Operand (operands.Literal literal)) none =
    ap (λ (literal : Literal). fields.Operand (operands.Literal literal)) (literal_stays these literal none)
field_stays these (fields.Operand (operands.Unit unit)) none = refl

operands_stay : (these : Registers) (this : Operands) → is_any these ≡ false
    → operands_under (among these) this ≡ this
operands_stay these this none = rw (field_stays these this.a none, field_stays these this.b none) refl

body_stays : (these : Registers) (body : Body) → is_any these ≡ false → body_under (among these) body ≡ body
body_stays these bodies.Unknown none = refl
body_stays these (bodies.Instruction instruction of) none =
    ap (bodies.Instruction instruction) (operands_stay these of none)
body_stays these (bodies.MarkedConstant constant) none = refl
body_stays these (bodies.Constant constant) none = refl
body_stays these (bodies.Space places) none = refl
body_stays these (bodies.Areas areas) none = refl
body_stays these (bodies.Field span) none = refl
body_stays these (bodies.Equate of) none = ap bodies.Equate (operands_stay these of none)
body_stays these (bodies.Origin of) none = ap bodies.Origin (operands_stay these of none)
body_stays these (bodies.Execute of) none = ap bodies.Execute (operands_stay these of none)
body_stays these (bodies.End of) none = ap bodies.End (operands_stay these of none)
body_stays these (bodies.Heading is_well_formed) none = refl
body_stays these (bodies.Control size) none = refl
body_stays these bodies.SecondControl none = refl
body_stays these (bodies.Suffix suffix) none = refl
body_stays these (bodies.Transfer of) none = ap bodies.Transfer (operands_stay these of none)
body_stays these (bodies.Chain chain) none = refl
body_stays these (bodies.AddressConstant constant) none =
    ap (λ (of : Operands). bodies.AddressConstant (record constant { operands = of }))
    (operands_stay these constant.operands none)
body_stays these (bodies.Blanks places) none = refl
body_stays these (bodies.PlacedConstant placed) none = refl
body_stays these (bodies.LabelledOrigin of) none = ap bodies.LabelledOrigin (operands_stay these of none)
body_stays these (bodies.LiteralOrigin of) none = ap bodies.LiteralOrigin (operands_stay these of none)
body_stays these (bodies.WideField span) none = refl
body_stays these (bodies.WideEquate of) none = ap bodies.WideEquate (operands_stay these of none)
body_stays these (bodies.WideExecute of) none = ap bodies.WideExecute (operands_stay these of none)
body_stays these (bodies.WideEnd of) none = ap bodies.WideEnd (operands_stay these of none)

label_stays : (these : Registers) (label : LabelField) → label_under (among these) label ≡ label
label_stays these labels.Absent = refl
label_stays these labels.Malformed = refl
label_stays these (labels.Label label) = refl

statement_stays : (these : Registers) (statement : Statement) → is_any these ≡ false
    → statement_under (among these) statement ≡ statement
statement_stays these statement none = rw (label_stays these statement.label, body_stays these statement.body none) refl

-- without a suffix a statement has the symbols that it has by itself
pub without_suffix : (this : Context) (statement : Statement) → this.suffix ≡ None
    → statement_under (rule_in this) statement ≡ statement
without_suffix this statement none = rw none (statement_stays no_registers statement refl)

-- with no label among X1 to X3 a line says what it says by itself
pub without_registers : (these : Registers) → is_any these ≡ false → (line : Line) → with_registers these line ≡ line
without_registers these none line = by line.statement
  where
    by : (statement : Option Statement)
        → line_under (among these) (record { bytes = line.bytes; statement = statement })
        ≡ record { bytes = line.bytes; statement = statement }
    by None = refl
    by (Some statement) = rw (statement_stays these statement none) refl

-- with no label among X1 to X3 lines say what they say by themselves
pub all_without_registers : (these : Registers) → is_any these ≡ false → (lines : List Line)
    → map (with_registers these) lines ≡ lines
all_without_registers these none [] = refl
all_without_registers these none (line ∷ lines) =
    rw (without_registers these none line, all_without_registers these none lines) refl

-- what the plain language reads has no index register as a symbol, and nothing that depends on the lines above

symbol_stays : (these : Registers) (label : Option Label)
    → option_map (base_under (among these)) (option_map bases.Symbol label) ≡ option_map bases.Symbol label
symbol_stays these None = refl
symbol_stays these (Some label) = refl

word_stays : (these : Registers) (number : Option ℕ) (word : List ℕ)
    → option_map (base_under (among these)) (number_or_name Plain number word) ≡ number_or_name Plain number word
word_stays these (Some number) word = refl
word_stays these None word = symbol_stays these (label_of Plain word)

plain_base : (these : Registers) (word : List ℕ)
    → option_map (base_under (among these)) (base_of Plain word) ≡ base_of Plain word
plain_base these word = by (bytes_eq word (codes "*"))
  where
    by : (is_here : Bool)
        → option_map (base_under (among these))
        (cond is_here (Some bases.Here) (number_or_name Plain (short_number word) word))
        ≡ cond is_here (Some bases.Here) (number_or_name Plain (short_number word) word)
    by true = refl
    by false = word_stays these (short_number word) word

abbrev whole : Base → ℤ → Option ℕ → Address
whole base adjustment index = record { base = base; adjustment = adjustment; index = index }

indexed_stays : (rule : SymbolRule) (base : Base) (adjustment : ℤ) (rest : List ℕ) → base_under rule base ≡ base
    → option_map (address_under rule) (indexed Plain base adjustment rest) ≡ indexed Plain base adjustment rest
indexed_stays rule base adjustment rest e = by (index_of Plain rest)
  where
    by : (index : Option (Option ℕ))
        → option_map (address_under rule) (option_map (whole base adjustment) index)
        ≡ option_map (whole base adjustment) index
    by None = refl
    by (Some index) = ap (λ (base : Base). Some (whole base adjustment index)) e

adjusted_stays : (rule : SymbolRule) (base : Base) (rest : List ℕ) → base_under rule base ≡ base
    → option_map (address_under rule) (adjusted Plain base rest) ≡ adjusted Plain base rest
adjusted_stays rule base rest e = by (is_adjusted rest)
  where
    by_number : (number : Option ℕ)
        → option_map (address_under rule)
        (option_and_then (λ number. indexed Plain base (adjustment_of (slice_index rest 0) number)
        (drop (prefix_len is_digit (drop 1 rest)) (drop 1 rest))) number)
        ≡ option_and_then (λ number. indexed Plain base (adjustment_of (slice_index rest 0) number)
        (drop (prefix_len is_digit (drop 1 rest)) (drop 1 rest))) number
    by_number None = refl
    by_number (Some number) =
        indexed_stays rule base (adjustment_of (slice_index rest 0) number)
        (drop (prefix_len is_digit (drop 1 rest)) (drop 1 rest)) e

    by : (has_sign : Bool)
        → option_map (address_under rule)
        (cond has_sign (adjusted_by Plain base (slice_index rest 0) (drop 1 rest)) (indexed Plain base (pos 0) rest))
        ≡ cond has_sign (adjusted_by Plain base (slice_index rest 0) (drop 1 rest)) (indexed Plain base (pos 0) rest)
    by true = by_number (short_number (take (prefix_len is_digit (drop 1 rest)) (drop 1 rest)))
    by false = indexed_stays rule base (pos 0) rest e

plain_address : (these : Registers) (word : List ℕ)
    → option_map (address_under (among these)) (address_of Plain word) ≡ address_of Plain word
plain_address these word =
    by (base_of Plain (take (base_len word) word)) (plain_base these (take (base_len word) word))
  where
    by : (base : Option Base) → option_map (base_under (among these)) base ≡ base
        → option_map (address_under (among these))
        (option_and_then (λ base. adjusted Plain base (drop (base_len word) word)) base)
        ≡ option_and_then (λ base. adjusted Plain base (drop (base_len word) word)) base
    by None e = refl
    by (Some base) e =
        let same : base_under (among these) base ≡ base = cc in
        adjusted_stays (among these) base (drop (base_len word) word) same

plain_operand : (these : Registers) (word : List ℕ)
    → option_map (operand_under (among these)) (operand_of Plain word) ≡ operand_of Plain word
plain_operand these [] = refl
plain_operand these (byte ∷ more) = by (begins_literal byte)
  where
    as_constant : (constant : Option Constant)
        → option_map (operand_under (among these)) (option_map as_literal constant) ≡ option_map as_literal constant
    as_constant None = refl
    as_constant (Some constant) = refl

    as_address : (found : Option Address)
        → option_map (operand_under (among these)) (option_map operands.Address found)
        ≡ option_map operands.Address (option_map (address_under (among these)) found)
    as_address None = refl
    as_address (Some address) = refl

    by : (is_literal : Bool)
        → option_map (operand_under (among these))
        (cond is_literal (option_map as_literal (constant_of (byte ∷ more)))
        (option_map operands.Address (address_of Plain (byte ∷ more))))
        ≡ cond is_literal (option_map as_literal (constant_of (byte ∷ more)))
        (option_map operands.Address (address_of Plain (byte ∷ more)))
    by true = as_constant (constant_of (byte ∷ more))
    by false = as_address (address_of Plain (byte ∷ more)) ∙ rw (plain_address these (byte ∷ more)) refl

-- the field that a word is
under_field : (rule : SymbolRule) (operand : Option Operand)
    → field_under rule (field_with operand) ≡ field_with (option_map (operand_under rule) operand)
under_field rule None = refl
under_field rule (Some operand) = refl

plain_field : (these : Registers) (word : List ℕ)
    → field_under (among these) (field_of Plain word) ≡ field_of Plain word
plain_field these word =
    under_field (among these) (operand_of Plain word) ∙ ap field_with (plain_operand these word)

plain_first : (these : Registers) (most : ℕ) (text : List ℕ)
    → field_under (among these) (first_operand Plain most text).0 ≡ (first_operand Plain most text).0
plain_first these most text = by ((most == 0) || is_ended text)
  where
    by : (is_absent : Bool)
        → field_under (among these) (cond is_absent (fields.Absent, text) (read_operand Plain text)).0
        ≡ (cond is_absent (fields.Absent, text) (read_operand Plain text)).0
    by true = refl
    by false = plain_field these (operand_in text)

plain_second : (these : Registers) (most : ℕ) (rest : List ℕ)
    → field_under (among these) (second_operand Plain most rest).0 ≡ (second_operand Plain most rest).0
plain_second these most [] = refl
plain_second these most (byte ∷ more) = by ((byte == comma) && nat_lt 1 most)
  where
    by : (is_there : Bool)
        → field_under (among these) (cond is_there (read_operand Plain more) (fields.Absent, byte ∷ more)).0
        ≡ (cond is_there (read_operand Plain more) (fields.Absent, byte ∷ more)).0
    by true = plain_field these (operand_in more)
    by false = refl

plain_operands : (these : Registers) (form : Form) (columns : List ℕ)
    → operands_under (among these) (operands_of Plain form columns) ≡ operands_of Plain form columns
plain_operands these form columns =
    rw (
      plain_first these form.most columns,
      plain_second these form.most (first_operand Plain form.most columns).1,
    )
    refl

plain_body : (these : Registers) (operation : Option Operation) (columns : List ℕ)
    → body_under (among these) (body_by operation columns) ≡ body_by operation columns
plain_body these None columns = refl
plain_body these (Some (operations.Instruction instruction)) columns =
    ap (bodies.Instruction instruction) (plain_operands these instruction.form columns)
plain_body these (Some operations.MarkedConstant) columns = refl
plain_body these (Some operations.Constant) columns = refl
plain_body these (Some operations.Space) columns = refl
plain_body these (Some operations.Areas) columns = refl
plain_body these (Some operations.Field) columns = refl
plain_body these (Some operations.Equate) columns = ap bodies.Equate (plain_operands these one_address columns)
plain_body these (Some operations.Origin) columns = ap bodies.Origin (plain_operands these one_address columns)
plain_body these (Some operations.Execute) columns = ap bodies.Execute (plain_operands these one_address columns)
plain_body these (Some operations.End) columns = ap bodies.End (plain_operands these one_address columns)

plain_below : (this : Context) (operation : Option Operation) (columns : List ℕ)
    → body_below this (body_by operation columns) ≡ body_by operation columns
plain_below this None columns = refl
plain_below this (Some (operations.Instruction instruction)) columns = refl
plain_below this (Some operations.MarkedConstant) columns = refl
plain_below this (Some operations.Constant) columns = refl
plain_below this (Some operations.Space) columns = refl
plain_below this (Some operations.Areas) columns = refl
plain_below this (Some operations.Field) columns = refl
plain_below this (Some operations.Equate) columns = refl
plain_below this (Some operations.Origin) columns = refl
plain_below this (Some operations.Execute) columns = refl
plain_below this (Some operations.End) columns = refl

suffix_stays : (this : Context) (operation : Option Operation) (columns : List ℕ)
    → (below_body this (body_by operation columns)).suffix ≡ this.suffix
suffix_stays this None columns = refl
suffix_stays this (Some (operations.Instruction instruction)) columns = refl
suffix_stays this (Some operations.MarkedConstant) columns = refl
suffix_stays this (Some operations.Constant) columns = refl
suffix_stays this (Some operations.Space) columns = refl
suffix_stays this (Some operations.Areas) columns = refl
suffix_stays this (Some operations.Field) columns = refl
suffix_stays this (Some operations.Equate) columns = refl
suffix_stays this (Some operations.Origin) columns = refl
suffix_stays this (Some operations.Execute) columns = refl
suffix_stays this (Some operations.End) columns = refl

plain_statement : (these : Registers) (columns : List ℕ)
    → statement_under (among these) (statement_of columns) ≡ statement_of columns
plain_statement these columns =
    rw (
      label_stays these (label_in Plain (columns_in 6 15 columns)),
      plain_body these (operation_of (columns_in 16 20 columns)) (columns_in 21 72 columns),
    )
    refl

-- a statement below lines of the plain language
statement_in_place : (this : Context) (columns : List ℕ) → this.suffix ≡ None
    → statement_in this (statement_of columns) ≡ statement_of columns
statement_in_place this columns none =
    rw (
      none,
      label_stays no_registers (label_in Plain (columns_in 6 15 columns)),
      plain_body no_registers (operation_of (columns_in 16 20 columns)) (columns_in 21 72 columns),
      plain_below (record this { suffix = None }) (operation_of (columns_in 16 20 columns)) (columns_in 21 72 columns),
    )
    refl

line_in_place : (this : Context) (text : List ℕ) → this.suffix ≡ None → in_context this (line_of text) ≡ line_of text
line_in_place this text none = by (is_comment (columns_of text))
  where
    by : (b : Bool)
        → in_context this (record {
          bytes = bytes_with (length text) (columns_of text);
          statement = cond b None (Some (statement_of (columns_of text)));
        })
        ≡ record {
          bytes = bytes_with (length text) (columns_of text);
          statement = cond b None (Some (statement_of (columns_of text)));
        }
    by true = refl
    by false = rw (statement_in_place this (columns_of text) none) refl

line_among : (these : Registers) (text : List ℕ) → with_registers these (line_of text) ≡ line_of text
line_among these text = by (is_comment (columns_of text))
  where
    by : (b : Bool)
        → with_registers these (record {
          bytes = bytes_with (length text) (columns_of text);
          statement = cond b None (Some (statement_of (columns_of text)));
        })
        ≡ record {
          bytes = bytes_with (length text) (columns_of text);
          statement = cond b None (Some (statement_of (columns_of text)));
        }
    by true = refl
    by false = rw (plain_statement these (columns_of text)) refl

suffix_below : (this : Context) (text : List ℕ) → (below this (line_of text)).suffix ≡ this.suffix
suffix_below this text = by (is_comment (columns_of text))
  where
    by : (b : Bool) → (below_statement this (cond b None (Some (statement_of (columns_of text))))).suffix ≡ this.suffix
    by true = refl
    by false =
        suffix_stays this (operation_of (columns_in 16 20 (columns_of text)))
        (columns_in 21 72 (columns_of text))

all_in_place : (this : Context) (texts : List (List ℕ)) → this.suffix ≡ None
    → with_context this (map line_of texts) ≡ map line_of texts
all_in_place this [] none = refl
all_in_place this (text ∷ texts) none =
    rw (
      line_in_place this text none,
      all_in_place (below this (line_of text)) texts (suffix_below this text ∙ none),
    )
    refl

all_among : (these : Registers) (texts : List (List ℕ))
    → map (with_registers these) (map line_of texts) ≡ map line_of texts
all_among these [] = refl
all_among these (text ∷ texts) = rw (line_among these text, all_among these texts) refl

-- lines of the plain language say with their neighbours what they say by themselves
pub settled_plain : (texts : List (List ℕ)) → settled (map line_of texts) ≡ map line_of texts
settled_plain texts =
    rw (all_in_place nothing_above texts refl) (all_among (registers_of (map line_of texts)) texts)

sound_lines : (texts : List (List ℕ)) → list_all is_sound (map line_of texts) ≡ true
    → list_all cuts_nothing texts ≡ true → map (line_in Ibm) texts ≡ map line_of texts
sound_lines [] all uncut = refl
sound_lines (text ∷ texts) all uncut =
    let parts = and_parts (is_sound (line_of text)) (list_all is_sound (map line_of texts)) all in
    let none = and_parts (cuts_nothing text) (list_all cuts_nothing texts) uncut in
    rw (
      sound_lines_agree text parts.0 (not-true (has_cut_constant (columns_of text)) none.0),
      sound_lines texts parts.1 none.1,
    )
    refl

-- lines that are sound in the plain language, and in which no text ends before another at sign, say the same in the wider
-- one, with their neighbours too
pub sound_lines_said : (texts : List (List ℕ)) → list_all is_sound (map line_of texts) ≡ true
    → list_all cuts_nothing texts ≡ true → lines_said Ibm texts ≡ lines_said Plain texts
sound_lines_said texts all uncut = rw (sound_lines texts all uncut) (settled_plain texts)
