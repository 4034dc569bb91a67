-- Constants of the wider language: what DCW and DC take in addition, and constants of addresses
-- (Autocoder, "DCW", "Address Constants", C24-3258 and J24-1434; fifty digits, and that a text with at signs in it goes on
-- to the last of them, own).
use Rattle.std.specs.Prelude.{ℕ, ◌-◌, ◌==◌, nat_lt, Bool, true, false, not, ◌&&◌, ◌||◌, if◌then◌else◌, List, [], ◌∷◌, length}
use Rattle.std.specs.Prelude.{take, drop, slice_index, Option, None, Some}
use Rattle.std.specs.List.{suffix_len, list_all, list_any}
use Rattle.std.specs.Option.{option_map, option_or}
use Rattle.bcd_1401.specs.Digits.{is_digit}
use Rattle.autocoder_statements.specs.Constant.{constant_of, is_at_sign, text_of}
use Rattle.autocoder_statements.specs.Literal.{signed_address}
use Rattle.autocoder_statements.specs.Numbers.{number_between}
use Rattle.autocoder_statements.specs.Operands.{beyond_operand, is_ended, lone_operand, operand_in, operands_of}
use Rattle.autocoder_statements.specs.Punctuation.{at_sign, minus_sign, number_sign, plus_sign}
use Rattle.autocoder_statements.specs.Statement.{one_address}
use Rattle.autocoder_statements.specs.WideColumns.{begins_text}
use Rattle.autocoder_statements.specs.declared.address.Address.{Address}
use Rattle.autocoder_statements.specs.declared.constant.Constant.{Constant}
use Rattle.autocoder_statements.specs.declared.constant.Constant.TheVariants as constants
use Rattle.autocoder_statements.specs.declared.constant.Text.{Text}
use Rattle.autocoder_statements.specs.declared.language.Language.TheVariants as languages
use Rattle.autocoder_statements.specs.declared.operands.Operand.TheVariants as operands
use Rattle.autocoder_statements.specs.declared.operands.OperandField.TheVariants as fields
use Rattle.autocoder_statements.specs.declared.operands.Operands.{Operands}
use Rattle.autocoder_statements.specs.declared.statement.AddressConstant.{AddressConstant}
use Rattle.autocoder_statements.specs.declared.statement.Body.{Body}
use Rattle.autocoder_statements.specs.declared.statement.Body.TheVariants as bodies

-- one to fifty digits
abbrev pub long_digits : List ℕ → Option Text
long_digits word =
    if (length word == 0) || nat_lt 50 (length word) || not (list_all is_digit word) then None else Some (text_of word)

-- a number with a sign or without
abbrev pub long_number_of : List ℕ → Option Constant
long_number_of [] = None
long_number_of (byte ∷ more) =
    if byte == plus_sign then option_map constants.Plus (long_digits more)
    else if byte == minus_sign then option_map constants.Minus (long_digits more)
    else option_map constants.Number (long_digits (byte ∷ more))

abbrev pub is_no_at_sign : ℕ → Bool
is_no_at_sign byte = not (byte == at_sign)

-- how many bytes there are up to the last at sign, with it
abbrev pub len_to_at_sign : List ℕ → ℕ
len_to_at_sign text = length text - suffix_len is_no_at_sign text

-- what follows an at sign, up to the last one, which ends the operands
abbrev pub whole_text : List ℕ → Option Text
whole_text text =
    let n = len_to_at_sign text in
    if nat_lt n 2 || nat_lt 51 n || not (is_ended (drop n text)) then None else Some (text_of (take (n - 1) text))

-- a text with at signs in it, if there is no second operand
abbrev pub whole_text_of : List ℕ → Option Constant
whole_text_of [] = None
whole_text_of (byte ∷ more) =
    if (byte == at_sign) && is_ended (beyond_operand (byte ∷ more)) then option_map constants.Text (whole_text more)
    else None

-- columns for operands hold a text, and another at sign in what follows it
abbrev pub has_cut_text : List ℕ → Bool
has_cut_text columns =
    begins_text columns && is_ended (beyond_operand columns) && list_any is_at_sign (beyond_operand columns)

-- a text with at signs in it, where a shorter one ends before a blank
abbrev pub uncut_text_of : List ℕ → Option Constant
uncut_text_of columns = if has_cut_text columns then whole_text_of columns else None

-- the constant that columns for operands hold: one of both languages, a longer number, or a text with at signs in it
abbrev pub wide_constant_of : List ℕ → Option Constant
wide_constant_of columns =
    option_or (uncut_text_of columns)
    (option_or (constant_of (lone_operand columns))
    (option_or (long_number_of (lone_operand columns)) (whole_text_of columns)))

-- how many blanks a word asks for, if they are more than a literal may have
abbrev pub many_blanks : List ℕ → Option ℕ
many_blanks [] = None
many_blanks (byte ∷ more) = if byte == number_sign then number_between 51 9999 more else None

-- an address as the only operand, if nothing follows it
abbrev pub only : Address → List ℕ → Operands
only address beyond =
    record { a = fields.Operand (operands.Address address); b = fields.Absent; d = None; is_whole = is_ended beyond }

-- a constant with a word mark or without
abbrev pub constant_by : Bool → Option Constant → Body
constant_by is_marked constant = if is_marked then bodies.MarkedConstant constant else bodies.Constant constant

abbrev pub address_or_none : Bool → Option Address → List ℕ → Body
address_or_none is_marked None columns = constant_by is_marked None
address_or_none is_marked (Some address) columns =
    bodies.AddressConstant (record {
      is_marked = is_marked;
      is_negative = slice_index columns 0 == minus_sign;
      operands = only address (beyond_operand columns);
    })

-- what is a constant in the plain language stays one
abbrev pub constant_or_address : Bool → Option Constant → List ℕ → Body
constant_or_address is_marked (Some constant) columns = constant_by is_marked (Some constant)
constant_or_address is_marked None columns = address_or_none is_marked (signed_address (operand_in columns)) columns

-- many blanks have a word mark
abbrev pub blanks_or_else : Bool → Option ℕ → List ℕ → Body
blanks_or_else is_marked (Some places) columns =
    if is_marked then bodies.Blanks places else constant_by is_marked None
blanks_or_else is_marked None columns =
    constant_or_address is_marked (wide_constant_of columns) columns

-- what DCW and DC ask for
abbrev pub wide_constant : Bool → List ℕ → Body
wide_constant is_marked columns = blanks_or_else is_marked (many_blanks (lone_operand columns)) columns

-- what DSA asks for: a DCW of its address
abbrev pub constant_of_address : List ℕ → AddressConstant
constant_of_address columns =
    record { is_marked = true; is_negative = false; operands = operands_of languages.Ibm one_address columns }
