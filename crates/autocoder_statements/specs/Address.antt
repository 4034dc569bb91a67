-- Addresses as the source writes them (Autocoder, "Operand", "Address Adjustment", "Indexing").
use Rattle.std.specs.Prelude.{ℕ, ◌==◌, Bool, false, ◌&&◌, ◌||◌, if◌then◌else◌, List, length, take, drop, slice_index, ℤ}
use Rattle.std.specs.Prelude.{pos}
use Rattle.std.specs.Prelude.{neg_ℤ, Option, None, Some, codes}
use Rattle.std.specs.Option.{option_map, option_and_then}
use Rattle.std.specs.List.{prefix_len}
use Rattle.std.specs.Str.{bytes_eq}
use Rattle.bcd_1401.specs.Digits.{is_digit}
use Rattle.autocoder_statements.specs.Label.{is_letter_or_digit, label_of, register_of}
use Rattle.autocoder_statements.specs.Numbers.{short_number}
use Rattle.autocoder_statements.specs.Punctuation.{asterisk, plus_sign, minus_sign}
use Rattle.autocoder_statements.specs.declared.address.Address.{Address}
use Rattle.autocoder_statements.specs.declared.address.Base.{Base}
use Rattle.autocoder_statements.specs.declared.address.Base.TheVariants as bases
use Rattle.autocoder_statements.specs.declared.label.Label.{Label}
use Rattle.autocoder_statements.specs.declared.language.Language.{Language}
use Rattle.autocoder_statements.specs.declared.language.Language.TheVariants as languages

abbrev pub begins_with_asterisk : List ℕ → Bool
begins_with_asterisk text = slice_index text 0 == asterisk

-- an address begins with an asterisk, or with a word of letters and digits
abbrev pub base_len : List ℕ → ℕ
base_len text = if begins_with_asterisk text then 1 else prefix_len is_letter_or_digit text

-- X1 to X3 are index registers before they are symbols
abbrev pub register_or_symbol : Option ℕ → Option Label → Option Base
register_or_symbol (Some number) label = Some (bases.Register number)
register_or_symbol None label = option_map bases.Symbol label

-- the base that a name is: an index register in the wider language alone
abbrev pub named_base : Language → List ℕ → Option Base
named_base languages.Plain word = option_map bases.Symbol (label_of languages.Plain word)
named_base languages.Ibm word = register_or_symbol (register_of word) (label_of languages.Ibm word)

-- a word that is no number is a name
abbrev pub number_or_name : Language → Option ℕ → List ℕ → Option Base
number_or_name language (Some number) word = Some (bases.Number number)
number_or_name language None word = named_base language word

-- what an address is counted from
abbrev pub base_of : Language → List ℕ → Option Base
base_of language word =
    if bytes_eq word (codes "*") then Some bases.Here else number_or_name language (short_number word) word

-- that there is no index register may be written in the wider language
abbrev pub is_no_index : Language → List ℕ → Bool
is_no_index languages.Plain rest = false
is_no_index languages.Ibm rest = bytes_eq rest (codes "+X0")

-- the index register that an address ends with, or that it ends with none; +X0 is one by its number
abbrev pub index_of : Language → List ℕ → Option (Option ℕ)
index_of language rest =
    if length rest == 0 then Some None
    else if is_no_index language rest then Some (Some 0)
    else if bytes_eq rest (codes "+X1") then Some (Some 1)
    else if bytes_eq rest (codes "+X2") then Some (Some 2)
    else if bytes_eq rest (codes "+X3") then Some (Some 3)
    else None

abbrev pub indexed : Language → Base → ℤ → List ℕ → Option Address
indexed language base adjustment rest =
    option_map (λ index. record { base = base; adjustment = adjustment; index = index }) (index_of language rest)

-- an adjustment is a sign and a number
abbrev pub is_adjusted : List ℕ → Bool
is_adjusted rest =
    ((slice_index rest 0 == plus_sign) || (slice_index rest 0 == minus_sign)) && is_digit (slice_index rest 1)

abbrev pub adjustment_of : ℕ → ℕ → ℤ
adjustment_of sign number = if sign == minus_sign then neg_ℤ (pos number) else pos number

-- the number follows the sign, and the index register the number
abbrev pub adjusted_by : Language → Base → ℕ → List ℕ → Option Address
adjusted_by language base sign text =
    let n = prefix_len is_digit text in
    option_and_then (λ number. indexed language base (adjustment_of sign number) (drop n text))
    (short_number (take n text))

-- what follows the base: an adjustment or none, and an index register or none
abbrev pub adjusted : Language → Base → List ℕ → Option Address
adjusted language base rest =
    if is_adjusted rest then adjusted_by language base (slice_index rest 0) (drop 1 rest)
    else indexed language base (pos 0) rest

-- the address that a word is
abbrev pub address_of : Language → List ℕ → Option Address
address_of language word =
    let n = base_len word in
    option_and_then (λ base. adjusted language base (drop n word)) (base_of language (take n word))
