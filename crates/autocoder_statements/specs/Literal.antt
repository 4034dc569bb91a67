-- Literals of addresses and areas (Autocoder, "Literals", C24-3258 and J24-1434).
use Rattle.std.specs.Prelude.{ℕ, ◌==◌, Bool, true, false, ◌||◌, if◌then◌else◌, List, [], ◌∷◌, take, drop, slice_index}
use Rattle.std.specs.Prelude.{Option, None, Some}
use Rattle.std.specs.List.{position_or_len}
use Rattle.std.specs.Option.{option_and_then, option_map, option_or}
use Rattle.autocoder_statements.specs.Address.{address_of}
use Rattle.autocoder_statements.specs.Label.{label_of}
use Rattle.autocoder_statements.specs.Numbers.{number_between}
use Rattle.autocoder_statements.specs.Punctuation.{plus_sign, minus_sign, number_sign}
use Rattle.autocoder_statements.specs.declared.address.Address.{Address}
use Rattle.autocoder_statements.specs.declared.address.Base.{Base}
use Rattle.autocoder_statements.specs.declared.address.Base.TheVariants as bases
use Rattle.autocoder_statements.specs.declared.language.Language.TheVariants as languages
use Rattle.autocoder_statements.specs.declared.literal.AddressLiteral.{AddressLiteral}
use Rattle.autocoder_statements.specs.declared.literal.AreaLiteral.{AreaLiteral}
use Rattle.autocoder_statements.specs.declared.literal.Literal.{Literal}
use Rattle.autocoder_statements.specs.declared.literal.Literal.TheVariants as literals

-- a symbol, X1 to X3 among them
abbrev pub is_name : Base → Bool
is_name (bases.Number number) = false
is_name (bases.Symbol label) = true
is_name bases.Here = false
is_name (bases.Register number) = true
is_name bases.NextHundred = false

abbrev pub named : Address → Option Address
named address = if is_name address.base then Some address else None

abbrev pub is_sign : ℕ → Bool
is_sign byte = (byte == plus_sign) || (byte == minus_sign)

-- the address of a symbol that a word has after its sign
abbrev pub signed_address : List ℕ → Option Address
signed_address [] = None
signed_address (byte ∷ more) = if is_sign byte then option_and_then named (address_of languages.Ibm more) else None

-- an address of a symbol with its sign
abbrev pub address_literal_of : List ℕ → Option AddressLiteral
address_literal_of word =
    option_map (λ address. record { is_negative = slice_index word 0 == minus_sign; address = address })
    (signed_address word)

abbrev pub is_number_sign : ℕ → Bool
is_number_sign byte = byte == number_sign

-- a symbol, a number sign, and how many places it is to have
abbrev pub area_literal_of : List ℕ → Option AreaLiteral
area_literal_of word =
    let n = position_or_len is_number_sign word in
    option_and_then
    (λ label.
    option_map (λ places. record { label = label; places = places }) (number_between 1 50 (drop 1 (drop n word))))
    (label_of languages.Ibm (take n word))

-- the literal that a word is in the wider language alone
abbrev pub wide_literal_of : List ℕ → Option Literal
wide_literal_of word =
    option_or (option_map literals.Address (address_literal_of word))
    (option_map literals.Area (area_literal_of word))
