-- What the options of a subcommand say, as they were found among the words (own).
use Rattle.std.specs.Prelude.{◌≡◌, ◌≢◌, ◌<◌, ◌^◌, ◌==◌, ℕ, Bool, true, false, List, [], ◌∷◌}
use Rattle.std.specs.Prelude.{Option, None, Some, String}
use Rattle.std.specs.Prelude.{IsTrue, codes, option_map, option_and_then, string_bytes, unwrap_or, if◌then◌else◌}
use Rattle.std.specs.List.{slice_split}
use Rattle.std.specs.Option.{option_or}
use Rattle.std.specs.Str.{bytes_eq}
use Rattle.std.specs.Str.Parse.{IsNumeral, digits_value, without_leading_plus}
use Rattle.clap.specs.Words.{first_value, matched_of, one_text, raw_values}
use Rattle.clap.specs.declared.parser.matches.Found.{Found}
use Rattle.clap.specs.declared.parser.matches.ValueSource.{ValueSource}
use Rattle.clap.specs.declared.parser.matches.ValueSource.TheVariants.{CommandLine}
use Rattle.bcd_1401.specs.declared.graphics.Graphics.{Graphics}
use Rattle.bcd_1401.specs.declared.graphics.Graphics.TheVariants as chains
use Rattle.autocoder_statements.specs.declared.language.Language.{Language}
use Rattle.autocoder_statements.specs.declared.language.Language.TheVariants.{Ibm, Plain}

-- what was read if there is no fault now: there was none before either
abbrev pub Reads : Bool → Bool → Type 0 → Type 0
Reads before now it = IsTrue now → IsTrue before × it

-- the name that an option gives; without the option there is none
abbrev pub IsNameIn : {Z : Type 0} → Found → List ℕ → Option (String Z) → Type 0
IsNameIn found option name = option_map string_bytes name ≡ first_value found option

-- whether an option without a value is there
abbrev pub IsFlagIn : Found → List ℕ → Bool → Type 0
IsFlagIn found option is =
    (one_text found option ≡ None → is ≡ false)
    × (one_text found option ≡ Some (codes "true") → is ≡ true)
    × (one_text found option ≡ Some (codes "false") → is ≡ false)

-- the number below 2 ^ bits that a text is in decimal digits, or none where it isn't one
abbrev pub IsReadAs : ℕ → List ℕ → Option ℕ → Type 0
IsReadAs bits text None =
    ¬ (IsNumeral 10 (without_leading_plus text) × (digits_value 10 (without_leading_plus text) < 2 ^ bits))
IsReadAs bits text (Some number) =
    IsNumeral 10 (without_leading_plus text) × (digits_value 10 (without_leading_plus text) < 2 ^ bits)
    × (number ≡ digits_value 10 (without_leading_plus text))

-- the numbers that texts are, in their order
abbrev pub AreReadAs : List (List ℕ) → List ℕ → Type 0
AreReadAs [] [] = Unit {0}
AreReadAs [] (number ∷ numbers) = ⊥
AreReadAs (text ∷ texts) [] = ⊥
AreReadAs (text ∷ texts) (number ∷ numbers) = IsReadAs 32 text (Some number) × AreReadAs texts numbers

-- the numbers of a list that is parted by commas; an empty text is one of none
abbrev pub AreNumbersOf : List ℕ → List ℕ → Type 0
AreNumbersOf [] numbers = numbers ≡ []
AreNumbersOf (byte ∷ bytes) numbers = AreReadAs (slice_split (λ b. b == 44) (byte ∷ bytes)) numbers

-- the number that an option's text is; without a text there is none
abbrev pub IsNumberIn : ℕ → Found → List ℕ → Option ℕ → Type 0
IsNumberIn bits found option number =
    (one_text found option ≡ None → number ≡ None)
    × ((text : List ℕ) → one_text found option ≡ Some text → IsReadAs bits text number)

-- the same, or else this one
abbrev pub IsNumberOr : ℕ → Found → List ℕ → ℕ → ℕ → Type 0
IsNumberOr bits found option other number =
    (read : Option ℕ) × IsNumberIn bits found option read × (number ≡ unwrap_or read other)

-- the values of an option; without the option there are none
abbrev pub values_in : Found → List ℕ → List (List ℕ)
values_in found option = unwrap_or (option_map raw_values (matched_of found option)) []

-- where the value of an option comes from
abbrev pub source_of : Found → List ℕ → Option ValueSource
source_of found option = option_and_then (λ matched. matched.source) (matched_of found option)

-- the size that the words themselves name, and not its default
abbrev pub IsNamedSizeIn : Found → Option ℕ → Type 0
IsNamedSizeIn found size =
    (source_of found (codes "size") ≡ Some CommandLine → IsNumberIn 16 found (codes "size") size)
    × (source_of found (codes "size") ≢ Some CommandLine → size ≡ None)

-- the language of this name; any other than the wider one's is the plain one's
abbrev pub language_in : Option (List ℕ) → Language
language_in None = Plain
language_in (Some name) = if bytes_eq name (codes "ibm") then Ibm else Plain

-- the print chain of this name; any other than the two of SIMH is this machine's
abbrev pub graphics_named : List ℕ → Graphics
graphics_named name =
    if bytes_eq name (codes "simh") then chains.Simh
    else if bytes_eq name (codes "fortran") then chains.Fortran
    else chains.Ours

-- the print chain that an option names, if it names one
abbrev pub graphics_in : Option (List ℕ) → Option Graphics
graphics_in name = option_map graphics_named name

-- the print chain that this option names, or else the one for all
abbrev pub graphics_by : Found → List ℕ → Option Graphics
graphics_by found option =
    option_or (graphics_in (first_value found option)) (graphics_in (first_value found (codes "graphics")))
