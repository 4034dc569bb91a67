-- The operands of CTL, SFX and CHAIN (Autocoder, "Control Card", "Suffix", "Chained Instructions"; the bounds of CHAIN
-- and SFX without operand own).
use Rattle.std.specs.Prelude.{ℕ, ◌==◌, Bool, if◌then◌else◌, List, [], ◌∷◌, slice_index, None}
use Rattle.std.specs.List.{list_any}
use Rattle.std.specs.Str.{byte}
use Rattle.autocoder_statements.specs.Label.{is_letter_or_digit}
use Rattle.autocoder_statements.specs.Numbers.{number_between}
use Rattle.autocoder_statements.specs.Operands.{is_ended, lone_operand}
use Rattle.autocoder_statements.specs.Punctuation.{blank}
use Rattle.autocoder_statements.specs.declared.statement.Chain.{Chain}
use Rattle.autocoder_statements.specs.declared.statement.SizeField.{SizeField}
use Rattle.autocoder_statements.specs.declared.statement.SizeField.TheVariants as sizes
use Rattle.autocoder_statements.specs.declared.statement.SuffixField.{SuffixField}
use Rattle.autocoder_statements.specs.declared.statement.SuffixField.TheVariants as suffixes

-- the size of core that a column of CTL says
abbrev pub size_by : ℕ → SizeField
size_by column =
    if column == blank then sizes.Absent
    else if column == byte "1" then sizes.Size 1400
    else if column == byte "2" then sizes.Size 2000
    else if column == byte "3" then sizes.Size 4000
    else if column == byte "4" then sizes.Size 8000
    else if column == byte "5" then sizes.Size 12000
    else if column == byte "6" then sizes.Size 16000
    else sizes.Malformed

-- the sizes that CTL asks for
abbrev pub is_control_size : ℕ → Bool
is_control_size size = list_any (λ each. size == each) (1400 ∷ 2000 ∷ 4000 ∷ 8000 ∷ 12000 ∷ 16000 ∷ [])

-- it is the second of the columns for operands; nothing else is looked at
abbrev pub size_in : List ℕ → SizeField
size_in columns = size_by (slice_index columns 1)

-- a suffix is one letter or digit
abbrev pub suffix_of : List ℕ → SuffixField
suffix_of [] = suffixes.Malformed
suffix_of (graphic ∷ []) = if is_letter_or_digit graphic then suffixes.Suffix graphic else suffixes.Malformed
suffix_of (graphic ∷ next ∷ more) = suffixes.Malformed

-- without operand SFX ends the suffix
abbrev pub suffix_in : List ℕ → SuffixField
suffix_in columns = if is_ended columns then suffixes.Absent else suffix_of (lone_operand columns)

-- the number of times that an operation is repeated; which one, the line above says
abbrev pub chain_in : List ℕ → Chain
chain_in columns = record { operation = None; count = number_between 1 99 (lone_operand columns) }
