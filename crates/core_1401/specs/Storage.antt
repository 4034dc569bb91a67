-- Core storage as the list of its cells by address (A24-1403, "Core Storage").
use Rattle.std.specs.Prelude.{ℕ, ◌==◌, Bool, false, List, [], ◌∷◌, length, replicate, slice_index_or, slice_set, nat_lt}
use Rattle.std.specs.List.{list_any}
use Rattle.bcd_1401.specs.declared.cell.Cell.{Cell}

-- what each address holds
abbrev pub Storage : Type 0
Storage = List Cell

-- a blank without a word mark
abbrev pub blank : Cell
blank = record { char = 0; mark = false }

-- core storage of this size at power-on
abbrev pub blanks : ℕ → Storage
blanks size = replicate size blank

-- the sizes that there are, the smallest first
abbrev pub core_sizes : List ℕ
core_sizes = 1400 ∷ 2000 ∷ 4000 ∷ 8000 ∷ 12000 ∷ 16000 ∷ []

-- the smallest of them
abbrev pub least_core_size : ℕ
least_core_size = slice_index_or core_sizes 0 0

-- whether this is one of them
abbrev pub is_core_size : ℕ → Bool
is_core_size size = list_any (λ each. size == each) core_sizes

-- whether an address is that of a place
abbrev pub is_in_core : Storage → ℕ → Bool
is_in_core storage at = nat_lt at (length storage)

-- what is at a place
abbrev pub cell_at : Storage → ℕ → Cell
cell_at storage at = slice_index_or storage at blank

-- another character at a place, with the word mark that was there
abbrev pub with_char : Storage → ℕ → ℕ → Storage
with_char storage at char = slice_set storage at (record (cell_at storage at) { char = char })

-- another word mark at a place, with the character that was there
abbrev pub with_mark : Storage → ℕ → Bool → Storage
with_mark storage at mark = slice_set storage at (record (cell_at storage at) { mark = mark })
