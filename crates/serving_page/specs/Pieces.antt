-- A text cut at each byte that parts it (own).
use Rattle.std.specs.Prelude.{ℕ, ◌==◌, Bool, List, [], Option, None, Some}
use Rattle.std.specs.List.{slice_split}

-- the byte is where a text is split
abbrev pub is_byte : ℕ → ℕ → Bool
is_byte parting byte = byte == parting

-- the pieces of a text
abbrev pub pieces_of : ℕ → List ℕ → List (List ℕ)
pieces_of parting text = slice_split (is_byte parting) text

-- the same, if there is more of it
abbrev pub pieces_in : ℕ → Option (List ℕ) → List (List ℕ)
pieces_in parting None = []
pieces_in parting (Some text) = pieces_of parting text
