-- What a sink has received of a text (own).
use Rattle.std.specs.Prelude.{◌≡◌, ℕ, List, ◌++◌, Option}
use Rattle.std.specs.Io.KnownBytes.{Appends}

-- the text begins with the part
abbrev pub BeginsWith : List ℕ → List ℕ → Type 0
BeginsWith text part = (rest : List ℕ) × (text ≡ part ++ rest)

-- what was received grew by a beginning of the text
abbrev pub AppendsPart : Option (List ℕ) → Option (List ℕ) → List ℕ → Type 0
AppendsPart old new text = (part : List ℕ) × BeginsWith text part × Appends old new part
