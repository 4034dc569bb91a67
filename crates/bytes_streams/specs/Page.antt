-- A text that is written a page after the other (own).
use Rattle.std.specs.Prelude.{◌≡◌, ℕ, List, ◌++◌, Option}
use Rattle.std.specs.Io.KnownBytes.{Appends}

-- how many bytes are written at once
abbrev pub most_in_page : ℕ
most_in_page = 16384

-- of a text the front was received, and this is left
abbrev pub Sent : Option (List ℕ) → Option (List ℕ) → List ℕ → List ℕ → Type 0
Sent old new text left = (front : List ℕ) × (text ≡ front ++ left) × Appends old new front
