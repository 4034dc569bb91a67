-- What a sink that verifies a text has received (own).
use Rattle.std.specs.Prelude.{ℕ, nat_lt, if◌then◌else◌, List, [], length, take, Option, None, Some}

-- of the text that the sink beneath has, what was put again so far; after that, all that the sink has
abbrev pub verified : List ℕ → ℕ → Option (List ℕ) → Option (List ℕ)
verified text at None = None
verified text at (Some held) = if nat_lt at (length text) then Some (take at text) else Some held

-- nothing, of a sink whose bytes are known
abbrev pub emptied : Option (List ℕ) → Option (List ℕ)
emptied None = None
emptied (Some held) = Some []
