-- Texts that begin with given bytes (own).
use Rattle.std.specs.Prelude.{ℕ, List, length, take, drop, Option, None, Some, if◌then◌else◌}
use Rattle.std.specs.Str.{bytes_eq}

-- what follows these bytes, if the text begins with them
abbrev pub after_prefix : List ℕ → List ℕ → Option (List ℕ)
after_prefix front text = if bytes_eq (take (length front) text) front then Some (drop (length front) text) else None
