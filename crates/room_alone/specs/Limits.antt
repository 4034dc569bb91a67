-- How much the console takes (own).
use Rattle.std.specs.Prelude.{ℕ}

-- how many bytes of a line are kept: the most that it has, a carriage return, and one that is too many
abbrev pub kept_bytes : ℕ
kept_bytes = 202

-- the most bytes that a session reads
abbrev pub most_bytes : ℕ
most_bytes = 16777216
