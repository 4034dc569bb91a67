-- How long a peer is waited for (own).
use Rattle.std.specs.Prelude.{ℕ}

-- in nanoseconds, a second: for the first byte of a request, for the rest, for taking the answer, and for the end
abbrev pub patience : ℕ
patience = 1000000000
