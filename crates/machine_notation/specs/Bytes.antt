-- The bytes that lines of a text are made with (own).
use Rattle.std.specs.Prelude.{ℕ}

-- it ends a line
abbrev pub line_feed : ℕ
line_feed = 10
