-- The byte that the console drops at the end of a line (own).
use Rattle.std.specs.Prelude.{ℕ}

-- one of these before a line feed doesn't count
abbrev pub carriage_return : ℕ
carriage_return = 13
