-- The printed lines that a picture shows (own).
use Rattle.std.specs.Prelude.{ℕ, List, drop, take}
use Rattle.devices_1401.specs.declared.print_line.PrintLine.{PrintLine}

-- how many lines a picture shows at most, as many as a form has
abbrev pub window_lines : ℕ
window_lines = 66

-- the lines from an index on, oldest first
abbrev pub lines_from : List PrintLine → ℕ → List PrintLine
lines_from paper at = take window_lines (drop at paper)
