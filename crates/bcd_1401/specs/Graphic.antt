-- The graphics by code (own; the 48 of A24-1403 among them).
use Rattle.std.specs.Prelude.{ℕ, List, ◌++◌, codes}

-- sixteen for each zone: none, A, B, and both
unfoldable pub graphics : List ℕ
graphics =
    codes " 1234567890#@:>(" ++ codes "^/STUVWXYZ',%=\\+" ++ codes "-JKLMNOPQR!$*];_" ++ codes "&ABCDEFGHI?.)[<\""
