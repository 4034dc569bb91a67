-- The collating order, in which a compare finds one character higher than another (A24-1403, "High-Low-Equal Compare
-- Device"; the order is own).
use Rattle.std.specs.Prelude.{ℕ, ◌==◌, List, ◌++◌, codes, map, slice_index}
use Rattle.std.specs.List.{position_or_len, range_with_len}
use Rattle.bcd_1401.specs.Graphic.{graphics}

-- the characters by their graphics, lowest first
unfoldable pub collation : List ℕ
collation =
    codes " .)[<\"&$*];_-/,%=\\+^#@:>(" ++ codes "?ABCDEFGHI" ++ codes "!JKLMNOPQR" ++ codes "'STUVWXYZ"
    ++ codes "0123456789"

-- the place of a character in that order
abbrev pub order_of : ℕ → ℕ
order_of char = position_or_len (λ each. each == slice_index graphics char) collation

-- the places of all characters by their code
unfoldable pub orders : List ℕ
orders = map order_of (range_with_len 0 64)
