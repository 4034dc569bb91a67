-- The rows that are punched in a column for each character (A24-1403, "Character Code"; the rows of ^, ' and of the
-- characters with 8-5 to 8-7 are own).
use Rattle.std.specs.Prelude.{ℕ, ◌-◌, ◌/◌, ◌%◌, ◌^◌, ◌==◌, nat_le, List, [], ◌∷◌, ◌++◌, map, sum, if◌then◌else◌}
use Rattle.std.specs.List.{range_with_len}
use Rattle.bcd_1401.specs.Character.{zone_of}

-- the row of a zone: row 0 for A, row 11 for B, row 12 for both
abbrev pub zone_rows : ℕ → List ℕ
zone_rows zone =
    if zone == 0 then [] else (if zone == 1 then 0 ∷ [] else (if zone == 2 then 11 ∷ [] else 12 ∷ []))

-- the rows of the four low bits: none for 0, one for 1 to 9, and row 8 with another for 8-3 to 8-7
abbrev pub digit_rows : ℕ → List ℕ
digit_rows low = if low == 0 then [] else (if nat_le low 9 then low ∷ [] else 8 ∷ (low - 8) ∷ [])

-- the rows of 8-2: row 0, with the zone row for B and for both, and with rows 2 and 8 for A
abbrev pub zero_rows : ℕ → List ℕ
zero_rows zone =
    if zone == 0 then 0 ∷ []
    else (if zone == 1 then 0 ∷ 2 ∷ 8 ∷ [] else (if zone == 2 then 11 ∷ 0 ∷ [] else 12 ∷ 0 ∷ []))

-- the code of A alone
abbrev pub a_alone : ℕ
a_alone = 16

-- the rows of a character: those of its zone and of its low bits, but for 8-2 and for A alone
abbrev pub rows_of : ℕ → List ℕ
rows_of char =
    if char == a_alone then 2 ∷ 8 ∷ []
    else (if char % 16 == 10 then zero_rows (zone_of char) else zone_rows (zone_of char) ++ digit_rows (char % 16))

-- what a row counts in a column: row 12 is 2048, row 11 1024, row 0 512, and so on down to row 9, which is 1
abbrev pub row_value : ℕ → ℕ
row_value row = if row == 12 then 2048 else (if row == 11 then 1024 else 512 / 2 ^ row)

-- the column of a character
abbrev pub column_of : ℕ → ℕ
column_of char = sum (map row_value (rows_of char))

-- the columns of all characters by their code
unfoldable pub columns : List ℕ
columns = map column_of (range_with_len 0 64)
