-- Zone and digit of a character by its code (A24-1403, "Character Code" and "Addressing").
use Rattle.std.specs.Prelude.{ℕ, ◌+◌, ◌-◌, ◌*◌, ◌/◌, ◌%◌, ◌==◌, nat_le, if◌then◌else◌}

-- the zone: 0 for none, 1 for A, 2 for B, 3 for both
abbrev pub zone_of : ℕ → ℕ
zone_of code = code / 16

-- the digit that the four low bits stand for: 8-2 is zero, and 8-3 to 8-7 count as 3 to 7
abbrev pub digit_by : ℕ → ℕ
digit_by low = if nat_le low 9 then low else (if low == 10 then 0 else low - 8)

-- the digit of a character
abbrev pub digit_of : ℕ → ℕ
digit_of code = digit_by (code % 16)

-- the same low bits under another zone
abbrev pub with_zone_of : ℕ → ℕ → ℕ
with_zone_of code zone = 16 * zone + code % 16

-- the character of a digit under a zone: zero is 8-2
abbrev pub digit_under : ℕ → ℕ → ℕ
digit_under zone digit = 16 * zone + (if digit == 0 then 10 else digit)
