-- Tape units as instructions name them (A24-1403, "Magnetic Tape", from memory).
use Rattle.std.specs.Prelude.{ℕ, ◌+◌, ◌-◌, ◌==◌, ◌&&◌, ◌||◌, nat_le, List, Option, None, Some, codes, if◌then◌else◌}
use Rattle.std.specs.Prelude.{slice_index}
use Rattle.machine_tables.specs.declared.tape_unit.TapeUnit.{TapeUnit}

-- the graphics of a unit's name
abbrev pub percent : ℕ
percent = slice_index (codes "%") 0

abbrev pub even_letter : ℕ
even_letter = slice_index (codes "U") 0

abbrev pub odd_letter : ℕ
odd_letter = slice_index (codes "B") 0

abbrev pub digit_zero : ℕ
digit_zero = slice_index (codes "0") 0

-- how many units there are
abbrev pub tape_units : ℕ
tape_units = 6

-- the unit of a name: %U1 to %U6, and %B1 to %B6 for odd parity
abbrev pub unit_named : ℕ → ℕ → ℕ → Option TapeUnit
unit_named first second third =
    if (first == percent)
    && ((second == even_letter) || (second == odd_letter))
    && nat_le (digit_zero + 1) third
    && nat_le third (digit_zero + tape_units)
    then Some (record { number = third - digit_zero; is_odd = second == odd_letter })
    else None
