-- Parts of a character moved (A24-1403, "Move Digit" and "Move Zone").
use Rattle.std.specs.Prelude.{ℕ, ◌&&◌, Ok, Err, if◌then◌else◌}
use Rattle.bcd_1401.specs.Character.{zone_of, with_zone_of}
use Rattle.core_1401.specs.Storage.{Storage, is_in_core, cell_at, with_char}
use Rattle.fields_1401.specs.declared.done.FieldStop.TheVariants.{Address}
use Rattle.fields_1401.specs.Outcome.{Outcome, below_by, registers_of}

-- the low bits of one character under the zone of another
abbrev pub digit_under_zone : Storage → ℕ → ℕ → ℕ
digit_under_zone storage low zone = with_zone_of (cell_at storage low).char (zone_of (cell_at storage zone).char)

-- a character put at b
abbrev pub part_moved_at : Storage → ℕ → ℕ → ℕ → Outcome
part_moved_at storage a b char =
    if is_in_core storage a && is_in_core storage b then Ok (
      with_char storage b char,
      registers_of (below_by a 1) (below_by b 1),
    ) else Err Address

-- the low bits at a go to b; the zone there stays
abbrev pub digit_moved_at : Storage → ℕ → ℕ → Outcome
digit_moved_at storage a b = part_moved_at storage a b (digit_under_zone storage a b)

-- the zone at a goes to b; the low bits there stay
abbrev pub zone_moved_at : Storage → ℕ → ℕ → Outcome
zone_moved_at storage a b = part_moved_at storage a b (digit_under_zone storage b a)
