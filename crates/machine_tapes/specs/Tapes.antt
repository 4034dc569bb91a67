-- The tape units of a machine (A24-1403, "Magnetic Tape", from memory).
use Rattle.std.specs.Prelude.{ℕ, ◌-◌, ◌==◌, ◌&&◌, Bool, false, List, replicate, slice_index_or, slice_set, if◌then◌else◌}
use Rattle.machine_tables.specs.TapeUnit.{tape_units}
use Rattle.machine_tapes.specs.Drive.{no_reel}
use Rattle.machine_tapes.specs.declared.drive.Drive.{Drive}

-- units 1 to 6, and the number of the unit that was selected last: 0 if none was
pub record Tapes : Type 0 where
  pub units : List Drive
  pub selected : ℕ

-- no unit has a reel, and none was selected
abbrev pub no_tapes : Tapes
no_tapes = record { units = replicate tape_units no_reel; selected = 0 }

-- the unit with this number; 0 is for none
abbrev pub unit_of : Tapes → ℕ → Drive
unit_of tapes number = if number == 0 then no_reel else slice_index_or tapes.units (number - 1) no_reel

-- another unit in place of the one with this number, which isn't 0
abbrev pub with_unit : ℕ → Drive → Tapes → Tapes
with_unit number drive tapes = record tapes { units = slice_set tapes.units (number - 1) drive }

-- the same, and the unit is selected
abbrev pub with_selected : ℕ → Drive → Tapes → Tapes
with_selected number drive tapes = record { units = slice_set tapes.units (number - 1) drive; selected = number }

-- whether the selected unit is ready, and met the end of a file
abbrev pub is_latched : Tapes → Bool
is_latched tapes = (unit_of tapes tapes.selected).is_ready && (unit_of tapes tapes.selected).latch

-- the latch of the selected unit turned off
abbrev pub without_latch : Tapes → Tapes
without_latch tapes = with_unit tapes.selected (record (unit_of tapes tapes.selected) { latch = false }) tapes
