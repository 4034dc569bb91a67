-- What the d-character of a carriage control asks for, and the tape (A24-1403, "Control Carriage"; the holes are own).
use Rattle.std.specs.Prelude.{ℕ, ◌%◌, ◌==◌, ◌&&◌, ◌||◌, nat_le, Bool, Option, Some, None, Result, Ok, Err}
use Rattle.std.specs.Prelude.{if◌then◌else◌}
use Rattle.bcd_1401.specs.Character.{zone_of}
use Rattle.devices_1401.specs.declared.fault.ControlFault.{ControlFault}
use Rattle.devices_1401.specs.declared.fault.ControlFault.TheVariants.{DChar, Carriage}

-- a movement of the carriage: a number of spaces, or a skip to a line
pub data Control : Type 0 where
  Space : ℕ → Control
  Skip : ℕ → Control

-- the line of a channel's hole: the tape has one at line 4 for channel 1, at line 60 for 9 and at line 63 for 12
abbrev pub line_of_channel : ℕ → Option ℕ
line_of_channel channel =
    if channel == 1 then Some 4 else (if channel == 9 then Some 60 else (if channel == 12 then Some 63 else None))

-- the low bits of a character
abbrev pub low_of : ℕ → ℕ
low_of char = char % 16

-- Without a zone, and with zone B, the movement is done now; with zone A and with both after the next print.
abbrev pub is_immediate : ℕ → Bool
is_immediate char = zone_of char == 0 || zone_of char == 2

-- a skip to the hole of a channel, which may have none
abbrev pub skip_to : Option ℕ → Result Control ControlFault
skip_to (Some line) = Ok (Skip line)
skip_to None = Err Carriage

-- the low bits of 1 to 9, 0, # and @ ask for a skip to the channels 1 to 12
abbrev pub skip_by : ℕ → Result Control ControlFault
skip_by low = if nat_le 1 low && nat_le low 12 then skip_to (line_of_channel low) else Err DChar

-- those of 1, 2 and 3 for as many spaces
abbrev pub space_by : ℕ → Result Control ControlFault
space_by low = if nat_le 1 low && nat_le low 3 then Ok (Space low) else Err DChar

-- The movement that a d-character asks for: a skip without a zone and with both, as 1 and A, and spaces with one zone,
-- as J and /.
abbrev pub movement_of : ℕ → Result Control ControlFault
movement_of char = if zone_of char == 0 || zone_of char == 3 then skip_by (low_of char) else space_by (low_of char)
