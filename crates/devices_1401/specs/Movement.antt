-- The movements as the code has them, as those of the carriage.
use Rattle.std.specs.Prelude.{ℕ, Option, option_map}
use Rattle.devices_1401.specs.Control.{Control, Space, Skip}
use Rattle.devices_1401.specs.declared.control.Hole.{Hole}
use Rattle.devices_1401.specs.declared.control.Hole.TheVariants.{First, Ninth, Twelfth}
use Rattle.devices_1401.specs.declared.control.Movement.{Movement}
use Rattle.devices_1401.specs.declared.control.Movement.TheVariants.{SpaceBy, SkipTo}
use Rattle.devices_1401.specs.declared.control.Spaces.{Spaces}
use Rattle.devices_1401.specs.declared.control.Spaces.TheVariants.{One, Two, Three}

-- how many spaces
abbrev pub count_of : Spaces → ℕ
count_of One = 1
count_of Two = 2
count_of Three = 3

-- the line of a hole
abbrev pub line_of_hole : Hole → ℕ
line_of_hole First = 4
line_of_hole Ninth = 60
line_of_hole Twelfth = 63

-- the movement
abbrev pub control_of : Movement → Control
control_of (SpaceBy spaces) = Space (count_of spaces)
control_of (SkipTo hole) = Skip (line_of_hole hole)

-- the movement that waits, if there is one
abbrev pub pending_of : Option Movement → Option Control
pending_of pending = option_map control_of pending
