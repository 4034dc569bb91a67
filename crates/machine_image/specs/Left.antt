-- The commands that are left while an image is loaded (own).
use Rattle.std.specs.Prelude.{ℕ, List, [], ◌∷◌, ◌++◌, map, Option, None, Some}
use Rattle.machine_image.specs.declared.image.Segment.{Segment}
use Rattle.machine_commands.specs.declared.command.Command.{Command}
use Rattle.machine_commands.specs.declared.command.Command.TheVariants.{SetI}
use Rattle.machine_image.specs.declared.commands.SegmentsLeft.{SegmentsLeft}
use Rattle.machine_image.specs.declared.commands.SegmentsLeft.TheVariants.{Kept, Lent}
use Rattle.machine_image.specs.Loading.{deposit_of}

-- the segments that aren't deposited yet
abbrev pub segments_left : SegmentsLeft → List Segment
segments_left (Kept segments) = segments.now
segments_left (Lent image) = image.segments

-- the command that sets the I register, if it isn't set yet
abbrev pub set_i_left : Option ℕ → List Command
set_i_left None = []
set_i_left (Some start) = SetI start ∷ []

-- the commands that are left: the deposits of these segments, and then this entry
abbrev pub commands_left : List Segment → Option ℕ → List Command
commands_left segments start = map deposit_of segments ++ set_i_left start
