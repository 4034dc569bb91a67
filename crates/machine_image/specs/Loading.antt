-- The commands by which a machine is made ready (own): it is fitted, if there are features to fit it with; and an image is
-- loaded, whose segments are deposited in order before the I register is set to its entry.
use Rattle.std.specs.Prelude.{List, [], ◌∷◌, ◌++◌, map, if◌then◌else◌}
use Rattle.machine_tables.specs.Features.{are_some}
use Rattle.machine_tables.specs.declared.features.Features.{Features}
use Rattle.machine_image.specs.declared.image.Image.{Image}
use Rattle.machine_image.specs.declared.image.Segment.{Segment}
use Rattle.machine_commands.specs.declared.command.Command.{Command}
use Rattle.machine_commands.specs.declared.command.Command.TheVariants.{Deposit, Fit, SetI}

-- the command that fits a machine with features, if there are any
abbrev pub fit_commands : Features → List Command
fit_commands features = if are_some features then Fit features ∷ [] else []

-- the command that deposits a segment
abbrev pub deposit_of : Segment → Command
deposit_of segment = Deposit segment.address segment.cells

-- the commands that load an image
abbrev pub load_commands : Image → List Command
load_commands image = map deposit_of image.segments ++ SetI image.start ∷ []
