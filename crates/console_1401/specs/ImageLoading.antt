-- How a console loads an image (own): it gives the commands that load it, as seat 0, and each is answered `Done`.
use Rattle.std.specs.Prelude.{◌≡◌, ℕ, ◌+◌, ◌<◌, Bool, true, false, List, ◌++◌, length, map, take, nat_le, nat_lt}
use Rattle.machine_image.specs.declared.image.Image.{Image}
use Rattle.machine_image.specs.Loading.{fit_commands, load_commands}
use Rattle.machine_tables.specs.declared.features.Features.{Features}
use Rattle.machine_commands.specs.declared.answer.Answer.TheVariants.{Done}
use Rattle.machine_commands.specs.declared.command.Command.{Command}
use Rattle.machine_commands.specs.declared.command.Command.TheVariants.{Deposit, Examine, Registers, SetI, Switch, Feed}
use Rattle.machine_commands.specs.declared.command.Command.TheVariants.{LoadKey, Run, TakeLine, TakeCard, Fit}
use Rattle.room_alone.specs.declared.entry.Entry.{Entry}
use Rattle.room_alone.specs.Journal.{entry}

-- a command that the console has given
abbrev pub done_entry : Command → Entry
done_entry command = entry 0 command Done

-- what the journal has of an image that is loaded
abbrev pub load_entries : Image → List Entry
load_entries image = map done_entry (load_commands image)

-- and of features that a machine is fitted with
abbrev pub fit_entries : Features → List Entry
fit_entries features = map done_entry (fit_commands features)

-- whether a command deposits cells in core storage of this size, sets the I register to one of its
-- places, or fits the machine
abbrev pub is_within : ℕ → Command → Bool
is_within size (Deposit address cells) = nat_le (address + length cells) size
is_within size (SetI address) = nat_lt address size
is_within size (Examine address count) = false
is_within size Registers = false
is_within size (Switch n on) = false
is_within size (Feed card) = false
is_within size LoadKey = false
is_within size (Run limit) = false
is_within size TakeLine = false
is_within size TakeCard = false
is_within size (Fit features) = true

-- the journal went on by the first of these entries, and not by all of them
pub record WentOnByFewer (before after entries : List Entry) : Type 0 where
  pub count : ℕ
  pub fewer : count < length entries
  pub after_is : after ≡ before ++ take count entries
