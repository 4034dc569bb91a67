-- What the seats of a room do before operators come (own).
use Rattle.std.specs.Prelude.{◌≡◌, ℕ, ◌+◌, List, [], ◌∷◌, ◌++◌, map, Option, None, Some}
use Rattle.devices_1401.specs.declared.card.Card.{Card}
use Rattle.machine_image.specs.declared.image.Image.{Image}
use Rattle.machine_commands.specs.declared.answer.Answer.{Answer}
use Rattle.machine_commands.specs.declared.command.Command.{Command}
use Rattle.machine_commands.specs.declared.command.Command.TheVariants.{Feed}
use Rattle.room_1401.specs.Seen.{SeatView, Carries}
use Rattle.machine_image.specs.Loading.{fit_commands, load_commands}
use Rattle.machine_tables.specs.declared.features.Features.{Features}
use Rattle.serving_room.specs.Giving.{GiveAll}
use Rattle.program_rooms.specs.declared.beginning.Before.{Before}
use Rattle.program_rooms.specs.declared.beginning.Before.TheVariants.{Program, Journal}

-- the commands that feed cards
abbrev pub feed_commands : List Card → List Command
feed_commands cards = map (λ (card : Card). Feed card) cards

-- the commands that load an image, if there is one, and then feed cards
abbrev pub ready_commands : Option Image → List Card → List Command
ready_commands None cards = feed_commands cards
ready_commands (Some image) cards = load_commands image ++ feed_commands cards

-- and before all else the one that fits the machine with features, if there are any
abbrev pub first_commands : Features → Option Image → List Card → List Command
first_commands features image cards = fit_commands features ++ ready_commands image cards

-- A seat gave a command, which was answered as the sequential machine answers it after the commands before it.
pub record Gave (size : ℕ) (command : Command) (old new : SeatView) : Type 0 where
  pub number : new.number ≡ old.number
  pub made : new.made ≡ old.made + 1
  pub answer : Answer
  pub carried : Carries size old.list new.list old.number command answer

-- A seat gave these commands in turn, and no others.
abbrev pub GaveAll : ℕ → List Command → SeatView → SeatView → Type 0
GaveAll size [] old new = new ≡ old
GaveAll size (command ∷ commands) old new =
    (seat : SeatView) × Gave size command old seat × GaveAll size commands seat new

-- The first of these seats gave these commands, and the others are as they were.
pub record FirstGave (size : ℕ) (commands : List Command) (old new : List SeatView) : Type 0 where
  pub before : SeatView
  pub after : SeatView
  pub rest : List SeatView
  pub old_is : old ≡ before ∷ rest
  pub new_is : new ≡ after ∷ rest
  pub gave : GaveAll size commands before after

-- What these seats did before operators came: the first one fitted the machine, if there are features, loaded the image,
-- if there is one, and fed the cards; or each gave its commands of a journal again.
abbrev pub HasBegun : ℕ → Before → List SeatView → List SeatView → Type 0
HasBegun size (Program program) old new =
    FirstGave size (first_commands program.features program.image program.cards.now) old new
HasBegun size (Journal room) old new = GiveAll size room.now.journal old new

-- what fits the machine with these features, if there are any, and does nothing else
abbrev pub FitsAlone : Features → Before → Type 0
FitsAlone features (Program program) =
    first_commands program.features program.image program.cards.now ≡ fit_commands features
FitsAlone features (Journal room) = ⊥
