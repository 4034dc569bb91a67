-- What full devices want (own): the commands of a person who goes to them.
use Rattle.std.specs.Prelude.{◌≡◌, ℕ, ◌+◌, ◌-◌, Bool, if◌then◌else◌, List, [], ◌∷◌, ◌++◌, length, map, replicate, take}
use Rattle.devices_1401.specs.Devices.{Devices, is_full, most_held}
use Rattle.devices_1401.specs.declared.card.Card.{Card}
use Rattle.machine_commands.specs.declared.command.Command.{Command}
use Rattle.machine_commands.specs.declared.command.Command.TheVariants as command
use Rattle.room_alone.specs.Journal.{answer_to, entry}
use Rattle.room_alone.specs.declared.entry.Entry.{Entry}
use Rattle.operate_sitting.specs.declared.tending.Plan.{Plan}

-- as many as a device holds, if this is so
abbrev pub most_if : Bool → ℕ
most_if is_so = if is_so then most_held else 0

-- all lines are taken from a paper that is full, and all cards from such a stacker; the hopper is filled
abbrev pub plan_of : Devices → Plan
plan_of devices = record {
  lines = most_if (is_full devices.paper);
  cards = most_if (is_full devices.stacker);
  feeds = most_held - length devices.hopper;
}

-- the commands of a plan, with these cards in hand
abbrev pub planned : Plan → List Card → List Command
planned plan hand =
    replicate plan.lines command.TakeLine ++ replicate plan.cards command.TakeCard
    ++ map command.Feed (take plan.feeds hand)

-- what is done at the devices, with these cards in hand
abbrev pub tending : Devices → List Card → List Command
tending devices hand = planned (plan_of devices) hand

-- the journal after these commands more, each with its answer
abbrev pub carried_on : ℕ → List Entry → List Command → List Entry
carried_on size journal [] = journal
carried_on size journal (command ∷ commands) =
    carried_on size (journal ++ entry 0 command (answer_to size journal command) ∷ []) commands

-- the place of a journal at which a command feeds a card, if it does
abbrev pub feed_at : ℕ → Command → List ℕ
feed_at place (command.Feed card) = place ∷ []
feed_at place (command.Deposit address cells) = []
feed_at place (command.Examine address count) = []
feed_at place command.Registers = []
feed_at place (command.SetI address) = []
feed_at place (command.Switch n on) = []
feed_at place command.LoadKey = []
feed_at place (command.Run limit) = []
feed_at place command.TakeLine = []
feed_at place command.TakeCard = []
feed_at place (command.Fit features) = []

-- the places at which commands feed cards, if the first command gets this place
abbrev pub feeds_at : ℕ → List Command → List ℕ
feeds_at place [] = []
feeds_at place (command ∷ commands) = feed_at place command ++ feeds_at (place + 1) commands

-- These commands were carried out, and the places of the cards that they fed were noted.
abbrev pub CarriedAll : ℕ → List Command → List Entry → List Entry → List ℕ → List ℕ → Type 0
CarriedAll size commands before after given noted =
    (after ≡ carried_on size before commands) × (noted ≡ given ++ feeds_at (length before) commands)

-- The same for the first of these commands, or all of them.
pub record CarriedPart (size : ℕ) (commands : List Command) (before after : List Entry) (given noted : List ℕ)
    : Type 0 where
  pub done : List Command
  pub left : List Command
  pub commands_are : commands ≡ done ++ left
  pub carried : CarriedAll size done before after given noted
