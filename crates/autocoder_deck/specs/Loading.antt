-- A machine that takes a deck by the load key, and what it is when the program begins (own).
use Rattle.std.specs.Prelude.{◌≡◌, ℕ, List, ◌++◌, Ok}
use Rattle.core_1401.specs.Storage.{Storage}
use Rattle.cpu_1401.specs.CardsAndPrinter.{load}
use Rattle.machine_tables.specs.declared.stop.Stop.TheVariants as stop
use Rattle.cpu_1401.specs.Run.{Finished, run_for}
use Rattle.cpu_1401.specs.State.{State, power_on}
use Rattle.devices_1401.specs.declared.card.Card.{Card}
use Rattle.devices_1401.specs.Devices.{no_cards}
use Rattle.job_runner.specs.DeckText.{deck_of}

-- the machine at power-on with core storage of this size and these cards in its hopper, once the load key is pressed
abbrev pub loaded : ℕ → List Card → State
loaded size cards = load (record (power_on size) { devices = record no_cards { hopper = cards } })

-- the machine at the first step of a program: it has these cells in core storage and these cards in the hopper, and the
-- rest is as at power-on
abbrev pub at_entry : ℕ → Storage → ℕ → List Card → State
at_entry size storage start hopper =
    record (power_on size) { storage = storage; i = start; devices = record no_cards { hopper = hopper } }

-- a run of this many steps, none of which stopped the machine
abbrev pub all_carried_out : ℕ → State → Finished
all_carried_out steps s = record { state = s; steps = steps; stop = stop.Limit }

-- Steps, none of which stops the machine, lead from one state to another, whatever the A and B registers hold then.
pub record Leads (first last : State) : Type 0 where
  pub steps : ℕ
  pub a : ℕ
  pub b : ℕ
  pub run : run_for steps first ≡ all_carried_out steps (record last { a = a; b = b })

-- A text is that of a deck which loads itself: a machine at power-on that takes it by the load key comes to the entry,
-- by steps none of which stops it, and has these cells in core storage then. Of the cards in its hopper it has read the
-- deck's: those after them are left for the program.
pub record LoadsItself (text : List ℕ) (size : ℕ) (storage : Storage) (start : ℕ) : Type 0 where
  pub deck : List Card
  pub cards : deck_of text ≡ Ok deck
  pub begins : (beyond : List Card) → Leads (loaded size (deck ++ beyond)) (at_entry size storage start beyond)
