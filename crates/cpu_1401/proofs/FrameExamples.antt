-- A step with a deck below the hopper's cards, and with cards in front of the stacker's, computed. The codes: 1 reads,
-- 4 punches, 10 is zero, 59 the full stop.
use Rattle.std.proofs.Common.{◌≡◌, List, [], ◌∷◌, replicate, None, Some, refl}
use Rattle.bcd_1401.specs.Graphic.{graphics}
use Rattle.devices_1401.specs.Devices.{no_cards}
use Rattle.devices_1401.specs.declared.card.Card.{Card}
use Rattle.machine_tables.specs.declared.stop.Stop.TheVariants as stop
use Rattle.cpu_1401.specs.CardsAndPrinter.{with_devices}
use Rattle.cpu_1401.specs.Frame.{Frame, framed, around}
use Rattle.cpu_1401.specs.State.{State}
use Rattle.cpu_1401.specs.Step.{step}
use Rattle.cpu_1401.proofs.ExampleCells.{plain, marked, with_program}

abbrev a_card : Card
a_card = record { 0 = [] }

abbrev deck_below : Frame
deck_below = record { deck = replicate 3 a_card; cards = []; lines = [] }

-- a reader with nothing in its hopper sees the deck
abbrev empty_reader : State
empty_reader = with_program (marked 1 ∷ plain 10 ∷ plain 10 ∷ plain 10 ∷ marked 59 ∷ []) 0

an_empty_reader_stops : (step empty_reader).stop ≡ Some stop.Reader
unfolding step graphics
an_empty_reader_stops = refl

an_empty_reader_sees_the_deck : (step (framed deck_below empty_reader)).stop ≡ None
unfolding step graphics
an_empty_reader_sees_the_deck = refl

-- one with a card doesn't
abbrev reader : State
reader = with_devices (record no_cards { hopper = a_card ∷ [] }) empty_reader

a_reader_sees_one_card : step (framed deck_below reader) ≡ around deck_below (step reader)
unfolding step graphics
a_reader_sees_one_card = refl

-- a punch sees that the stacker is full, and not how many cards are in it
abbrev puncher : State
puncher = with_program (marked 4 ∷ plain 10 ∷ plain 10 ∷ plain 10 ∷ marked 59 ∷ []) 0

abbrev stacked : List Card → Frame
stacked cards = record { deck = []; cards = cards; lines = [] }

a_punch_sees_a_full_stacker : (step (framed (stacked (replicate 500 a_card)) puncher)).stop ≡ Some stop.Stacker
unfolding step graphics
a_punch_sees_a_full_stacker = refl

a_punch_sees_no_card : step (framed (stacked (replicate 499 a_card)) puncher)
    ≡ around (stacked (replicate 499 a_card)) (step puncher)
unfolding step graphics
a_punch_sees_no_card = refl
