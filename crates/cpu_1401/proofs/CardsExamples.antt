-- Cards and lines on small machines, computed. The codes: 49 to 51 are A to C, 33 is J.
use Rattle.std.proofs.Common.{◌≡◌, ℕ, true, false, [], ◌∷◌, None, Some, replicate, refl}
use Rattle.bcd_1401.specs.Graphic.{graphics}
use Rattle.devices_1401.specs.Devices.{Devices, no_cards}
use Rattle.devices_1401.specs.declared.card.Card.{Card}
use Rattle.devices_1401.specs.declared.print_line.PrintLine.{PrintLine}
use Rattle.cpu_1401.specs.declared.io_request.IoRequest.{IoRequest}
use Rattle.machine_tables.specs.declared.stop.Stop.TheVariants as stop
use Rattle.core_1401.specs.Places.{with_cells}
use Rattle.cpu_1401.specs.CardsAndPrinter.{first_io_stop, mark_char, with_chars_from, with_program_card}
use Rattle.cpu_1401.specs.Step.{step}
use Rattle.cpu_1401.proofs.ExampleCells.{plain, marked, with_program}

abbrev a_card : Card
a_card = record { 0 = [] }

abbrev a_line : PrintLine
a_line = record { form = 1; line = 1; text = [] }

-- the paper and the stacker are full, the hopper is empty
abbrev all_wrong : Devices
all_wrong = record no_cards { paper = replicate 500 a_line; stacker = replicate 500 a_card }

abbrev all_three : IoRequest
all_three = record { line = Some []; reads = true; punches = true }

the_paper_is_looked_at_first : first_io_stop all_three all_wrong ≡ Some stop.Forms
the_paper_is_looked_at_first = refl

then_the_hopper : first_io_stop all_three (record all_wrong { paper = [] }) ≡ Some stop.Reader
then_the_hopper = refl

then_the_stacker : first_io_stop all_three (record all_wrong { paper = []; hopper = a_card ∷ [] }) ≡ Some stop.Stacker
then_the_stacker = refl

what_is_not_asked_for_hinders_nothing : first_io_stop (record { line = None; reads = false; punches = false }) all_wrong
    ≡ None
what_is_not_asked_for_hinders_nothing = refl

room_for_one_line_is_enough : first_io_stop all_three (record no_cards {
  paper = replicate 499 a_line;
  hopper = a_card
      ∷ [];
}) ≡ None
room_for_one_line_is_enough = refl

-- the B register after an operation with no address, and a card in the hopper
abbrev b_after : ℕ → ℕ
b_after char =
    (step (record (with_program (marked char ∷ marked 59 ∷ []) 0) {
      devices = record no_cards { hopper = a_card ∷ [] };
    })).state.b

b_is_the_place_beyond_the_last_area : (b_after 1 ≡ 81) × (b_after 2 ≡ 333) × (b_after 3 ≡ 81) × (b_after 4 ≡ 181)
    × (b_after 5 ≡ 181) × (b_after 6 ≡ 181) × (b_after 7 ≡ 181)
unfolding step graphics
b_is_the_place_beyond_the_last_area = (refl, refl, refl, refl, refl, refl, refl)

marks_stay_under_a_card : with_chars_from (plain 33 ∷ marked 33 ∷ plain 33 ∷ []) 1 (49 ∷ 50 ∷ []) ≡ plain 33 ∷ marked 49
    ∷ plain 50 ∷ []
marks_stay_under_a_card = refl

a_mark_is_printed_as_a_one : (mark_char (marked 49) ≡ 1) × (mark_char (plain 49) ≡ 0)
a_mark_is_printed_as_a_one = (refl, refl)

-- place 000 stays, 001 gets the one word mark, and what followed it is gone
the_load_key_leaves_one_mark : with_program_card (marked 33 ∷ plain 33 ∷ marked 33 ∷ marked 33 ∷ []) (49 ∷ 50 ∷ 51 ∷ [])
    ≡ marked 33 ∷ marked 49 ∷ plain 50 ∷ plain 51 ∷ []
unfolding with_cells
the_load_key_leaves_one_mark = refl
