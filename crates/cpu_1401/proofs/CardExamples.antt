-- Cards fed, loaded and taken, and lines taken, on a small machine, computed. The codes: 49 to 51 are A to C.
use Rattle.std.proofs.Common.{◌≡◌, ℕ, true, false, List, [], ◌∷◌, replicate, refl}
use Rattle.bcd_1401.specs.declared.cell.Cell.{Cell}
use Rattle.core_1401.specs.Places.{with_cells}
use Rattle.core_1401.specs.Storage.{blank}
use Rattle.cpu_1401.specs.State.{State, power_on}
use Rattle.devices_1401.specs.Devices.{Devices, no_cards}
use Rattle.devices_1401.specs.declared.card.Card.{Card}
use Rattle.devices_1401.specs.declared.print_line.PrintLine.{PrintLine}
use Rattle.machine_commands.specs.declared.answer.Answer.TheVariants as answer
use Rattle.machine_commands.specs.declared.answer.Refusal.{Refusal}
use Rattle.machine_commands.specs.declared.answer.Refusal.TheVariants as refusal
use Rattle.machine_commands.specs.declared.command.Command.TheVariants.{Feed, LoadKey, TakeLine, TakeCard}
use Rattle.cpu_1401.specs.CarryOut.{Carried, carry_out}

abbrev card : List ℕ → Card
card chars = record { 0 = chars }

-- a line of form 1
abbrev line : ℕ → List ℕ → PrintLine
line at text = record { form = 1; line = at; text = text }

abbrev plain : ℕ → Cell
plain code = record { char = code; mark = false }

abbrev marked : ℕ → Cell
marked code = record { char = code; mark = true }

-- a machine of three places with these devices
abbrev machine_with : Devices → State
machine_with devices = record (power_on 3) { devices = devices }

abbrev is_refused : Refusal → State → Carried
is_refused why s = record { state = s; answer = answer.Refused why }

a_card_goes_beyond_those_in_the_hopper :
    carry_out (machine_with (record no_cards { hopper = card (49 ∷ []) ∷ [] })) (Feed (card (50 ∷ [])))
    ≡ record {
      state = machine_with (record no_cards { hopper = card (49 ∷ []) ∷ card (50 ∷ []) ∷ [] });
      answer = answer.Done;
    }
unfolding carry_out
a_card_goes_beyond_those_in_the_hopper = refl

-- the hopper with this number of cards
abbrev hopper_of : ℕ → State
hopper_of n = machine_with (record no_cards { hopper = replicate n (card []) })

the_five_hundredth_card_is_fed : (carry_out (hopper_of 499) (Feed (card []))).answer ≡ answer.Done
unfolding carry_out
the_five_hundredth_card_is_fed = refl

five_hundred_cards_are_the_most : carry_out (hopper_of 500) (Feed (card [])) ≡ is_refused refusal.Hopper (hopper_of 500)
unfolding carry_out
five_hundred_cards_are_the_most = refl

the_load_key_needs_a_card : carry_out (hopper_of 0) LoadKey ≡ is_refused refusal.Reader (hopper_of 0)
unfolding carry_out
the_load_key_needs_a_card = refl

-- the first card is loaded, and the other stays
the_load_key_reads_the_first_card :
    carry_out (machine_with (record no_cards { hopper = card (49 ∷ 50 ∷ []) ∷ card (51 ∷ []) ∷ [] })) LoadKey
    ≡ record {
      state = record (machine_with (record no_cards { hopper = card (51 ∷ []) ∷ [] })) {
        storage = blank ∷ marked 49 ∷ plain 50 ∷ [];
        i = 1;
      };
      answer = answer.Done;
    }
unfolding carry_out with_cells
the_load_key_reads_the_first_card = refl

the_oldest_line_is_taken :
    carry_out (machine_with (record no_cards { paper = line 4 (49 ∷ []) ∷ line 5 (50 ∷ []) ∷ [] })) TakeLine
    ≡ record {
      state = machine_with (record no_cards { paper = line 5 (50 ∷ []) ∷ [] });
      answer = answer.Line (line 4 (49 ∷ []));
    }
unfolding carry_out
the_oldest_line_is_taken = refl

the_oldest_card_is_taken :
    carry_out (machine_with (record no_cards { stacker = card (49 ∷ []) ∷ card (50 ∷ []) ∷ [] })) TakeCard
    ≡ record {
      state = machine_with (record no_cards { stacker = card (50 ∷ []) ∷ [] });
      answer = answer.Card (card (49 ∷ []));
    }
unfolding carry_out
the_oldest_card_is_taken = refl

-- cards that are fed aren't those that are taken
abbrev nothing_to_take : State
nothing_to_take = hopper_of 2

there_is_no_line_and_no_card_to_take :
    (carry_out nothing_to_take TakeLine ≡ is_refused refusal.Empty nothing_to_take)
    × (carry_out nothing_to_take TakeCard ≡ is_refused refusal.Empty nothing_to_take)
unfolding carry_out
there_is_no_line_and_no_card_to_take = (refl, refl)
