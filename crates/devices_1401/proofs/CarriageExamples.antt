-- The carriage, worked out by hand: form 1 begins at position 66.
use Rattle.std.proofs.Common.{◌≡◌, ℕ, Some, None, Ok, Err, true, false, refl}
use Rattle.devices_1401.specs.Carriage.{Carriage, first_line, form_of, line_of, lines_to, position_after, after_print}
use Rattle.devices_1401.specs.Carriage.{controlled, is_at_channel}
use Rattle.devices_1401.specs.Control.{Space, Skip, movement_of}
use Rattle.devices_1401.specs.declared.fault.ControlFault.TheVariants.{DChar, Carriage as no_hole}

-- a carriage with nothing pending
abbrev at : ℕ → Carriage
at position = record { position = position; pending = None }

power_on_is_line_one_of_form_one : (form_of first_line ≡ 1) × (line_of first_line ≡ 1)
power_on_is_line_one_of_form_one = (refl, refl)

-- line 66 of form 1, and the line after it
a_form_has_66_lines : (line_of (at 131) ≡ 66) × (form_of (at (position_after (Space 1) 131)) ≡ 2)
    × (line_of (at (position_after (Space 1) 131)) ≡ 1)
unfolding position_after
a_form_has_66_lines = (refl, refl, refl)

-- line 66 of form 9999, and two lines on
forms_begin_again : (form_of (at 659999) ≡ 9999) × (position_after (Space 2) 659999 ≡ 1)
unfolding position_after
forms_begin_again = (refl, refl)

a_skip_goes_down_the_form : lines_to 66 4 ≡ 3
a_skip_goes_down_the_form = refl

-- line 4 itself is 66 lines on
a_skip_leaves_its_own_line : (lines_to 69 4 ≡ 66) × (position_after (Skip 4) 69 ≡ 135)
unfolding position_after
a_skip_leaves_its_own_line = (refl, refl)

a_skip_to_a_line_passed_goes_to_the_next_form : position_after (Skip 4) 126 ≡ 135
unfolding position_after
a_skip_to_a_line_passed_goes_to_the_next_form = refl

a_print_spaces_one : after_print (at 66) ≡ at 67
unfolding position_after
a_print_spaces_one = refl

what_is_pending_is_done_in_its_place : after_print (record { position = 66; pending = Some (Space 3) }) ≡ at 69
unfolding position_after
what_is_pending_is_done_in_its_place = refl

-- 1 and A ask for channel 1, I for 9, @ and ) for 12
channel_one_now : controlled (at 66) 1 ≡ Ok (at 69)
unfolding controlled position_after
channel_one_now = refl

channel_one_after_print : controlled (at 66) 49 ≡ Ok (record { position = 66; pending = Some (Skip 4) })
unfolding controlled
channel_one_after_print = refl

channel_nine_after_print : movement_of 57 ≡ Ok (Skip 60)
channel_nine_after_print = refl

channel_twelve : (movement_of 12 ≡ Ok (Skip 63)) × (movement_of 60 ≡ Ok (Skip 63))
channel_twelve = (refl, refl)

-- 2, B and 0 ask for channels 2 and 10
no_hole_for_two_and_ten : (movement_of 2 ≡ Err no_hole) × (movement_of 50 ≡ Err no_hole)
    × (movement_of 10 ≡ Err no_hole)
no_hole_for_two_and_ten = (refl, refl, refl)

-- an immediate L keeps what is pending; T takes its place
three_lines_now : controlled (record { position = 66; pending = Some (Skip 4) }) 35
    ≡ Ok (record { position = 69; pending = Some (Skip 4) })
unfolding controlled position_after
three_lines_now = refl

three_lines_after_print : controlled (record { position = 66; pending = Some (Skip 4) }) 19
    ≡ Ok (record { position = 66; pending = Some (Space 3) })
unfolding controlled
three_lines_after_print = refl

-- a blank, &, M, U and : ask for nothing
no_meaning : (movement_of 0 ≡ Err DChar) × (movement_of 48 ≡ Err DChar) × (movement_of 36 ≡ Err DChar)
    × (movement_of 20 ≡ Err DChar) × (movement_of 13 ≡ Err DChar)
no_meaning = (refl, refl, refl, refl, refl)

channel_tests : (is_at_channel (at 125) 9 ≡ true) × (is_at_channel (at 128) 12 ≡ true)
    × (is_at_channel (at 126) 9 ≡ false) × (is_at_channel (at 66) 2 ≡ false)
channel_tests = (refl, refl, refl, refl)
