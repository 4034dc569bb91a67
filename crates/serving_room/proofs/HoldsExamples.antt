-- Holds of the machine, computed.
use Rattle.std.proofs.Common.{◌≡◌, ℕ, [], ◌∷◌, refl, true, false}
use Rattle.std.specs.Fmt.{digits}
use Rattle.std.specs.Prelude.{codes, None, Some}
use Rattle.serving_room.specs.declared.hold.Hold.{Hold}
use Rattle.serving_room.specs.Holds.{ended_by, going_on, held_by, hold_line, is_kept_off, seconds_held, taken_line}

-- seat 2 holds the machine since second 100, and its page was seen then
abbrev held_at : ℕ → Hold
held_at seen = record { seat = 2; since = 100; seen = seen }

a_minute_at_first : seconds_held (held_at 100) 100 ≡ 60
a_minute_at_first = refl

a_second_at_last : seconds_held (held_at 158) 159 ≡ 1
a_second_at_last = refl

over_after_a_minute : going_on (Some (held_at 159)) 160 ≡ None
over_after_a_minute = refl

over_once_its_page_is_gone : going_on (Some (held_at 110)) 115 ≡ None
over_once_its_page_is_gone = refl

nobody_before_it_began : going_on (Some (held_at 100)) 99 ≡ None
nobody_before_it_began = refl

another_page_waits : held_by (Some (held_at 110)) 3 111 ≡ Some (held_at 110)
another_page_waits = refl

another_page_does_not_end_it : ended_by (Some (held_at 110)) 3 ≡ Some (held_at 110)
another_page_does_not_end_it = refl

its_own_page_goes_on : is_kept_off (Some (held_at 110)) 2 ≡ false
its_own_page_goes_on = refl

another_page_is_kept_off : is_kept_off (Some (held_at 110)) 3 ≡ true
another_page_is_kept_off = refl

its_text : hold_line (Some (held_at 118)) 119 ≡ codes "HOLD 2 FOR 41\n"
unfolding digits
its_text = refl

seats_that_are_taken : taken_line (1 ∷ 3 ∷ []) ≡ codes "TAKEN 1 3\n"
unfolding digits
seats_that_are_taken = refl
