-- What a line tells of a movement that waits for the next print, worked out by hand.
use Rattle.std.specs.Prelude.{◌≡◌, [], None, Some, codes}
use Rattle.std.proofs.Common.{refl}
use Rattle.std.specs.Fmt.{digits}
use Rattle.devices_1401.specs.Control.{Skip, Space}
use Rattle.job_steps.specs.TraceLine.{movement_text, pending_text, waiting_text}

-- two spaces after the next print
two_spaces_wait : pending_text None (Some (Space 2)) ≡ codes "\tPENDING SPACE 2"
unfolding waiting_text movement_text digits
two_spaces_wait = refl

-- a skip to channel 1, whose hole is at line 4, in place of two spaces
a_skip_waits_in_place_of_spaces : pending_text (Some (Space 2)) (Some (Skip 4)) ≡ codes "\tPENDING SKIP 04"
unfolding waiting_text movement_text digits
a_skip_waits_in_place_of_spaces = refl

-- a skip to channel 12, whose hole is at line 63, in place of one to channel 1
a_skip_to_another_line_waits : pending_text (Some (Skip 4)) (Some (Skip 63)) ≡ codes "\tPENDING SKIP 63"
unfolding waiting_text movement_text digits
a_skip_to_another_line_waits = refl

-- what waited already isn't told again, nor what a print carried out
the_same_is_not_told_again : pending_text (Some (Skip 4)) (Some (Skip 4)) ≡ []
the_same_is_not_told_again = refl

nothing_waits_after_a_print : pending_text (Some (Skip 4)) None ≡ []
nothing_waits_after_a_print = refl
