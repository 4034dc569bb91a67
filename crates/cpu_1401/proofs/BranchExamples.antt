-- Branches on small machines, and what their d-characters look at, computed. The codes: 17 is the slash, 18 to 20 S, T
-- and U, 25 Z, 49 to 55 A to G, 9 the digit, 12 the at sign; 34 is K, 51 C, 35 L.
use Rattle.std.proofs.Common.{◌≡◌, ℕ, ◌+◌, Bool, true, false, List, [], ◌∷◌, None, Some, filter, refl}
use Rattle.std.specs.List.{range_with_len}
use Rattle.bcd_1401.specs.Graphic.{graphics}
use Rattle.core_1401.specs.Storage.{Storage}
use Rattle.cpu_1401.specs.declared.condition.Condition.{Condition}
use Rattle.cpu_1401.specs.declared.condition.Condition.TheVariants.{Unequal, Equal, Low, High, Overflow, LastCard}
use Rattle.cpu_1401.specs.declared.condition.Condition.TheVariants.{SwitchOn, ChannelNine, ChannelTwelve}
use Rattle.machine_tables.specs.declared.stop.Stop.TheVariants as stop
use Rattle.machine_tables.specs.declared.switch_name.SwitchName.TheVariants.{B, C, D, E, F, G}
use Rattle.cpu_1401.specs.Branch.{condition_of, is_so, passes}
use Rattle.cpu_1401.specs.State.{State, power_on, with_switch}
use Rattle.cpu_1401.specs.Step.{step}
use Rattle.cpu_1401.proofs.ExampleCells.{plain, marked, with_program}

the_slash_looks_at_the_unequal_indicator : condition_of 17 ≡ Some Unequal
unfolding graphics
the_slash_looks_at_the_unequal_indicator = refl

z_looks_at_overflow : condition_of 25 ≡ Some Overflow
unfolding graphics
z_looks_at_overflow = refl

a_looks_at_the_last_card : condition_of 49 ≡ Some LastCard
unfolding graphics
a_looks_at_the_last_card = refl

b_looks_at_its_switch : condition_of 50 ≡ Some (SwitchOn B)
unfolding graphics
b_looks_at_its_switch = refl

g_looks_at_its_switch : condition_of 55 ≡ Some (SwitchOn G)
unfolding graphics
g_looks_at_its_switch = refl

nine_looks_at_the_carriage : condition_of 9 ≡ Some ChannelNine
unfolding graphics
nine_looks_at_the_carriage = refl

c_to_f_look_at_their_switches : (condition_of 51 ≡ Some (SwitchOn C)) × (condition_of 52 ≡ Some (SwitchOn D))
    × (condition_of 53 ≡ Some (SwitchOn E)) × (condition_of 54 ≡ Some (SwitchOn F))
unfolding graphics
c_to_f_look_at_their_switches = (refl, refl, refl, refl)

the_at_sign_looks_at_the_carriage : condition_of 12 ≡ Some ChannelTwelve
unfolding graphics
the_at_sign_looks_at_the_carriage = refl

s_t_and_u_look_at_a_compare : (condition_of 18 ≡ Some Equal) × (condition_of 19 ≡ Some Low)
    × (condition_of 20 ≡ Some High)
unfolding graphics
s_t_and_u_look_at_a_compare = (refl, refl, refl)

a_k_looks_at_nothing : condition_of 34 ≡ None
unfolding graphics
a_k_looks_at_nothing = refl

-- nothing was compared at power-on: equal, and neither low nor high
no_compare_is_equal : (is_so (power_on 0) Equal ≡ true) × (is_so (power_on 0) Low ≡ false)
    × (is_so (power_on 0) High ≡ false)
no_compare_is_equal = (refl, refl, refl)

-- switch A alone means the last card, as long as the hopper is empty
the_last_card_wants_switch_a : (is_so (power_on 0) LastCard ≡ false)
    × (is_so (with_switch (power_on 0) 0 true) LastCard ≡ true)
the_last_card_wants_switch_a = (refl, refl)

switch_g_is_the_seventh : (is_so (with_switch (power_on 0) 6 true) (SwitchOn G) ≡ true)
    × (is_so (with_switch (power_on 0) 6 true) (SwitchOn B) ≡ false)
switch_g_is_the_seventh = (refl, refl)

-- the switches that a machine's conditions find on, of B to G
abbrev on_of : State → List Bool
on_of s =
    is_so s (SwitchOn B) ∷ is_so s (SwitchOn C) ∷ is_so s (SwitchOn D) ∷ is_so s (SwitchOn E) ∷ is_so s (SwitchOn F)
    ∷ is_so s (SwitchOn G) ∷ []

each_switch_is_its_own : (on_of (with_switch (power_on 0) 0 true) ≡ false ∷ false ∷ false ∷ false ∷ false ∷ false ∷ [])
    × (on_of (with_switch (power_on 0) 2 true) ≡ false ∷ true ∷ false ∷ false ∷ false ∷ false ∷ [])
    × (on_of (with_switch (power_on 0) 3 true) ≡ false ∷ false ∷ true ∷ false ∷ false ∷ false ∷ [])
    × (on_of (with_switch (power_on 0) 4 true) ≡ false ∷ false ∷ false ∷ true ∷ false ∷ false ∷ [])
    × (on_of (with_switch (power_on 0) 5 true) ≡ false ∷ false ∷ false ∷ false ∷ true ∷ false ∷ [])
each_switch_is_its_own = (refl, refl, refl, refl, refl)

-- the machine with its carriage at a line of form 2
abbrev at_line : ℕ → State
at_line line = let s = power_on 0 in
    record s { devices = record s.devices { carriage = record s.devices.carriage { position = 131 + line } } }

-- the lines of a form at which a condition is so
abbrev lines_of : Condition → List ℕ
lines_of condition = filter (λ line. is_so (at_line line) condition) (range_with_len 1 66)

each_channel_is_met_at_one_line : (lines_of ChannelNine ≡ 60 ∷ []) × (lines_of ChannelTwelve ≡ 63 ∷ [])
each_channel_is_met_at_one_line = (refl, refl)

no_channel_is_at_the_first_line : (is_so (power_on 0) ChannelNine ≡ false) × (is_so (power_on 0) ChannelTwelve ≡ false)
no_channel_is_at_the_first_line = (refl, refl)

one_looks_for_a_mark : (passes 1 (marked 50) ≡ true) × (passes 1 (plain 50) ≡ false)
unfolding graphics
one_looks_for_a_mark = (refl, refl)

two_looks_for_no_zone : (passes 2 (marked 9) ≡ true) × (passes 2 (plain 17) ≡ false)
unfolding graphics
two_looks_for_no_zone = (refl, refl)

-- a plus sign of BA, a minus sign of B, and A
a_letter_looks_for_its_zone : (passes 50 (plain 49) ≡ true) × (passes 34 (plain 33) ≡ true)
    × (passes 18 (plain 17) ≡ true)
unfolding graphics
a_letter_looks_for_its_zone = (refl, refl, refl)

a_zone_is_not_another : (passes 50 (plain 33) ≡ false) × (passes 34 (plain 17) ≡ false)
    × (passes 18 (marked 49) ≡ false)
unfolding graphics
a_zone_is_not_another = (refl, refl, refl)

-- 3, C, L and T: a mark does if the zone is another one, and the zone does without a mark
either_does : (passes 3 (marked 33) ≡ true) × (passes 51 (marked 1) ≡ true) × (passes 35 (marked 1) ≡ true)
    × (passes 19 (marked 1) ≡ true)
unfolding graphics
either_does = (refl, refl, refl, refl)

the_zone_alone_does : (passes 3 (plain 7) ≡ true) × (passes 51 (plain 49) ≡ true) × (passes 35 (plain 33) ≡ true)
    × (passes 19 (plain 17) ≡ true)
unfolding graphics
the_zone_alone_does = (refl, refl, refl, refl)

neither_fails : (passes 3 (plain 17) ≡ false) × (passes 51 (plain 33) ≡ false) × (passes 35 (plain 49) ≡ false)
    × (passes 19 (plain 1) ≡ false)
unfolding graphics
neither_fails = (refl, refl, refl, refl)

-- an A means nothing to a branch by cell, not even beside a mark
a_letter_without_meaning : passes 49 (marked 49) ≡ false
unfolding graphics
a_letter_without_meaning = refl

-- B, 50, with the address 007
abbrev branch_to_seven : Storage
branch_to_seven = marked 50 ∷ plain 10 ∷ plain 10 ∷ plain 7 ∷ marked 59 ∷ []

a_branch_of_four_is_taken : step (record (with_program branch_to_seven 0) { b = 3 }) ≡ record {
  state = record (with_program branch_to_seven 7) { a = 7; b = 4 };
  stop = None;
}
unfolding step graphics
a_branch_of_four_is_taken = refl

-- the same with Z after it
abbrev overflow_to_seven : Storage
overflow_to_seven = marked 50 ∷ plain 10 ∷ plain 10 ∷ plain 7 ∷ plain 25 ∷ marked 59 ∷ []

a_test_of_overflow_turns_it_off : step (record (with_program overflow_to_seven 0) { overflow = true }) ≡ record {
  state = record (with_program overflow_to_seven 7) { a = 7; b = 5 };
  stop = None;
}
unfolding step graphics
a_test_of_overflow_turns_it_off = refl

a_branch_of_five_passed_by_leaves_b : step (record (with_program overflow_to_seven 0) { b = 3 }) ≡ record {
  state = record (with_program overflow_to_seven 5) { a = 7; b = 3 };
  stop = None;
}
unfolding step graphics
a_branch_of_five_passed_by_leaves_b = refl

-- a blank without a word mark as the fifth character: four characters, whatever follows
a_blank_ends_a_branch : (step (with_program (marked 50 ∷ plain 10 ∷ plain 10 ∷ plain 7 ∷ plain 0 ∷ plain 9 ∷ plain 9
    ∷ plain 9 ∷ []) 0)).state
    ≡ record (with_program (marked 50 ∷ plain 10 ∷ plain 10 ∷ plain 7 ∷ plain 0 ∷ plain 9 ∷ plain 9 ∷ plain 9
    ∷ []) 7) { a = 7; b = 4 }
unfolding step graphics
a_blank_ends_a_branch = refl

-- B with the addresses 001 and 003 and a 1 after them: place 003 holds a 1 with no mark
abbrev equal_character : Storage
equal_character = marked 50 ∷ plain 10 ∷ plain 10 ∷ plain 1 ∷ plain 10 ∷ plain 10 ∷ plain 3 ∷ plain 1 ∷ marked 59 ∷ []

an_equal_character_branches : step (with_program equal_character 0) ≡ record {
  state = record (with_program equal_character 1) { a = 1; b = 8 };
  stop = None;
}
unfolding step graphics
an_equal_character_branches = refl

-- V, 21, in its place: 003 has no word mark
abbrev mark_wanted : Storage
mark_wanted = marked 21 ∷ plain 10 ∷ plain 10 ∷ plain 1 ∷ plain 10 ∷ plain 10 ∷ plain 3 ∷ plain 1 ∷ marked 59 ∷ []

a_mark_that_is_missing_goes_on : step (with_program mark_wanted 0) ≡ record {
  state = record (with_program mark_wanted 8) { a = 1; b = 2 };
  stop = None;
}
unfolding step graphics
a_mark_that_is_missing_goes_on = refl

-- a d-character that looks for nothing reads the cell all the same
a_cell_out_of_core_stops : (step (with_program (marked 21 ∷ plain 10 ∷ plain 10 ∷ plain 1 ∷ plain 10 ∷ plain 10
    ∷ plain 9 ∷ plain 49 ∷ marked 59 ∷ []) 0)).stop ≡ Some stop.Address
unfolding step graphics
a_cell_out_of_core_stops = refl

-- K, 34, with a d-character alone and with an address
stackers_move_nothing : step (record (with_program (marked 34 ∷ plain 2 ∷ marked 59 ∷ []) 0) { a = 5; b = 6 })
    ≡ record {
      state = record (with_program (marked 34 ∷ plain 2 ∷ marked 59 ∷ []) 2) { a = 5; b = 6 };
      stop = None;
    }
unfolding step graphics
stackers_move_nothing = refl

a_stacker_with_an_address_branches : (step (with_program (marked 34 ∷ plain 10 ∷ plain 10 ∷ plain 7 ∷ plain 2
    ∷ marked 59 ∷ []) 0)).state
    ≡ record (with_program (marked 34 ∷ plain 10 ∷ plain 10 ∷ plain 7 ∷ plain 2 ∷ marked 59 ∷ []) 7) { a = 7; b = 5 }
unfolding step graphics
a_stacker_with_an_address_branches = refl
