-- Instructions of features, worked out by hand. Each program begins at 600 in a core of 1,000 places; a full stop after it
-- ends its last instruction.
use Rattle.std.proofs.Common.{◌≡◌, ℕ, ◌+◌, List, [], ◌++◌, length, take, drop, refl}
use Rattle.std.specs.Prelude.{codes}
use Rattle.bcd_1401.specs.Graphic.{graphics}
use Rattle.core_1401.specs.Storage.{Storage, blanks}
use Rattle.machine_tables.specs.Features.{no_features, with_feature}
use Rattle.machine_tables.specs.declared.features.Feature.TheVariants.{BitTest, Lengths, ReadPunchRelease}
use Rattle.machine_tables.specs.declared.features.Features.{Features}
use Rattle.machine_tables.specs.declared.stop.Stop.{Stop}
use Rattle.machine_tables.specs.declared.stop.Stop.TheVariants as stop
use Rattle.cpu_1401.specs.Fitting.{fitted_step}
use Rattle.cpu_1401.specs.Run.{Finished, run_for}
use Rattle.cpu_1401.specs.State.{State, fitted_with}
use Rattle.cpu_1401.specs.Step.{step}
use Rattle.cpu_1401.proofs.ExampleCells.{cells_of, with_program}

-- a text at a place
abbrev laid : ℕ → List ℕ → Storage → Storage
laid at text storage =
    let cells = cells_of text in take at storage ++ cells ++ drop (at + length cells) storage

-- a machine with these features, this text at a place, and this program
abbrev pub machine : Features → ℕ → List ℕ → List ℕ → State
machine features at text program =
    fitted_with features (with_program (laid at text (laid 600 (program ++ codes "~.") (blanks 1000))) 600)

-- how a run ends: the I, A and B registers, and its stop
abbrev pub ends : Finished → ℕ × ℕ × ℕ × Stop
ends run = (run.state.i, run.state.a, run.state.b, run.stop)

-- the cells that a run leaves from a place on
abbrev pub leaves : Finished → ℕ → ℕ → Storage
leaves run at n = take n (drop at run.state.storage)

abbrev bits : Features
bits = with_feature no_features BitTest

abbrev lengths : Features
lengths = with_feature no_features Lengths

abbrev bits_and_lengths : Features
bits_and_lengths = with_feature bits Lengths

abbrev feeds : Features
feeds = with_feature no_features ReadPunchRelease

-- A has the bits BA1, and C the bits BA21
shared_bits_branch : ends (run_for 1 (machine bits 700 (codes "C") (codes "~W800700A"))) ≡ (800, 800, 608, stop.Limit)
unfolding graphics run_for fitted_step step
shared_bits_branch = refl

one_and_two_share_none : ends (run_for 1 (machine bits 700 (codes "2") (codes "~W8007001")))
    ≡ (608, 800, 699, stop.Limit)
unfolding graphics run_for fitted_step step
one_and_two_share_none = refl

the_word_mark_is_no_bit : ends (run_for 1 (machine bits 700 (codes "~ ") (codes "~W800700\"")))
    ≡ (608, 800, 699, stop.Limit)
unfolding graphics run_for fitted_step step
the_word_mark_is_no_bit = refl

a_blank_never_branches : ends (run_for 1 (machine bits 700 (codes "\"") (codes "~W800700 ")))
    ≡ (608, 800, 699, stop.Limit)
unfolding graphics run_for fitted_step step
a_blank_never_branches = refl

bits_need_a_place : ends (run_for 1 (machine bits 700 [] (codes "~WI9II9IA"))) ≡ (600, 0, 0, stop.Address)
unfolding graphics run_for fitted_step step
bits_need_a_place = refl

-- the d-character has the bits A1, K the bits B2 and J the bits B1
a_bit_test_and_one_more : ends (run_for 2 (machine bits_and_lengths 699 (codes "JK") (codes "~W800700/~W")))
    ≡ (800, 800, 609, stop.Limit)
unfolding graphics run_for fitted_step step
a_bit_test_and_one_more = refl

bits_alone_have_eight_characters : ends (run_for 1 (machine bits 700 [] (codes "~W"))) ≡ (600, 0, 0, stop.Length)
unfolding graphics run_for fitted_step step
bits_alone_have_eight_characters = refl

a_bit_test_of_four_has_no_length : ends (run_for 1 (machine bits 700 [] (codes "~W700"))) ≡ (600, 0, 0, stop.Length)
unfolding graphics run_for fitted_step step
a_bit_test_of_four_has_no_length = refl

lengths_alone_test_no_bits : ends (run_for 1 (machine lengths 700 [] (codes "~W"))) ≡ (600, 0, 0, stop.NotFitted)
unfolding graphics run_for fitted_step step
lengths_alone_test_no_bits = refl

-- the third place is it
a_branch_and_two_more : ends (run_for 3 (machine lengths 698 (codes "XAB") (codes "~B900700X~B~B")))
    ≡ (900, 900, 610, stop.Limit)
unfolding graphics run_for fitted_step step
a_branch_and_two_more = refl

not_taken_it_is_one_lower_each_time : ends (run_for 3 (machine lengths 698 (codes "AAA") (codes "~B900700X~B~B")))
    ≡ (610, 900, 697, stop.Limit)
unfolding graphics run_for fitted_step step
not_taken_it_is_one_lower_each_time = refl

-- by the word mark of 699
a_branch_by_a_mark_and_one_more : ends (run_for 2 (machine lengths 699 (codes "~AB") (codes "~V9007001~V")))
    ≡ (900, 900, 609, stop.Limit)
unfolding graphics run_for fitted_step step
a_branch_by_a_mark_and_one_more = refl

-- at power-on that is a blank, and so is 000
without_one_before_it_looks_for_a_blank : ends (run_for 1 (machine lengths 700 [] (codes "~B")))
    ≡ (0, 0, 601, stop.Limit)
unfolding graphics run_for fitted_step step
without_one_before_it_looks_for_a_blank = refl

-- without the lengths nothing is kept
a_plain_branch_keeps_nothing : (run_for 1 (machine no_features 700 (codes "A") (codes "~B900700X"))).state.chained ≡ 0
unfolding graphics run_for fitted_step step
a_plain_branch_keeps_nothing = refl

-- the second address is stored at the first; the zone over the tens stays
two_addresses_of_a_store : ends (run_for 1 (machine lengths 700 (codes "~0Z0") (codes "~H702123")))
    ≡ (607, 699, 123, stop.Limit)
unfolding graphics run_for fitted_step step
two_addresses_of_a_store = refl

what_two_addresses_store : leaves (run_for 1 (machine lengths 700 (codes "~0Z0") (codes "~H702123"))) 700 3
    ≡ cells_of (codes "~1S3")
unfolding graphics run_for fitted_step step
what_two_addresses_store = refl

a_second_address_needs_three_places : ends (run_for 1 (machine lengths 700 [] (codes "~H001123")))
    ≡ (600, 0, 0, stop.Address)
unfolding graphics run_for fitted_step step
a_second_address_needs_three_places = refl

-- the B register at the A register
a_chained_store : ends (run_for 2 (machine lengths 700 (codes "000") (codes "~D703124~H"))) ≡ (608, 699, 123, stop.Limit)
unfolding graphics run_for fitted_step step
a_chained_store = refl

what_a_chained_store_leaves : leaves (run_for 2 (machine lengths 700 (codes "000") (codes "~D703124~H"))) 700 3
    ≡ cells_of (codes "123")
unfolding graphics run_for fitted_step step
what_a_chained_store_leaves = refl

-- the A register at itself
a_chained_store_of_a : ends (run_for 2 (machine lengths 700 (codes "000") (codes "~D703124~Q")))
    ≡ (608, 699, 123, stop.Limit)
unfolding graphics run_for fitted_step step
a_chained_store_of_a = refl

what_a_chained_store_of_a_leaves : leaves (run_for 2 (machine lengths 700 (codes "000") (codes "~D703124~Q"))) 700 3
    ≡ cells_of (codes "702")
unfolding graphics run_for fitted_step step
what_a_chained_store_of_a_leaves = refl

two_addresses_of_a_store_of_a : ends (run_for 1 (machine lengths 700 [] (codes "~Q702123")))
    ≡ (600, 0, 0, stop.Length)
unfolding graphics run_for fitted_step step
two_addresses_of_a_store_of_a = refl

a_branch_of_seven : ends (run_for 1 (machine lengths 700 [] (codes "~B702123"))) ≡ (600, 0, 0, stop.Length)
unfolding graphics run_for fitted_step step
a_branch_of_seven = refl

a_halt_of_seven : ends (run_for 1 (machine lengths 700 [] (codes "~.700800"))) ≡ (607, 0, 0, stop.Halt)
unfolding graphics run_for fitted_step step
a_halt_of_seven = refl

-- with one address it goes on there, as ever
a_halt_of_four : ends (run_for 1 (machine lengths 700 [] (codes "~.700"))) ≡ (700, 700, 604, stop.Halt)
unfolding graphics run_for fitted_step step
a_halt_of_four = refl

a_plain_halt_of_seven : ends (run_for 1 (machine no_features 700 [] (codes "~.700800"))) ≡ (600, 0, 0, stop.Length)
unfolding graphics run_for fitted_step step
a_plain_halt_of_seven = refl

feeds_do_nothing : ends (run_for 2 (machine feeds 700 [] (codes "~8~9"))) ≡ (602, 0, 0, stop.Limit)
unfolding graphics run_for fitted_step step
feeds_do_nothing = refl

a_feed_has_no_address : ends (run_for 1 (machine feeds 700 [] (codes "~8700"))) ≡ (600, 0, 0, stop.Length)
unfolding graphics run_for fitted_step step
a_feed_has_no_address = refl
