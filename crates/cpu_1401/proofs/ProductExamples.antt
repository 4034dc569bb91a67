-- Fields multiplied and divided, records moved and addresses modified by a machine, worked out by hand. Further values
-- are with the definitions of these operations.
use Rattle.std.proofs.Common.{◌≡◌, ℕ, true, refl}
use Rattle.std.specs.Prelude.{codes}
use Rattle.bcd_1401.specs.Graphic.{graphics}
use Rattle.core_1401.specs.Storage.{Storage}
use Rattle.fields_1401.specs.Number.{places_down}
use Rattle.fields_1401.specs.Places.{with_cells, with_chars}
use Rattle.machine_tables.specs.Features.{no_features, with_feature}
use Rattle.machine_tables.specs.declared.features.Feature.TheVariants.{ModifyAddress, MoveRecord, Multiply}
use Rattle.machine_tables.specs.declared.features.Features.{Features}
use Rattle.machine_tables.specs.declared.stop.Stop.{Stop}
use Rattle.machine_tables.specs.declared.stop.Stop.TheVariants as stop
use Rattle.fields_1401.specs.AddressSums.{address_sum_at}
use Rattle.fields_1401.specs.Products.{factor_lengths_at, product_at, with_product}
use Rattle.fields_1401.specs.Quotients.{dividend_len_of, quotient_at, with_quotient}
use Rattle.fields_1401.specs.Records.{record_at, record_len_of, record_moved, with_chars_up}
use Rattle.cpu_1401.specs.Fitting.{fitted_step}
use Rattle.cpu_1401.specs.Run.{Finished, run_for}
use Rattle.cpu_1401.specs.Step.{step}
use Rattle.cpu_1401.proofs.ExampleCells.{cells_of}
use Rattle.cpu_1401.proofs.FittingExamples.{ends, leaves, machine}

-- how a run ends, and the cells that it leaves from a place on
abbrev ends_with : Finished → ℕ → ℕ → (ℕ × ℕ × ℕ × Stop) × Storage
ends_with run at n = (ends run, leaves run at n)

abbrev products : Features
products = with_feature no_features Multiply

abbrev records : Features
records = with_feature no_features MoveRecord

abbrev sums : Features
sums = with_feature no_features ModifyAddress

-- 123 times 45 is 5535
three_places_by_two : ends_with (run_for 1 (machine products 700 (codes "~123       ~45    ") (codes "~@702715"))) 710 6
    ≡ ((607, 699, 709, stop.Limit), cells_of (codes "~00553E"))
unfolding graphics run_for fitted_step step product_at factor_lengths_at with_product places_down with_chars with_cells
three_places_by_two = refl

minus_three_times_minus_seven : ends_with (run_for 1
    (machine products 700 (codes "~L         ~P00") (codes "~@700712"))) 710 3
    ≡ ((607, 699, 709, stop.Limit), cells_of (codes "~02A"))
unfolding graphics run_for fitted_step step product_at factor_lengths_at with_product places_down with_chars with_cells
minus_three_times_minus_seven = refl

-- the digit leaves its registers at 702 and 715
a_chained_product : ends_with (run_for 2 (machine products 700 (codes "~123       ~45    ") (codes "~D703716~@"))) 710 6
    ≡ ((608, 699, 709, stop.Limit), cells_of (codes "~00553E"))
unfolding graphics run_for fitted_step step product_at factor_lengths_at with_product places_down with_chars with_cells
a_chained_product = refl

-- both fields would be one
one_address_is_an_overlap : ends (run_for 1 (machine products 710 (codes "~0012") (codes "~@713")))
    ≡ (600, 0, 0, stop.Overlap)
unfolding graphics run_for fitted_step step product_at factor_lengths_at
one_address_is_an_overlap = refl

no_place_is_left_for_the_multiplier : ends (run_for 1 (machine products 700 (codes "~123") (codes "~@702003")))
    ≡ (600, 0, 0, stop.Address)
unfolding graphics run_for fitted_step step product_at factor_lengths_at
no_place_is_left_for_the_multiplier = refl

a_product_of_two_characters_has_no_length : ends (run_for 1
    (machine products 700 (codes "~123       ~45    ") (codes "~@7")))
    ≡ (600, 0, 0, stop.Length)
unfolding graphics run_for fitted_step step
a_product_of_two_characters_has_no_length = refl

records_alone_multiply_nothing : ends (run_for 1 (machine records 700 (codes "~123       ~45    ") (codes "~@702715")))
    ≡ (600, 0, 0, stop.NotFitted)
unfolding graphics run_for fitted_step step
records_alone_multiply_nothing = refl

-- 145 by 12 is 12, and the rest is 1
a_quotient_and_its_rest : ends_with (run_for 1
    (machine products 700 (codes "~12        ~00014E") (codes "~%701713"))) 710 6
    ≡ ((607, 699, 711, stop.Limit), cells_of (codes "~01B00A"))
unfolding graphics run_for fitted_step step quotient_at dividend_len_of with_quotient places_down with_chars with_cells
a_quotient_and_its_rest = refl

-- 999999 by 1
a_long_quotient : ends_with (run_for 1 (machine products 700 (codes "~1         ~0099999I") (codes "~%700712"))) 710 8
    ≡ ((607, 699, 714, stop.Limit), cells_of (codes "~99999I0?"))
unfolding graphics run_for fitted_step step quotient_at dividend_len_of with_quotient places_down with_chars with_cells
a_long_quotient = refl

by_zero_storage_stays : ends_with (run_for 1
    (machine products 700 (codes "~00        ~00014E") (codes "~%701713"))) 710 6
    ≡ ((607, 699, 710, stop.Limit), cells_of (codes "~00014E"))
unfolding graphics run_for fitted_step step quotient_at dividend_len_of places_down
by_zero_storage_stays = refl

by_zero_is_an_overflow : (run_for 1
    (machine products 700 (codes "~00        ~00014E") (codes "~%701713"))).state.overflow
    ≡ true
unfolding graphics run_for fitted_step step quotient_at dividend_len_of places_down
by_zero_is_an_overflow = refl

a_dividend_needs_a_zone : ends (run_for 1 (machine products 700 (codes "~12        ~000145") (codes "~%701713")))
    ≡ (600, 0, 0, stop.Address)
unfolding graphics run_for fitted_step step quotient_at dividend_len_of places_down
a_dividend_needs_a_zone = refl

a_divisor_in_the_dividend_is_an_overlap : ends (run_for 1 (machine products 710 (codes "~00014E") (codes "~%715713")))
    ≡ (600, 0, 0, stop.Overlap)
unfolding graphics run_for fitted_step step quotient_at dividend_len_of places_down
a_divisor_in_the_dividend_is_an_overlap = refl

a_quotient_of_eight_characters_has_no_length : ends (run_for 1
    (machine products 700 (codes "~12        ~00014E") (codes "~%701713 ")))
    ≡ (600, 0, 0, stop.Length)
unfolding graphics run_for fitted_step step
a_quotient_of_eight_characters_has_no_length = refl

a_record_ends_with_its_mark : ends_with (run_for 1
    (machine records 700 (codes "AB~C'D     ~XYZWV") (codes "~P700710"))) 710 5
    ≡ ((607, 704, 714, stop.Limit), cells_of (codes "~ABC'V"))
unfolding graphics run_for fitted_step step record_at record_len_of record_moved with_chars_up
a_record_ends_with_its_mark = refl

a_group_mark_with_a_word_mark_ends_it : ends_with (run_for 1
    (machine records 700 (codes "AB~\"C      XXXX") (codes "~P700710"))) 710 4
    ≡ ((607, 703, 713, stop.Limit), cells_of (codes "AB\"X"))
unfolding graphics run_for fitted_step step record_at record_len_of record_moved with_chars_up
a_group_mark_with_a_word_mark_ends_it = refl

a_record_over_itself_repeats : ends_with (run_for 1 (machine records 700 (codes "AB'CCCC'") (codes "~P700703"))) 700 8
    ≡ ((607, 703, 706, stop.Limit), cells_of (codes "AB'AB'C'"))
unfolding graphics run_for fitted_step step record_at record_len_of record_moved with_chars_up
a_record_over_itself_repeats = refl

one_place_higher_it_never_ends : ends_with (run_for 1 (machine records 700 (codes "AB'CCCC'") (codes "~P700701"))) 700 8
    ≡ ((600, 0, 0, stop.Address), cells_of (codes "AB'CCCC'"))
unfolding graphics run_for fitted_step step record_at record_len_of
one_place_higher_it_never_ends = refl

a_record_of_five_characters_has_no_length : ends (run_for 1 (machine records 700 (codes "AB'") (codes "~P7007")))
    ≡ (600, 0, 0, stop.Length)
unfolding graphics run_for fitted_step step
a_record_of_five_characters_has_no_length = refl

products_alone_move_no_record : ends (run_for 1 (machine products 700 (codes "AB'") (codes "~P700710")))
    ≡ (600, 0, 0, stop.NotFitted)
unfolding graphics run_for fitted_step step
products_alone_move_no_record = refl

-- 500 and 500 are 1000; the tens keep their zone
two_addresses_are_added : ends_with (run_for 1 (machine sums 700 (codes "500       5Z0") (codes "~#702712"))) 710 3
    ≡ ((607, 699, 709, stop.Limit), cells_of (codes "'Z0"))
unfolding graphics run_for fitted_step step address_sum_at
two_addresses_are_added = refl

sixteen_thousand_is_zero : ends_with (run_for 1 (machine sums 700 (codes "I9I       001") (codes "~#702712"))) 710 3
    ≡ ((607, 699, 709, stop.Limit), cells_of (codes "000"))
unfolding graphics run_for fitted_step step address_sum_at
sixteen_thousand_is_zero = refl

one_address_is_doubled : ends_with (run_for 1 (machine sums 710 (codes "250") (codes "~#712"))) 710 3
    ≡ ((604, 709, 709, stop.Limit), cells_of (codes "500"))
unfolding graphics run_for fitted_step step address_sum_at
one_address_is_doubled = refl

an_address_needs_three_places : ends (run_for 1 (machine sums 700 (codes "001") (codes "~#702001")))
    ≡ (600, 0, 0, stop.Address)
unfolding graphics run_for fitted_step step address_sum_at
an_address_needs_three_places = refl

a_sum_of_eight_characters_has_no_length : ends (run_for 1 (machine sums 700 (codes "001") (codes "~#702712 ")))
    ≡ (600, 0, 0, stop.Length)
unfolding graphics run_for fitted_step step
a_sum_of_eight_characters_has_no_length = refl

records_alone_modify_no_address : ends (run_for 1 (machine records 700 (codes "500       5Z0") (codes "~#702712")))
    ≡ (600, 0, 0, stop.NotFitted)
unfolding graphics run_for fitted_step step
records_alone_modify_no_address = refl
