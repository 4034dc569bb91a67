-- Worked values: addresses and ranges.
use Rattle.std.proofs.Common.{◌≡◌, refl}
use Rattle.std.specs.Prelude.{codes, Ok, Err}
use Rattle.operate_orders.specs.declared.places.Adjustment.TheVariants.{Plus, Minus}
use Rattle.operate_orders.specs.declared.places.Base.TheVariants.{Line, Index, Held}
use Rattle.operate_orders.specs.declared.places.IndexRegister.TheVariants.{X1, X3}
use Rattle.operate_orders.specs.declared.places.Register.TheVariants.{A}
use Rattle.operate_orders.specs.declared.ranges.Area.TheVariants.{Print}
use Rattle.operate_orders.specs.declared.ranges.Range.TheVariants as range
use Rattle.operate_program.specs.Field.{field_of, register_named}
use Rattle.operate_program.specs.Range.{between, counted, first_named, index_places, label_places}
use Rattle.operate_program.specs.Range.{places_in_core}
use Rattle.operate_program.specs.Range.{places_named, range_of}
use Rattle.operate_program.specs.Value.{address_of, adjusted, in_core, index_value, label_value}
use Rattle.operate_program.specs.Value.{line_value, place_of, row_of_line, value_of}
use Rattle.operate_program.specs.declared.fault.PlaceFault.TheVariants as fault
use Rattle.operate_program.specs.declared.field.Field.TheVariants as field
use Rattle.operate_program.proofs.ExampleProgram.{adjusted_once, label, machine, number, plain, program}

a_label_is_its_units_place : address_of program machine (plain (label (codes "TOTAL"))) ≡ Ok 40
unfolding address_of value_of label_value place_of adjusted in_core
a_label_is_its_units_place = refl

a_line_is_its_first_place : address_of program machine (plain (Line 9)) ≡ Ok 33
unfolding address_of value_of line_value row_of_line place_of adjusted in_core
a_line_is_its_first_place = refl

a_number_is_added : address_of program machine (adjusted_once (label (codes "START")) (Plus 3)) ≡ Ok 23
unfolding address_of value_of label_value place_of adjusted in_core
a_number_is_added = refl

nothing_is_below_zero : address_of program machine (adjusted_once (number 2) (Minus 3)) ≡ Err fault.BelowZero
unfolding address_of value_of adjusted in_core
nothing_is_below_zero = refl

a_register_is_held : address_of program machine (plain (Held A)) ≡ Ok 7
unfolding address_of value_of adjusted in_core
a_register_is_held = refl

an_index_register_is_its_units_place : value_of program machine (plain (Index X1)) ≡ Ok 89
unfolding value_of index_value adjusted
an_index_register_is_its_units_place = refl

another_label_is_none : address_of program machine (plain (label (codes "TOTLA"))) ≡ Err (fault.Label (codes "TOTLA"))
unfolding address_of value_of label_value
another_label_is_none = refl

place_60_isnt_in_core : address_of program machine (plain (number 60)) ≡ Err (fault.NotInCore 60 60)
unfolding address_of value_of adjusted in_core
place_60_isnt_in_core = refl

a_constant_has_its_places : range_of program machine (range.At (plain (label (codes "TOTAL")))) ≡ Ok (33, 8)
unfolding label_places places_named place_of first_named places_in_core
a_constant_has_its_places = refl

an_instruction_has_its_places : range_of program machine (range.At (plain (label (codes "START")))) ≡ Ok (20, 4)
unfolding label_places places_named place_of first_named places_in_core
an_instruction_has_its_places = refl

an_index_register_has_three_places : range_of program machine (range.At (plain (Index X1))) ≡ Ok (87, 3)
unfolding index_places
an_index_register_has_three_places = refl

an_index_register_is_a_field : field_of program machine (plain (Index X3)) ≡ Ok (field.Index X3)
unfolding field_of register_named
an_index_register_is_a_field = refl

with_an_adjustment_it_is_a_place : field_of program machine (adjusted_once (Index X1) (Minus 50)) ≡ Ok (field.Marked 39)
unfolding field_of register_named address_of value_of index_value adjusted in_core
with_an_adjustment_it_is_a_place = refl

both_ends_are_in_a_range : range_of program machine (range.Between (plain (number 10)) (plain (number 20))) ≡ Ok (10, 11)
unfolding between address_of value_of adjusted in_core
both_ends_are_in_a_range = refl

so_many_places : range_of program machine (range.Counted (plain (number 10)) 11) ≡ Ok (10, 11)
unfolding counted address_of value_of adjusted in_core places_in_core
so_many_places = refl

a_printed_line_has_132_places : range_of program machine (range.Area Print) ≡ Ok (201, 132)
a_printed_line_has_132_places = refl
