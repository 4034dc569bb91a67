-- Core and registers as text, computed from the transcripts of a sitting.
use Rattle.std.proofs.Common.{◌≡◌, ◌∷◌, ◌++◌, [], refl}
use Rattle.std.specs.Fmt.{digits}
use Rattle.std.specs.Prelude.{None, codes}
use Rattle.bcd_1401.specs.Graphic.{graphics}
use Rattle.core_1401.specs.Storage.{blank}
use Rattle.cpu_1401.specs.State.{power_on}
use Rattle.devices_1401.specs.Devices.{no_cards}
use Rattle.machine_notation.specs.InstructionText.{operands_text}
use Rattle.machine_notation.specs.Mnemonic.{columns_of, operations_with_d}
use Rattle.machine_notation.specs.Characters.{graphics_of, trimmed}
use Rattle.operate_views.specs.Lines.{cells_line, front_text, instruction_columns, instruction_line, step_front}
use Rattle.operate_views.specs.Lines.{step_line}
use Rattle.operate_views.specs.Cards.{count_text, hopper_text, more_text, pile_text, stacker_text}
use Rattle.operate_views.specs.Paper.{form_text as form_column, printed_text}
use Rattle.operate_views.specs.Registers.{addresses_text, comparison_text, devices_text, index_at, index_text}
use Rattle.operate_views.specs.Registers.{indicators_text, labelled_text, pending_text, place_text, registers_text}
use Rattle.operate_views.specs.Registers.{switches_text}
use Rattle.operate_views.specs.Ruler.{chars_of, core_text, marks_row, row_cells, row_text}
use Rattle.operate_views.proofs.ExampleCells.{cell, cells}

-- places 1 to 6 of a storage of eight, with word marks at 1 and 4; 7 is not asked for
a_tilde_is_below_a_word_mark : core_text (blank ∷ cells (codes "000") ++ cells (codes "49") ++ cells (codes "57")) 1 7
    ≡ codes "       0         10        20        30        40\n"
    ++ codes "       |....:....|....:....|....:....|....:....|....:....\n"
    ++ codes "00000   000495\n"
    ++ codes "        ~  ~ ~\n"
unfolding graphics cell cells graphics_of trimmed digits marks_row row_cells row_text
a_tilde_is_below_a_word_mark = refl

a_place_with_its_line : place_text 419 (codes "line 9, NEXT R") ≡ codes "0419 (line 9, NEXT R)"
unfolding place_text digits
a_place_with_its_line = refl

registers_at_power_on : registers_text (power_on 1400) [] [] (codes "HEAD")
    ≡ codes "I  0000\nA  0000, B  0000 HEAD\nlast comparison: equal; overflow: no\nswitches on: none\n"
    ++ codes "hopper 0, stacker 0, paper 0; the carriage is at line 1 of form 1\n"
unfolding registers_text addresses_text place_text labelled_text indicators_text comparison_text switches_text index_text
    index_at devices_text pending_text digits
registers_at_power_on = refl

an_instruction_without_a_source : instruction_line 32 404 (cells (codes "F1"))
    ≡ codes " 00404 F1               CC   1\n"
unfolding graphics cell cells graphics_of trimmed digits instruction_line front_text columns_of operations_with_d
    operands_text
an_instruction_without_a_source = refl

no_blanks_follow_an_instruction : instruction_line 32 412 (cells (codes "/")) ≡ codes " 00412 /                CS\n"
unfolding graphics cell cells graphics_of trimmed digits instruction_line front_text columns_of operations_with_d
    operands_text
no_blanks_follow_an_instruction = refl

cells_alone : cells_line 62 500 (cells (codes "HI")) ≡ codes ">00500 HI\n"
unfolding graphics cell cells graphics_of trimmed digits cells_line
cells_alone = refl

a_printed_line_has_its_form_and_its_line : printed_text (record {
  form = 1;
  line = 3;
  text = chars_of (cells (codes "TOTAL    "));
})
    ≡ codes "   1/03 |TOTAL\n"
unfolding graphics cell cells graphics_of trimmed digits form_column printed_text
a_printed_line_has_its_form_and_its_line = refl

nothing_in_the_hopper : hopper_text 0 [] ≡ codes "hopper: empty\n"
unfolding hopper_text pile_text
nothing_in_the_hopper = refl

more_cards_than_are_shown : hopper_text 26 [] ≡ codes "hopper: 26 cards\n  and 26 more\n"
unfolding hopper_text pile_text count_text more_text digits
more_cards_than_are_shown = refl

nothing_in_the_stacker : stacker_text no_cards ≡ codes "stacker: empty\n"
unfolding stacker_text
nothing_in_the_stacker = refl

a_step_without_a_source : step_line 1 None (cells (codes ",008015"))
    (codes "00008 gets a word mark; 00015 gets a word mark")
    ≡ codes "00001        SW   008,015             00008 gets a word mark; 00015 gets a word mark\n"
unfolding graphics cell cells digits step_line step_front instruction_columns columns_of operations_with_d operands_text
a_step_without_a_source = refl

no_blanks_follow_a_step_that_did_nothing : step_line 404 None (cells (codes "/")) [] ≡ codes "00404        CS\n"
unfolding graphics cell cells digits step_line step_front instruction_columns columns_of operations_with_d operands_text
no_blanks_follow_a_step_that_did_nothing = refl
