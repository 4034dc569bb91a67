-- What a line says, to be computed.
use Rattle.std.proofs.Common.{◌≡◌, ℕ, List, [], ◌∷◌, map, None}
use Rattle.std.specs.Prelude.{Option}
use Rattle.bcd_1401.specs.Graphic.{graphics}
use Rattle.console_text.specs.Words.{switch_named}
use Rattle.machine_notation.specs.Cells.{spelled, cells_of}
use Rattle.machine_notation.specs.Digits.{number_in}
use Rattle.operate_orders.specs.Parts.{before_byte, from_byte, operand_in, beyond_operand, is_end, file_in, are_digits}
use Rattle.operate_orders.specs.Parts.{numeral_in}
use Rattle.operate_orders.specs.Place.{is_name, index_named, register_named, label_in, named, in_parentheses, base_in}
use Rattle.operate_orders.specs.Place.{adjustment_in, beyond_adjustment, added, subtracted, adjustment_of}
use Rattle.operate_orders.specs.Place.{adjustments_in, place_in}
use Rattle.operate_orders.specs.Range.{area_named, between, counted, numbers_between, lone, range_by_minus}
use Rattle.operate_orders.specs.Range.{range_by_slash, range_by_dots, range_in}
use Rattle.operate_orders.specs.Operands.{place_operand, range_operand, count_operand, lone_place, lone_range, lone_count}
use Rattle.operate_orders.specs.Operands.{Said, lone_file}
use Rattle.operate_orders.specs.Value.{text_operand, quoted, number_operand, lone_number, value_operand}
use Rattle.operate_orders.specs.Value.{beyond_relation, compared, condition_operand}
use Rattle.operate_orders.specs.Value as value
use Rattle.operate_orders.specs.List.{listed, field, fields_in, numbers_in}
use Rattle.operate_orders.specs.ActLine.{statement_in, cells_in, deposited_in, deposit_of, set_of, setting_of, switched}
use Rattle.operate_orders.specs.ActLine.{switch_of, feed_of}
use Rattle.operate_orders.specs.NoteLine.{if_in, counted_in, when_in, break_of, paper_at, places_at, watch_of}
use Rattle.operate_orders.specs.NoteLine.{transcript_of, help_on, help_of}
use Rattle.operate_orders.specs.OrderLine.{order_with, order_in, order_of}
use Rattle.operate_orders.specs.Text.{kept, capitals}
use Rattle.operate_orders.specs.Words.{keyword_of}
use Rattle.operate_orders.specs.declared.places.Adjustment.{Adjustment}
use Rattle.operate_orders.specs.declared.places.Base.{Base}
use Rattle.operate_orders.specs.declared.places.Base.TheVariants.{Number, Label, Line}
use Rattle.operate_orders.specs.declared.places.Place.{Place}

-- what a line says, with all that its grammar consists of open
unfoldable pub says : List ℕ → Said
unfolding kept capitals before_byte from_byte operand_in beyond_operand is_end file_in are_digits numeral_in
    is_name index_named register_named label_in named in_parentheses base_in adjustment_in beyond_adjustment added
    subtracted adjustment_of adjustments_in place_in area_named between counted numbers_between lone range_by_minus
    range_by_slash range_by_dots range_in place_operand range_operand count_operand lone_place lone_range lone_count
    lone_file text_operand quoted value.number_in number_operand lone_number value_operand beyond_relation
    compared condition_operand listed field fields_in numbers_in statement_in cells_in deposited_in deposit_of set_of
    setting_of switched switch_of feed_of if_in counted_in when_in break_of paper_at places_at watch_of transcript_of
    help_on help_of order_with order_in order_of keyword_of switch_named spelled cells_of number_in graphics
says line = order_of line

-- each of these lines says what is next to it
abbrev pub AllSay : List (List ℕ × Said) → Type 0
AllSay lines = map (λ line. order_of line.0) lines ≡ map (λ line. line.1) lines

-- a place with these adjustments
abbrev pub adjusted : Base → Option Adjustment → Option Adjustment → Option Adjustment → Place
adjusted base first second third = record { base = base; adjustments = first ∷ second ∷ third ∷ [] }

abbrev pub plain : Base → Place
plain base = adjusted base None None None

-- the place of a number, of a label, and the first of a line of the source
abbrev pub at : ℕ → Place
at number = plain (Number number)

abbrev pub label : List ℕ → Place
label name = plain (Label name)

abbrev pub line : ℕ → Place
line number = plain (Line number)
