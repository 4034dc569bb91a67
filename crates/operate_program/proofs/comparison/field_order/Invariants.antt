-- How the characters so far compare, and then those that are left.
use Rattle.std.proofs.Common.{◌≡◌, drop}
use Rattle.std.specs.Ordering.{ordering_then}
use Rattle.fields_1401.specs.Number.{places_down}
use Rattle.operate_program.specs.Comparison.{orders_of, orders_of_text, text_order}
use Rattle.operate_program.proofs.comparison.field_order.Given as goal

abbrev pub invariant-loop-place : goal.invariant-loop-place
invariant-loop-place l =
    ordering_then l.order
    (text_order (drop l.place (orders_of (places_down l.core l.at l.len))) (drop l.place (orders_of_text l.text)))
    ≡ text_order (orders_of (places_down l.core l.at l.len)) (orders_of_text l.text)
