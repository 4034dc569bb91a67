-- The places that are left decide.
use Rattle.std.proofs.Common.{◌≡◌, drop}
use Rattle.std.specs.List.{list_all}
use Rattle.fields_1401.specs.Number.{places_down}
use Rattle.operate_views.specs.NumberText.{is_plain_digit}
use Rattle.operate_program.proofs.comparison.are_plain_at.Given as goal

abbrev pub invariant-loop-place : goal.invariant-loop-place
invariant-loop-place l =
    list_all is_plain_digit (drop l.place (places_down l.core l.at l.len))
    ≡ list_all is_plain_digit (drop 1 (places_down l.core l.at l.len))
