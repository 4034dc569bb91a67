-- How many of the places passed are replaceable.
use Rattle.std.proofs.Common.{◌≡◌, ◌≤◌, take}
use Rattle.std.specs.List.{count_by}
use Rattle.fields_1401.specs.Across.{chars_across}
use Rattle.fields_1401.specs.Edit.{is_replaceable}
use Rattle.fields_1401.proofs.control_word.count_by_places.Given as goal

abbrev pub invariant-loop-i : goal.invariant-loop-i
invariant-loop-i l =
    record {
      counted : l.count
          ≡ count_by is_replaceable (take l.i (chars_across l.core l.at l.n));
      bound : l.count ≤ l.i;
    }
