-- The places so far hold what they are to show.
use Rattle.std.proofs.Common.{◌≡◌, length}
use Rattle.fields_1401.specs.Across.{chars_across, units_unzoned, char_to}
use Rattle.fields_1401.specs.Places.{with_chars, with_all_chars}
use Rattle.fields_1401.specs.Suppress.{suppressed}
use Rattle.fields_1401.proofs.suppression.put_figures.Given as goal

abbrev pub invariant-loop-i : goal.invariant-loop-i
invariant-loop-i l =
    let s = l.fn.core in
    record {
      put : with_all_chars s l.chars
          ≡ with_chars s l.b l.i (char_to (suppressed (units_unzoned (chars_across s l.a l.n))));
      size : length l.chars ≡ length s;
    }
