-- None of the characters passed stops the suppression.
use Rattle.std.proofs.Common.{◌≡◌, ℕ, ◌<◌, false, get_or}
use Rattle.fields_1401.specs.Across.{chars_across, units_unzoned}
use Rattle.fields_1401.specs.Suppress.{is_figure}
use Rattle.fields_1401.proofs.suppression.before_figures.Given as goal

abbrev pub invariant-loop-i : goal.invariant-loop-i
invariant-loop-i l = (k : ℕ) → k < l.i → is_figure (get_or (units_unzoned (chars_across l.core l.at l.n)) k 0) ≡ false
