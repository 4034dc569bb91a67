-- None of the places passed, from the right, is a zero.
use Rattle.std.proofs.Common.{◌≡◌, ℕ, ◌-◌, ◌<◌, ◌≤◌, ◌==◌, true, get_or}
use Rattle.std.specs.Prelude.{not}
use Rattle.fields_1401.specs.Across.{chars_across}
use Rattle.fields_1401.specs.Suppress.{zero_char}
use Rattle.fields_1401.proofs.control_word.limit_by_places.Given as goal

abbrev pub invariant-loop-i : goal.invariant-loop-i
invariant-loop-i l =
    (k : ℕ) → l.n - l.i ≤ k → k < l.n → not (get_or (chars_across l.core l.at l.n) k 0 == zero_char) ≡ true
