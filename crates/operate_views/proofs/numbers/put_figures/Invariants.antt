-- The digits so far are those of the cells from the high place down.
use Rattle.std.proofs.Common.{◌≡◌, ◌≤◌, ◌==◌, drop, length}
use Rattle.bytes_text.specs.Written.{Adds}
use Rattle.operate_views.specs.NumberText.{figures}
use Rattle.operate_views.proofs.numbers.put_figures.Given as goal

abbrev pub invariant-loop-left : goal.invariant-loop-left
invariant-loop-left l = record {
  within : l.left ≤ length l.cells;
  text : Adds l.initial.text l.text (figures (drop l.left l.cells));
  zero : l.is_zero ≡ (length (figures (drop l.left l.cells)) == 0);
}

abbrev pub decreases-loop-left : goal.decreases-loop-left
decreases-loop-left l = l.left
