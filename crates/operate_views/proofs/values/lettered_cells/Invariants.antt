-- The cells so far, from the high place down.
use Rattle.std.proofs.Common.{◌≡◌, reverse, take}
use Rattle.operate_views.specs.Value.{lettered}
use Rattle.operate_views.proofs.values.lettered_cells.Given as goal

abbrev pub invariant-loop-i : goal.invariant-loop-i
invariant-loop-i l = l.put.items ≡ take l.i (lettered l.text (reverse l.cells))
