-- The text of the cells so far is added, and spells them.
use Rattle.std.proofs.Common.{◌≡◌, ◌≤◌, ◌++◌, take, map, Some, vec_capacity}
use Rattle.std.specs.List.{flat_map}
use Rattle.machine_notation.specs.Cells.{cell_text, spelled}
use Rattle.machine_notation.proofs.cells.put_each.Given as goal

abbrev pub invariant-loop-cell : goal.invariant-loop-cell
invariant-loop-cell l = record {
  capacity : vec_capacity l.initial.text ≤ vec_capacity l.text;
  text : l.text.items ≡ l.initial.text.items ++ flat_map cell_text (take l.cell-index l.cells);
  again : spelled (flat_map cell_text (take l.cell-index l.cells)) ≡ map Some (take l.cell-index l.cells);
}
