-- The text spells the cells so far, and then what is left of it.
use Rattle.std.proofs.Common.{◌≡◌, ◌≤◌, ◌++◌, length, take, map, Some}
use Rattle.machine_notation.specs.Cells.{spelled}
use Rattle.machine_notation.proofs.cells.read_cells.Given as goal

abbrev pub invariant-loop-cell : goal.invariant-loop-cell
invariant-loop-cell l = record {
  spelled_is : spelled l.text ≡ map Some (take l.count l.cells) ++ spelled l.rest;
  few : l.count ≤ 40;
  room : length l.cells ≡ 40;
}

abbrev pub decreases-loop-cell : goal.decreases-loop-cell
decreases-loop-cell l = length l.rest
