-- What is put, with what is left put after it, is all of it.
use Rattle.std.proofs.Common.{◌≡◌, ◌++◌, drop}
use Rattle.std.specs.List.{flat_map}
use Rattle.autocoder_placing.specs.Cells.{literal_cells}
use Rattle.autocoder_placing.specs.Placement.{pending}
use Rattle.autocoder_placing.specs.View.{places_of}
use Rattle.autocoder_placing.proofs.cells.put_literals.Given as goal

abbrev pub invariant-loop-i : goal.invariant-loop-i
invariant-loop-i l =
    l.out.items ++ flat_map (literal_cells (places_of l.all)) (drop l.i (places_of l.so_far).literals)
    ≡ l.initial.out.items ++ flat_map (literal_cells (places_of l.all)) (pending (places_of l.so_far))
