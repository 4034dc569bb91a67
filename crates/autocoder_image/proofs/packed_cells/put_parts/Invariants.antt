-- Parts are added that have the cells before those that are left.
use Rattle.std.proofs.Common.{◌≡◌, ◌++◌, true, List, length}
use Rattle.std.specs.List.{list_all}
use Rattle.machine_image.specs.ImageText.{is_character}
use Rattle.autocoder_image.specs.Packed.{parts_cells}
use Rattle.autocoder_image.specs.declared.packed_cells.Part.{Part}
use Rattle.autocoder_image.proofs.packed_cells.put_parts.Given as goal

abbrev pub invariant-loop-part : goal.invariant-loop-part
invariant-loop-part l =
    (more : List Part) × (l.parts.items ≡ l.initial.parts.items ++ more) × (l.cells ≡ parts_cells more ++ l.rest)
    × (list_all is_character (parts_cells more) ≡ true)

abbrev pub decreases-loop-part : goal.decreases-loop-part
decreases-loop-part l = length l.rest
