use Rattle.std.proofs.Common.{◌≡◌, ◌≤◌, ◌++◌, map, take, vec_capacity}
use Rattle.machine_notation.specs.InstructionText.{graphic_of}
use Rattle.autocoder_deck.proofs.image_listing.put_graphics.Given as goal

abbrev pub invariant-loop-cell : goal.invariant-loop-cell
invariant-loop-cell l =
    (l.text.items ≡ l.initial.text.items ++ map graphic_of (take l.cell-index l.cells))
    × (vec_capacity l.initial.text ≤ vec_capacity l.text)
