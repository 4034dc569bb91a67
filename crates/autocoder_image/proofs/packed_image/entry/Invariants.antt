-- The value in the lines that are left is that in all lines.
use Rattle.std.proofs.Common.{◌≡◌, drop}
use Rattle.autocoder_placing.specs.PlacedImage.{entry_in}
use Rattle.autocoder_placing.specs.View.{places_of}
use Rattle.autocoder_image.proofs.packed_image.entry.Given as goal

abbrev pub invariant-loop-i : goal.invariant-loop-i
invariant-loop-i l = entry_in (places_of l.all) (drop l.i l.lines) ≡ entry_in (places_of l.all) l.lines
