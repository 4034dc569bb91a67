-- What is found in the lines that are left is what is found in all lines.
use Rattle.std.proofs.Common.{◌≡◌, ◌+◌, drop}
use Rattle.autocoder_placing.specs.Values.{first_outside_from}
use Rattle.autocoder_placing.specs.View.{places_of}
use Rattle.autocoder_image.proofs.checked_places.check_lines.Given as goal

abbrev pub invariant-loop-i : goal.invariant-loop-i
invariant-loop-i l =
    first_outside_from l.size (places_of l.all) (l.i + 1) (places_of l.so_far) (drop l.i l.lines)
    ≡ first_outside_from l.size (places_of l.all) 1 (places_of l.initial.so_far) l.lines
