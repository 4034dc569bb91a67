-- What is packed, with what the lines that are left stand for, is the whole; what is found in them is what is found in
-- all lines.
use Rattle.std.proofs.Common.{◌≡◌, ◌+◌, ◌++◌, drop}
use Rattle.autocoder_placing.specs.Cells.{cells_from}
use Rattle.autocoder_placing.specs.Values.{first_outside_from}
use Rattle.autocoder_placing.specs.View.{places_of}
use Rattle.autocoder_image.specs.Packed.{cells_in, ArePlaced, IsWhole}
use Rattle.autocoder_image.proofs.source_packing.PackedSoFar.put_lines.Given as goal

abbrev pub invariant-loop-i : goal.invariant-loop-i
invariant-loop-i l = record {
  found : first_outside_from l.size (places_of l.all) (l.i + 1) (places_of l.self.so_far) (drop l.i l.lines)
      ≡ first_outside_from l.size (places_of l.all) 1 (places_of l.initial.self.so_far) l.lines;
  cells : cells_in l.self.packed ++ cells_from (places_of l.all) (places_of l.self.so_far) (drop l.i l.lines)
      ≡ cells_in l.initial.self.packed ++ cells_from (places_of l.all) (places_of l.initial.self.so_far) l.lines;
  placed : ArePlaced (cells_in l.self.packed);
  whole : IsWhole l.self.packed;
}
