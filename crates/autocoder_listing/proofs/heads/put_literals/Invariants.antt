-- The lines so far, with those of the literals that are left, are those of all.
use Rattle.std.proofs.Common.{◌≡◌, ◌++◌, drop}
use Rattle.std.specs.List.{flat_map}
use Rattle.autocoder_placing.specs.View.{places_of}
use Rattle.autocoder_listing.specs.Listing.{line_text, literal_lines}
use Rattle.autocoder_listing.proofs.heads.put_literals.Given as goal

abbrev pub invariant-loop-i : goal.invariant-loop-i
invariant-loop-i l =
    l.text.items ++ flat_map line_text (literal_lines (places_of l.all) l.next (drop l.i (places_of l.so_far).spellings))
    ≡ l.initial.text.items
    ++ flat_map line_text (literal_lines (places_of l.all) l.from (drop l.first (places_of l.so_far).spellings))
