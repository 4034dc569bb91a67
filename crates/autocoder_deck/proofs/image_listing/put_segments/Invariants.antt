-- The text so far, with the lines of what is built and of the segments that are left, is that of all segments.
use Rattle.std.proofs.Common.{◌≡◌, ◌++◌, drop}
use Rattle.std.specs.List.{flat_map}
use Rattle.autocoder_deck.specs.ImageListing.{marked_line}
use Rattle.autocoder_deck.specs.Stretches.{built, placed_cells}
use Rattle.autocoder_deck.proofs.image_listing.put_segments.Given as goal

abbrev pub invariant-loop-segment : goal.invariant-loop-segment
invariant-loop-segment l =
    l.text.items
    ++ flat_map (marked_line l.carried) (built l.builder (placed_cells (drop l.segment-index l.segments)))
    ≡ l.initial.text.items
    ++ flat_map (marked_line l.carried) (built l.initial.builder (placed_cells l.segments))
