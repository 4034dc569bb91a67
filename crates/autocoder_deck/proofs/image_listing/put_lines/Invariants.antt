use Rattle.std.proofs.Common.{◌≡◌, ◌+◌, ◌*◌, ◌≤◌, ◌++◌, length, take, vec_capacity}
use Rattle.std.specs.List.{flat_map}
use Rattle.autocoder_deck.specs.ImageListing.{marked_line, most_in_stretch}
use Rattle.autocoder_deck.proofs.image_listing.put_lines.Given as goal

abbrev pub invariant-loop-stretch : goal.invariant-loop-stretch
invariant-loop-stretch l =
    (l.text.items ≡ l.initial.text.items ++ flat_map (marked_line l.carried) (take l.stretch-index l.stretches))
    × (length l.text.items ≤ length l.initial.text.items + most_in_stretch * l.stretch-index)
    × (vec_capacity l.initial.text ≤ vec_capacity l.text)
