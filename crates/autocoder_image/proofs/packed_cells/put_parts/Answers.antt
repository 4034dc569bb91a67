-- A part more, which has the next cells.
use Rattle.autocoder_image.proofs.PackedLemmas.{part_added}
use Rattle.autocoder_image.proofs.packed_cells.put_parts.Goals as goal

pub loop-part-preserved : goal.loop-part-preserved
loop-part-preserved c =
    let so_far = c.loop-part.invariant in
    part_added c.args.parts.now.items c.push.new.self.items so_far.0 c.loop-part.parts.items c.in-Some.part
    c.args.cells.now c.loop-part.rest.now c.in-Some.beyond.now so_far.1 c.in_ok-push.ensures.items so_far.2
    c.in-Some.ensures.cells so_far.3 c.in-Some.ensures.character
