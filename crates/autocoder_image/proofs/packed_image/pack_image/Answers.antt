-- What is found is the first line with something outside; and the segments of characters are the machine's.
use Rattle.std.proofs.Common.{[], refl}
use Rattle.std.proofs.lemmas.Result.{err_from_is_err_and}
use Rattle.autocoder_placing.specs.View.{places_of}
use Rattle.autocoder_placing.proofs.LawLemmas.{refused_outside}
use Rattle.autocoder_image.specs.Packed.{cells_in}
use Rattle.autocoder_image.proofs.SegmentLemmas.{cut_own}
use Rattle.autocoder_image.proofs.packed_image.pack_image.Goals as goal

pub returns-in_err-cells-clause-outside : goal.returns-in_err-cells-clause-outside
returns-in_err-cells-clause-outside c =
    let p = err_from_is_err_and c.from_residual-in_err-cells.result c.from_residual-in_err-cells.ensures.1 in
    rw (p.1, p.2) (refused_outside c.args.size (places_of c.args.all.now) c.args.lines.now _ c.requires.placed
    c.in_err-cells.ensures.err)

pub returns-clause-segments : goal.returns-clause-segments
returns-clause-segments c = cut_own 0 [] (cells_in c.in_ok-cells.cells) refl c.in_ok-cells.ensures.placed
