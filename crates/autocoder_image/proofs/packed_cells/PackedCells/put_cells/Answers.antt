-- The cells that are repeated, and the rest, are all of them.
use Rattle.std.proofs.Common.{arith}
use Rattle.std.proofs.lemmas.Result.{on_ok_weaker}
use Rattle.autocoder_image.specs.Packed.{cells_in}
use Rattle.autocoder_image.proofs.PackedLemmas.{characters_of, in_two_blocks, are_placed}
use Rattle.autocoder_image.proofs.packed_cells.PackedCells.put_cells.Goals as goal

pub returns-clause-cells : goal.returns-clause-cells
returns-clause-cells c =
    in_two_blocks c.put_rest.result (cells_in c.args.self.now) (cells_in c.put_block.new.self)
    (cells_in c.put_rest.new.self) c.args.address _ c.repetitions-times.result.0 _ c.repetitions-times.result.1.now
    c.args.cells.now c.repetitions-times.ensures c.in_ok-put_block.ensures.cells c.put_rest.ensures.cells (omega arith)

pub returns-clause-placed : goal.returns-clause-placed
returns-clause-placed c =
    on_ok_weaker c.put_rest.result
    (λ own. are_placed c.args.address c.args.cells.now
    (omega (arith, c.from.ensures, c.if-cells-from.false, c.if-address-gt-ADDRESSES.false))
    (characters_of c.repetitions-times.result.0 _ c.repetitions-times.result.1.now c.args.cells.now
    c.repetitions-times.ensures c.in_ok-put_block.ensures.characters own))
    c.put_rest.ensures.characters
