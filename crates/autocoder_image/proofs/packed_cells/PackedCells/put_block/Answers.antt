-- A block more, which has the parts that are added.
use Rattle.std.proofs.Common.{◌≡◌, List, [], ◌∷◌, ◌++◌, length, length-append, ap, ◌∙◌, arith}
use Rattle.bcd_1401.specs.declared.cell.Cell.{Cell}
use Rattle.autocoder_placing.specs.Cells.{numbered, repeated}
use Rattle.autocoder_image.specs.Packed.{blocks_cells, parts_in}
use Rattle.autocoder_image.specs.declared.packed_cells.Block.{Block}
use Rattle.autocoder_image.specs.declared.packed_cells.Part.{Part}
use Rattle.autocoder_image.proofs.PackedLemmas.{block_added, parts_added}
use Rattle.autocoder_image.proofs.packed_cells.PackedCells.put_block.Goals as goal

pub returns-clause-cells : goal.returns-clause-cells
returns-clause-cells c =
    let old = c.args.self.now in
    let added = c.in_ok-put_parts.ensures.parts in
    let block : Block = record { address = c.args.address; times = c.args.times; parts = c.in-Ok.parts } in
    let few : c.in-Ok.parts ≡ length added.0 =
    omega (arith, c.in-Ok.ensures, c.len.ensures, c.len-before.ensures, ap length added.1, length-append old.parts.items added.0) in
    ap (λ (blocks : List Block). blocks_cells blocks c.put_parts.new.parts.items) c.in_ok-push.ensures.items
    ∙ ap (λ (parts : List Part). blocks_cells (old.blocks.items ++ block ∷ []) parts) added.1
    ∙ block_added old.blocks.items block old.parts.items added.0 c.requires few
    ∙ ap (λ (cells : List Cell). blocks_cells old.blocks.items old.parts.items
    ++ numbered c.args.address (repeated c.args.times cells)) added.2

pub returns-clause-whole : goal.returns-clause-whole
returns-clause-whole c =
    let old = c.args.self.now in
    let added = c.in_ok-put_parts.ensures.parts in
    let block : Block = record { address = c.args.address; times = c.args.times; parts = c.in-Ok.parts } in
    omega (
      arith,
      c.in-Ok.ensures,
      c.len.ensures,
      c.len-before.ensures,
      ap length added.1,
      length-append old.parts.items added.0,
      c.requires,
      parts_added old.blocks.items block,
      ap parts_in c.in_ok-push.ensures.items,
    )
