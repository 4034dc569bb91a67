-- Cells in the order of placing, in few bytes (own): equal ones are counted, and repeated ones are held once.
use Rattle.std.specs.Prelude.{◌≡◌, ℕ, ◌+◌, ◌&&◌, nat_lt, Bool, true, List, [], ◌∷◌, ◌++◌, length, take, drop, replicate}
use Rattle.std.specs.List.{flat_map, list_all}
use Rattle.bcd_1401.specs.declared.cell.Cell.{Cell}
use Rattle.core_1401.specs.Address.{addresses}
use Rattle.machine_image.specs.ImageText.{is_character}
use Rattle.machine_image.specs.declared.image.Image.{Image}
use Rattle.autocoder_placing.specs.Cells.{numbered, repeated}
use Rattle.autocoder_placing.specs.Segments.{segments_of}
use Rattle.autocoder_image.specs.declared.packed_cells.Block.{Block}
use Rattle.autocoder_image.specs.declared.packed_cells.PackedCells.{PackedCells}
use Rattle.autocoder_image.specs.declared.packed_cells.Part.{Part}

-- equal cells
abbrev pub part_cells : Part → List Cell
part_cells part = replicate part.count part.cell

abbrev pub parts_cells : List Part → List Cell
parts_cells parts = flat_map part_cells parts

-- the cells of blocks with their addresses: each block has the first of the parts that are left, repeated
abbrev pub blocks_cells : List Block → List Part → List (ℕ × Cell)
blocks_cells [] parts = []
blocks_cells (block ∷ blocks) parts =
    numbered block.address (repeated block.times (parts_cells (take block.parts parts)))
    ++ blocks_cells blocks (drop block.parts parts)

abbrev pub cells_in : PackedCells → List (ℕ × Cell)
cells_in packed = blocks_cells packed.blocks.items packed.parts.items

-- how many parts blocks have
abbrev pub parts_in : List Block → ℕ
parts_in [] = 0
parts_in (block ∷ blocks) = block.parts + parts_in blocks

-- each part is one of a block
abbrev pub IsWhole : PackedCells → Type 0
IsWhole packed = parts_in packed.blocks.items ≡ length packed.parts.items

-- parts are added that have these cells
abbrev pub AddsParts : List Part → List Part → List Cell → Type 0
AddsParts old new cells = (more : List Part) × (new ≡ old ++ more) × (parts_cells more ≡ cells)

-- a place that has an address, with one of the machine's characters
abbrev pub is_placed : ℕ × Cell → Bool
is_placed cell = nat_lt cell.0 addresses && is_character cell.1

abbrev pub ArePlaced : List (ℕ × Cell) → Type 0
ArePlaced cells = list_all is_placed cells ≡ true

-- the image of packed cells
abbrev pub image_in : ℕ → PackedCells → ℕ → Image
image_in size cells start = record { size = size; segments = segments_of (cells_in cells); start = start }
