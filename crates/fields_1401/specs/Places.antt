-- The places of a field written at once, and the word marks and the characters by themselves (own).
use Rattle.std.specs.Prelude.{Bool, List, map}
use Rattle.bcd_1401.specs.declared.cell.Cell.{Cell}
use Rattle.core_1401.specs.Storage.{Storage}
pub use Rattle.core_1401.specs.Places.{is_within, written_cell, rewritten_cell, unmarked_place, is_unequal_pair}
pub use Rattle.core_1401.specs.Places.{chars_of}
unfoldable pub use Rattle.core_1401.specs.Places.{with_cells, with_chars, with_all_chars}

-- the word marks by address
abbrev pub marks_of : Storage → List Bool
marks_of storage = map (λ (cell : Cell). cell.mark) storage
