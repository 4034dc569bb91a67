-- Cells to write small storages with: any list of cells is a storage.
use Rattle.std.proofs.Common.{ℕ, true, false}
use Rattle.bcd_1401.specs.declared.cell.Cell.{Cell}

-- a character without a word mark
abbrev pub plain : ℕ → Cell
plain char = record { char = char; mark = false }

-- a character with a word mark
abbrev pub marked : ℕ → Cell
marked char = record { char = char; mark = true }
