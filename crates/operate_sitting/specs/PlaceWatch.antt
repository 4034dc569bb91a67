-- Watches on places of core storage (own).
use Rattle.std.specs.Prelude.{ℕ, ◌+◌, ◌==◌, ◌&&◌, ◌||◌, zero, suc, Bool, false, true, not, if◌then◌else◌}
use Rattle.std.specs.Prelude.{List, [], ◌∷◌, length, replicate}
use Rattle.std.proofs.Math.Bool.{beq}
use Rattle.bcd_1401.specs.declared.cell.Cell.{Cell}
use Rattle.core_1401.specs.Storage.{Storage, blank, cell_at}

-- a watch: its lowest place, what its places hold, what they held before the last step that changed one, and whether
-- the last step did
pub record Watched : Type 0 where
  pub from : ℕ
  pub cells : List Cell
  pub before : List Cell
  pub is_met : Bool

-- a watch on this many places
abbrev pub watched : ℕ → ℕ → Watched
watched from count =
    record { from = from; cells = replicate count blank; before = replicate count blank; is_met = false }

-- the cells of this many places, from one on
abbrev pub cells_in : Storage → ℕ → ℕ → List Cell
cells_in storage from zero = []
cells_in storage from (suc count) = cell_at storage from ∷ cells_in storage (from + 1) count

-- whether two cells are the same
abbrev pub is_same : Cell → Cell → Bool
is_same a b = (a.char == b.char) && beq a.mark b.mark

-- whether a place from this one on holds another cell than it did
abbrev pub differs : Storage → ℕ → List Cell → Bool
differs storage from [] = false
differs storage from (cell ∷ cells) = not (is_same (cell_at storage from) cell) || differs storage (from + 1) cells

-- as a search begins
abbrev pub watch_begun : Watched → Storage → Watched
watch_begun it storage = record it { cells = cells_in storage it.from (length it.cells); is_met = false }

-- after a step
abbrev pub watch_seen : Watched → Storage → Watched
watch_seen it storage =
    if differs storage it.from it.cells
    then record it { cells = cells_in storage it.from (length it.cells); before = it.cells; is_met = true }
    else record it { is_met = false }
