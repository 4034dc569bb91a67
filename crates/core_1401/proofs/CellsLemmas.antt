-- Cells put in front of blanks.
use Rattle.std.proofs.Common.{◌≡◌, ◌-◌, ◌<◌, ◌≤◌, List, ◌++◌, length, drop, replicate, ◌∙◌, ap, arith, length-append}
use Rattle.std.proofs.lemmas.List.{drop_at, drop-replicate, length-replicate}
use Rattle.bcd_1401.specs.declared.cell.Cell.{Cell}
use Rattle.core_1401.specs.Storage.{blank}
use Rattle.core_1401.specs.Cells.{IsHeld, most_cells}

-- 1 to 40 cells in front of what is left of 40 blanks are held
pub in_front : (cells front : List Cell) → front ≡ cells → 0 < length cells → length cells ≤ most_cells
    → IsHeld (record { cells = front ++ drop (length cells) (replicate most_cells blank); len = length cells })
in_front cells front e some most =
    let len : length front ≡ length cells = ap length e in
    let after : drop (length cells) (replicate most_cells blank) ≡ replicate (most_cells - length cells) blank =
    drop-replicate (length cells) most_cells blank in
    record {
      some = some;
      most = most;
      room = omega (
        arith,
        length-append front (drop (length cells) (replicate most_cells blank)),
        ap length after,
        length-replicate (most_cells - length cells) blank,
        len,
      );
      blanks = drop_at front (drop (length cells) (replicate most_cells blank)) (length cells) len ∙ after;
    }
