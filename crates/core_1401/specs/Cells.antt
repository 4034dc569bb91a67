-- How a list of 1 to 40 cells is held: in front, with blanks after them.
use Rattle.std.specs.Prelude.{◌≡◌, ℕ, ◌-◌, ◌<◌, ◌≤◌, List, ◌++◌, length, take, drop, replicate}
use Rattle.std.proofs.Common.{sym, ◌∙◌, ap, arith, length-take, take-append-drop}
use Rattle.bcd_1401.specs.declared.cell.Cell.{Cell}
use Rattle.core_1401.specs.declared.cells.Cells.TheInside.{Inside}
use Rattle.core_1401.specs.Storage.{blank}

-- the most cells that a command or a segment has
abbrev pub most_cells : ℕ
most_cells = 40

-- the list that is held
abbrev pub held_cells : Inside → List Cell
held_cells c = take c.len c.cells

-- 1 to 40 cells are held, and blanks after them
pub record IsHeld (c : Inside) : Type 0 where
  pub some : 0 < c.len
  pub most : c.len ≤ most_cells
  pub room : length c.cells ≡ most_cells
  pub blanks : drop c.len c.cells ≡ replicate (most_cells - c.len) blank

-- the list with blanks after it
abbrev pub holding : List Cell → Inside
holding cells = record { cells = cells ++ replicate (most_cells - length cells) blank; len = length cells }

-- the list gives back what held it
pub holding_again : (c : Inside) → IsHeld c → holding (held_cells c) ≡ c
holding_again c h =
    let len : length (take c.len c.cells) ≡ c.len = omega (arith, length-take c.len c.cells, h.most, h.room) in
    let after : take c.len c.cells ++ replicate (most_cells - c.len) blank ≡ c.cells =
    ap (λ (more : List Cell). take c.len c.cells ++ more) (sym h.blanks) ∙ take-append-drop c.len c.cells in
    let first : Inside = record { cells = take c.len c.cells ++ replicate (most_cells - c.len) blank; len = c.len } in
    ap (λ (n : ℕ). let made : Inside = record {
      cells = take c.len c.cells ++ replicate
          (most_cells - n) blank;
      len = n;
    } in made) len
    ∙ ap (λ (cells : List Cell). let made : Inside = record { cells = cells; len = c.len } in made) after
