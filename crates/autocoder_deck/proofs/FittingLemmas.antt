-- What fits on a card has no more word marks than the card sets.
use Rattle.std.proofs.Common.{◌≡◌, ◌≤◌, ℕ, ◌+◌, ◌-◌, ◌==◌, ◌&&◌, ◌||◌, Bool, true, false, if◌then◌else◌, List, [], ◌∷◌}
use Rattle.std.proofs.Common.{length, take, arith, add-one, refl}
use Rattle.std.proofs.lemmas.Bool.{eqb-false}
use Rattle.bcd_1401.specs.declared.cell.Cell.{Cell}
use Rattle.autocoder_deck.specs.Card.{fitting, marked_places}

-- one cell in front of others
marks_front : (mark : Bool) (at n : ℕ) (cell : Cell) (cells : List Cell) → cell.mark ≡ mark
    → length (marked_places at (take (n + 1) (cell ∷ cells)))
    ≡ (if mark then 1 else 0) + length (marked_places (at + 1) (take n cells))
marks_front true at n cell cells e = rw add-one (rw e (omega arith))
marks_front false at n cell cells e = rw add-one (rw e (omega arith))

-- one more cell fits, or none does
one_more : (full none mark : Bool) (marks at n : ℕ) (cell : Cell) (cells : List Cell) → cell.mark ≡ mark
    → (marks == 0) ≡ none
    → length (marked_places (at + 1) (take n cells)) ≤ (if mark then marks - 1 else marks)
    → length (marked_places at (take (if full || (mark && none) then 0 else n + 1) (cell ∷ cells))) ≤ marks
one_more true none mark marks at n cell cells e z few = omega arith
one_more false true true marks at n cell cells e z few = omega arith
one_more false false true marks at n cell cells e z few =
    let some : marks ≡ 0 → ⊥ = eqb-false marks 0 z in omega (arith, marks_front true at n cell cells e)
one_more false none false marks at n cell cells e z few = omega (arith, marks_front false at n cell cells e)

pub fitting_marks : (columns marks at : ℕ) (cells : List Cell)
    → length (marked_places at (take (fitting columns marks cells) cells)) ≤ marks
fitting_marks columns marks at [] = omega arith
fitting_marks columns marks at (cell ∷ cells) =
    one_more (columns == 0) (marks == 0) cell.mark marks at
    (fitting (columns - 1) (if cell.mark then marks - 1 else marks) cells) cell cells refl refl
    (fitting_marks (columns - 1) (if cell.mark then marks - 1 else marks) (at + 1) cells)

-- no more cells fit than there are columns
one_column : (full none : Bool) (columns n : ℕ) → (columns == 0) ≡ full → n ≤ columns - 1
    → (if full || none then 0 else n + 1) ≤ columns
one_column true none columns n e few = omega arith
one_column false true columns n e few = omega arith
one_column false false columns n e few =
    let some : columns ≡ 0 → ⊥ = eqb-false columns 0 e in omega (arith, few)

pub fitting_columns : (columns marks : ℕ) (cells : List Cell) → fitting columns marks cells ≤ columns
fitting_columns columns marks [] = omega arith
fitting_columns columns marks (cell ∷ cells) =
    one_column (columns == 0) (cell.mark && (marks == 0)) columns
    (fitting (columns - 1) (if cell.mark then marks - 1 else marks) cells) refl
    (fitting_columns (columns - 1) (if cell.mark then marks - 1 else marks) cells)
