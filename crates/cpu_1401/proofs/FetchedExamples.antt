-- The instruction at a place by its cells, computed. The codes are 27 for the comma, 59 for the full stop, 10 for zero,
-- and 18 for S.
use Rattle.std.proofs.Common.{◌≡◌, List, [], ◌∷◌, None, Some, refl}
use Rattle.bcd_1401.specs.declared.cell.Cell.{Cell}
use Rattle.bcd_1401.specs.Graphic.{graphics}
use Rattle.core_1401.specs.Storage.{Storage}
use Rattle.cpu_1401.specs.Fetched.{instruction_at, next_instruction}
use Rattle.cpu_1401.proofs.ExampleCells.{plain, marked, with_program}

-- a comma with address 001, a halt, and two cells without a word mark before the end of core
set_mark : List Cell
set_mark = marked 27 ∷ plain 10 ∷ plain 10 ∷ plain 1 ∷ []

abbrev program : Storage
program = marked 27 ∷ plain 10 ∷ plain 10 ∷ plain 1 ∷ marked 59 ∷ plain 0 ∷ plain 0 ∷ []

up_to_the_next_mark : next_instruction (with_program program 0) ≡ Some set_mark
unfolding instruction_at graphics set_mark
up_to_the_next_mark = refl

up_to_the_end_of_core : next_instruction (with_program program 4) ≡ Some (marked 59 ∷ plain 0 ∷ plain 0 ∷ [])
unfolding instruction_at graphics
up_to_the_end_of_core = refl

none_without_a_mark : next_instruction (with_program program 1) ≡ None
none_without_a_mark = refl

none_out_of_core : next_instruction (with_program program 7) ≡ None
none_out_of_core = refl

cells_without_a_mark : instruction_at program 1 ≡ plain 10 ∷ plain 10 ∷ plain 1 ∷ []
unfolding instruction_at graphics
cells_without_a_mark = refl

-- the next mark may be the next place
one_cell : instruction_at (marked 18 ∷ program) 0 ≡ marked 18 ∷ []
unfolding instruction_at graphics
one_cell = refl
