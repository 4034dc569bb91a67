-- Cells that are written on tape and read again.
use Rattle.std.proofs.Common.{◌≡◌, ℕ, ◌==◌, ◌||◌, not, Bool, true, false, List, [], ◌∷◌, ◌++◌, refl, sym, ◌∙◌, ap}
use Rattle.std.proofs.Common.{inl, inr, map}
use Rattle.std.specs.Prelude.{if◌then◌else◌}
use Rattle.std.specs.List.{list_all}
use Rattle.std.proofs.lemmas.Bool.{and_parts, cases_Bool, eqb-true, false≢true}
use Rattle.bcd_1401.specs.declared.cell.Cell.{Cell}
use Rattle.machine_tapes.specs.TapeText.{cells_from, cells_read, read_char, text_of, text_of_cell}
use Rattle.machine_tapes.specs.TapeText.{written_char}
use Rattle.machine_tapes.specs.TapesLaw.{is_kept_by_load, unmarked}
use Rattle.machine_tapes.specs.declared.work.TapeMode.TheVariants.{Move, Load}
use Rattle.machine_tapes.proofs.CellLemmas.{cell_of}

not_true : (b : Bool) → not b ≡ true → b ≡ false
not_true true e = absurd (false≢true e)
not_true false e = refl

-- a character in even parity
even_again : (char : ℕ) → (char == 16) ≡ false → read_char false (written_char false char) ≡ char
even_again char other =
    elim (cases_Bool (char == 0)) [
      | inl zero ↦ ap (λ (b : Bool). read_char false (if b then 16 else char)) zero ∙ sym (eqb-true char 0 zero)
      | inr some ↦ ap (λ (b : Bool). read_char false (if b then 16 else char)) some
          ∙ ap (λ (b : Bool). if b then 0 else char) other
    ]

char_again : (is_odd : Bool) (char : ℕ) → (is_odd || not (char == 16)) ≡ true
    → read_char is_odd (written_char is_odd char) ≡ char
char_again true char kept = refl
char_again false char kept = even_again char (not_true (char == 16) kept)

-- no other is written as a word separator
even_no_separator : (char : ℕ) (b : Bool) → (char == 29) ≡ false → ((if b then 16 else char) == 29) ≡ false
even_no_separator char true other = refl
even_no_separator char false other = other

no_separator : (is_odd : Bool) (char : ℕ) → (char == 29) ≡ false → (written_char is_odd char == 29) ≡ false
no_separator true char other = other
no_separator false char other = even_no_separator char (char == 0) other

-- a cell that is read again, before those after it
cell_again : (is_odd mark : Bool) (char : ℕ) (text : List ℕ)
    → (let cell : Cell = record { char = char; mark = mark } in is_kept_by_load is_odd cell) ≡ true
    → cells_from Load is_odd false (text_of_cell Load is_odd (record { char = char; mark = mark }) ++ text)
    ≡ record { char = char; mark = mark } ∷ cells_from Load is_odd false text
cell_again is_odd true char text kept =
    let char_kept = (and_parts true (is_odd || not (char == 16)) kept).1 in
    ap (λ c. let cell : Cell = record { char = c; mark = true } in cell ∷ cells_from Load is_odd false text)
    (char_again is_odd char char_kept)
cell_again is_odd false char text kept =
    let parts = and_parts (not (char == 29)) (is_odd || not (char == 16)) kept in
    ap (λ (b : Bool). if b then cells_from Load is_odd true text
    else cell_of is_odd false (written_char is_odd char) ∷ cells_from Load is_odd false text)
    (no_separator is_odd char (not_true (char == 29) parts.0))
    ∙ ap (λ c. let cell : Cell = record { char = c; mark = false } in cell ∷ cells_from Load is_odd false text)
    (char_again is_odd char parts.1)

pub load_again : (is_odd : Bool) (cells : List Cell) → list_all (is_kept_by_load is_odd) cells ≡ true
    → cells_read Load is_odd (text_of Load is_odd cells) ≡ cells
load_again is_odd [] all = refl
load_again is_odd (cell ∷ cells) all =
    let parts = and_parts (is_kept_by_load is_odd cell) (list_all (is_kept_by_load is_odd) cells) all in
    cell_again is_odd cell.mark cell.char (text_of Load is_odd cells) parts.0
    ∙ ap (λ (xs : List Cell). cell ∷ xs) (load_again is_odd cells parts.1)

pub move_again : (cells : List Cell) → cells_read Move true (text_of Move true cells) ≡ map unmarked cells
move_again [] = refl
move_again (cell ∷ cells) = ap (λ (xs : List Cell). unmarked cell ∷ xs) (move_again cells)
