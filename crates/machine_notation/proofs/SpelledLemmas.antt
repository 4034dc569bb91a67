-- What is made of a text whose first cells are these.
use Rattle.std.proofs.Common.{◌≡◌, ℕ, ◌==◌, ◌<◌, ◌≤◌, ◌&&◌, Bool, true, false, nat_le, if◌then◌else◌, List, [], ◌∷◌}
use Rattle.std.proofs.Common.{◌++◌, length, map, Option, None, Some, Result, Ok, Err, is_some, refl, ap}
use Rattle.std.proofs.Common.{subst, ◌∙◌, arith, length-append}
use Rattle.std.proofs.lemmas.Bool.{and_parts, eqb-true, false≢true}
use Rattle.bcd_1401.specs.Graphic.{graphics}
use Rattle.std.specs.Prelude.{position, slice_index, OnOk}
use Rattle.std.specs.Option.{ok_or}
use Rattle.std.specs.List.{list_all}
use Rattle.std.proofs.lemmas.List.{append-nil, length-map}
use Rattle.std.proofs.lemmas.List.{map_push}
use Rattle.std.proofs.lemmas.Bool.Decides.{nat_tests}
use Rattle.bcd_1401.specs.declared.cell.Cell.{Cell}
use Rattle.machine_notation.specs.declared.fault.CellsFault.TheVariants.{Graphic, Length}
use Rattle.machine_notation.specs.Cells.{cell_of, cell_text, cells_of, cells_text, spelled}
use Rattle.machine_notation.proofs.MissingLemmas.{all_there, missed, taken_all, taken_first, the_values}

counted : (enough : Bool) (cells : List Cell)
    → (if enough then Ok cells else Err Length) ≡ ok_or (if enough then Some cells else None) Length
counted true cells = refl
counted false cells = refl

-- nothing is left
pub cells_of-all : (cells : List Cell) → length cells ≤ 40
    → cells_of (map Some cells ++ [])
    ≡ ok_or (if nat_le 1 (length cells) && nat_le (length cells) 40 then Some cells else None) Length
unfolding cells_of
cells_of-all cells few =
    let many = length-map cells Some in
    rw (append-nil, taken_all 40 cells few, all_there, the_values, many)
    (counted (nat_le 1 (length cells) && nat_le (length cells) 40) cells)

-- before the fortieth cell a graphic is missed
pub cells_of-missed : (cells : List Cell) (more : List (Option Cell)) → length cells < 40
    → cells_of (map Some cells ++ None ∷ more) ≡ Err Graphic
unfolding cells_of
cells_of-missed cells more few = rw (missed 40 cells more few)

-- there is something after the fortieth cell
pub cells_of-long : (cells : List Cell) (cell : Option Cell) (more : List (Option Cell)) → length cells ≡ 40
    → cells_of (map Some cells ++ cell ∷ more) ≡ Err Length
unfolding cells_of
cells_of-long cells cell more forty =
    let many = length-map cells Some in
    rw (taken_first 40 cells (cell ∷ more) forty, all_there)
    (grind (arith, nat_tests, length-append (map Some cells) (cell ∷ more)))

-- a tilde is no graphic
no_tilde : (byte : ℕ) (is_tilde : Bool) → (byte == 126) ≡ is_tilde → is_some (cell_of false byte) ≡ true
    → is_tilde ≡ false
unfolding graphics
no_tilde byte false e there = refl
no_tilde byte true e there =
    absurd (false≢true (subst (λ n. is_some (cell_of false n) ≡ true) (eqb-true byte 126 e) there))

-- one cell in front, by whether a tilde comes before it
cell_in_front : (is_tilde : Bool) (cell marked : Option Cell) (more more' longer longer' back : List (Option Cell))
    → (list_all is_some more ≡ true → more' ≡ more ++ back)
    → (list_all is_some longer ≡ true → longer' ≡ longer ++ back)
    → list_all is_some (if is_tilde then marked ∷ more else cell ∷ longer) ≡ true
    → (if is_tilde then marked ∷ more' else cell ∷ longer')
    ≡ (if is_tilde then marked ∷ more else cell ∷ longer) ++ back
cell_in_front true cell marked more more' longer longer' back short long all =
    ap (λ rest. marked ∷ rest) (short (and_parts _ _ all).1)
cell_in_front false cell marked more more' longer longer' back short long all =
    ap (λ rest. cell ∷ rest) (long (and_parts _ _ all).1)

-- after a text that spells cells alone another text spells its own
pub spelled-append : (front back : List ℕ) → list_all is_some (spelled front) ≡ true
    → spelled (front ++ back) ≡ spelled front ++ spelled back
unfolding spelled
spelled-append [] back all = refl
spelled-append (byte ∷ []) [] all = refl
spelled-append (byte ∷ []) (next ∷ more) all =
    let plain : (byte == 126) ≡ false = no_tilde byte (byte == 126) refl (and_parts _ _ all).0 in rw plain
spelled-append (byte ∷ next ∷ more) back all =
    cell_in_front (byte == 126) (cell_of false byte) (cell_of true next) (spelled more) (spelled (more ++ back))
    (spelled (next ∷ more)) (spelled (next ∷ (more ++ back))) (spelled back) (spelled-append more back)
    (spelled-append (next ∷ more) back) all

-- cells that are there, 1 to 40 of them
pub cells_of-some : (cells : List Cell) → 1 ≤ length cells → length cells ≤ 40 → cells_of (map Some cells) ≡ Ok cells
unfolding cells_of
cells_of-some cells some few =
    let many = length-map cells Some in
    rw (taken_all 40 cells few, all_there, the_values) (grind (arith, nat_tests))

-- a cell by its parts
own_again : (mark : Bool) (char : ℕ) → position (λ each. each == slice_index graphics char) graphics ≡ Some char
    → spelled (cell_text (record { char = char; mark = mark })) ≡ Some (record { char = char; mark = mark }) ∷ []
unfolding spelled
own_again true char own = rw own
own_again false char own = rw own

-- a cell by the graphic that is its own is read again
pub cell_again : (cell : Cell) → position (λ each. each == slice_index graphics cell.char) graphics ≡ Some cell.char
    → spelled (cell_text cell) ≡ Some cell ∷ []
cell_again cell own = own_again cell.mark cell.char own

-- cells, and one more after them
pub cells_again : (text added : List ℕ) (cells : List Cell) (cell : Cell) → spelled text ≡ map Some cells
    → spelled added ≡ Some cell ∷ []
    → spelled (text ++ added) ≡ map Some (cells ++ cell ∷ [])
cells_again text added cells cell so_far one =
    spelled-append text added (ap (list_all is_some) so_far ∙ all_there cells) ∙ rw (so_far, one, map_push)

-- cells that are spelled are read, 1 to 40 of them
pub again_on : {E : Type 0} (result : Result (Unit {0}) E) (cells : List Cell) → 1 ≤ length cells → length cells ≤ 40
    → OnOk result (spelled (cells_text cells) ≡ map Some cells)
    → OnOk result (cells_of (spelled (cells_text cells)) ≡ Ok cells)
again_on (Ok done) cells some few h = ap cells_of h ∙ cells_of-some cells some few
again_on (Err why) cells some few h = h
