-- The image of core storage has what core storage holds.
use Rattle.std.proofs.Common.{◌≡◌, ◌≤◌, ◌<◌, ℕ, zero, suc, ◌+◌, ◌-◌, ◌==◌, ◌&&◌, ◌||◌, nat_le, nat_lt, Bool, true, false}
use Rattle.std.proofs.Common.{if◌then◌else◌, List, [], ◌∷◌, ◌++◌, length, take, drop, arith, refl, sym, ap, ◌∙◌}
use Rattle.std.specs.List.{list_all}
use Rattle.std.proofs.lemmas.Bool.{ltb-false, ltb-true, le-leb}
use Rattle.std.proofs.lemmas.List.{append_assoc, append-nil, drop-drop, drop-replicate, drop_at, take_at, length-append}
use Rattle.std.proofs.lemmas.List.{length-take-le}
use Rattle.bcd_1401.specs.declared.cell.Cell.{Cell}
use Rattle.core_1401.specs.Storage.{Storage, blank, blanks}
use Rattle.cpu_1401.specs.CarryOut.{deposited}
use Rattle.machine_image.specs.Image.{is_inside}
use Rattle.autocoder_deck.specs.Contents.{is_blank, with_segments}
use Rattle.autocoder_deck.specs.LoadedCore.{following, more_cells, one_more, segments_from}
use Rattle.autocoder_deck.proofs.BroughtLemmas.{blank_next, covered_next, only_blanks, part_filled, same_blank}

-- what follows a cell is there
one_is_there : (none : Bool) (more most : ℕ) → more ≤ most → (if none then 0 else more + 1) ≤ most + 1
one_is_there true more most few = omega arith
one_is_there false more most few = omega arith

cell_is_there : (none : Bool) (more most : ℕ) → more ≤ most + 1 → (if none then 0 else more) ≤ most + 1
cell_is_there true more most few = omega arith
cell_is_there false more most few = few

pub following_most : (room : ℕ) (cells : List Cell) → following room cells ≤ length cells
following_most room [] = omega arith
following_most room (cell ∷ cells) =
    let few =
    cell_is_there ((room == 0) || cell.mark) (one_more (is_blank cell) (following (room - 1) cells)) (length cells)
    (one_is_there (is_blank cell && (following (room - 1) cells == 0)) (following (room - 1) cells) (length cells) (following_most (room - 1) cells)) in
    omega (arith, few)

-- a segment's cells
segment_next : (n from : ℕ) (done cells : List Cell) (cell : Cell) → length done ≡ from → n ≤ length cells
    → deposited (part_filled done 0 (cell ∷ cells)) from (cell ∷ take n cells)
    ≡ part_filled (done ++ cell ∷ []) n cells
segment_next n from done cells cell h few =
    let count : length (cell ∷ take n cells) ≡ suc n = omega (arith, length-take-le n cells few) in
    let rest : Storage = blanks (suc (length cells)) in
    let left : suc (length cells) - suc n ≡ length cells - n = omega arith in
    ap (λ (s : Storage). deposited s from (cell ∷ take n cells)) (only_blanks done cells cell)
    ∙ ap (λ (front : Storage). (front ++ cell ∷ take n cells)
    ++ drop (from + length (cell ∷ take n cells)) (done ++ rest)) (take_at done rest from h)
    ∙ ap (λ (k : ℕ). (done ++ cell ∷ take n cells) ++ drop (from + k) (done ++ rest)) count
    ∙ ap (λ (back : Storage). (done ++ cell ∷ take n cells) ++ back)
    (sym (drop-drop (suc n) from (done ++ rest)) ∙ ap (drop (suc n)) (drop_at done rest from h)
    ∙ drop-replicate (suc n) (suc (length cells)) blank ∙ ap blanks left)
    ∙ ap (λ (front : Storage). front ++ blanks (length cells - n)) (sym (append_assoc done (cell ∷ []) (take n cells)))

-- what is filled after one cell more
Filled : ℕ → List Cell → Cell → List Cell → Type 0
Filled from done cell cells =
    (next : ℕ) → next ≤ length cells
    → with_segments (part_filled (done ++ cell ∷ []) next cells) (segments_from next (from + 1) cells)
    ≡ (done ++ cell ∷ []) ++ cells

one_cell : (in_one is_empty : Bool) (covered from : ℕ) (done cells : List Cell) (cell : Cell)
    → nat_lt 0 covered ≡ in_one → is_blank cell ≡ is_empty → length done ≡ from → covered ≤ length (cell ∷ cells)
    → Filled from done cell cells
    → with_segments (part_filled done covered (cell ∷ cells))
    (if in_one then segments_from (covered - 1) (from + 1) cells
    else if is_empty then segments_from 0 (from + 1) cells
    else record {
      address = from;
      cells = cell ∷ take (following more_cells cells) cells;
    } ∷ segments_from (following more_cells cells) (from + 1) cells)
    ≡ done ++ cell ∷ cells
unfolding Filled
one_cell true is_empty covered from done cells cell on e h few more =
    let some : 0 < covered = ltb-true 0 covered on in
    ap (λ (s : Storage). with_segments s (segments_from (covered - 1) (from + 1) cells))
    (covered_next covered done cells cell some)
    ∙ more (covered - 1) (omega arith) ∙ append_assoc done (cell ∷ []) cells
one_cell false is_empty (suc n) from done cells cell on e h few more = absurd (omega (arith, ltb-false 0 (suc n) on))
one_cell false true zero from done cells cell on e h few more =
    ap (λ (s : Storage). with_segments s (segments_from 0 (from + 1) cells))
    (blank_next done cells cell (same_blank cell.char cell.mark e))
    ∙ more 0 (omega arith) ∙ append_assoc done (cell ∷ []) cells
one_cell false false zero from done cells cell on e h few more =
    let n = following more_cells cells in
    ap (λ (s : Storage). with_segments s (segments_from n (from + 1) cells))
    (segment_next n from done cells cell h (following_most more_cells cells))
    ∙ more n (following_most more_cells cells) ∙ append_assoc done (cell ∷ []) cells

all_filled : (covered from : ℕ) (done cells : List Cell) → length done ≡ from → covered ≤ length cells
    → with_segments (part_filled done covered cells) (segments_from covered from cells) ≡ done ++ cells
unfolding Filled
all_filled zero from done [] h few = append-nil (done ++ [])
all_filled (suc n) from done [] h few = absurd (omega arith)
all_filled covered from done (cell ∷ cells) h few =
    let next : length (done ++ cell ∷ []) ≡ from + 1 = omega (arith, length-append done (cell ∷ [])) in
    one_cell (nat_lt 0 covered) (is_blank cell) covered from done cells cell refl refl h few
    (λ n some. all_filled n (from + 1) (done ++ cell ∷ []) cells next some)

-- each segment is in core
cell_inside : (in_one is_empty : Bool) (covered from size : ℕ) (cells : List Cell) (cell : Cell)
    → from + length (cell ∷ cells) ≤ size
    → ((next : ℕ) → list_all (is_inside size) (segments_from next (from + 1) cells) ≡ true)
    → list_all (is_inside size) (if in_one then segments_from (covered - 1) (from + 1) cells
    else if is_empty then segments_from 0 (from + 1) cells
    else record {
      address = from;
      cells = cell ∷ take (following more_cells cells) cells;
    } ∷ segments_from (following more_cells cells) (from + 1) cells)
    ≡ true
cell_inside true is_empty covered from size cells cell few more = more (covered - 1)
cell_inside false true covered from size cells cell few more = more 0
cell_inside false false covered from size cells cell few more =
    let n = following more_cells cells in
    let count = length-take-le n cells (following_most more_cells cells) in
    let inside : nat_le (from + length (cell ∷ take n cells)) size ≡ true =
    le-leb (from + length (cell ∷ take n cells)) size
    (omega (arith, count, following_most more_cells cells)) in
    rw inside (more n)

all_inside : (covered from size : ℕ) (cells : List Cell) → from + length cells ≤ size
    → list_all (is_inside size) (segments_from covered from cells) ≡ true
all_inside covered from size [] few = refl
all_inside covered from size (cell ∷ cells) few =
    cell_inside (nat_lt 0 covered) (is_blank cell) covered from size cells cell few
    (λ next. all_inside next (from + 1) size cells (omega arith))

-- blank core storage with the segments is what they were made of
pub is_storage : (storage : Storage) → with_segments (blanks (length storage)) (segments_from 0 0 storage) ≡ storage
is_storage storage =
    let all : length storage ≡ length storage - 0 = omega arith in
    ap (λ (n : ℕ). with_segments (blanks n) (segments_from 0 0 storage)) all
    ∙ all_filled 0 0 [] storage refl (omega arith)

pub are_inside : (storage : Storage) → list_all (is_inside (length storage)) (segments_from 0 0 storage) ≡ true
are_inside storage = all_inside 0 0 (length storage) storage (omega arith)
