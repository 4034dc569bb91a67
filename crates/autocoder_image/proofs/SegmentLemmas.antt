-- The segments of cells, one after the other.
use Rattle.std.proofs.Common.{◌≡◌, ◌≢◌, ℕ, ◌+◌, ◌<◌, ◌≤◌, ◌==◌, ◌&&◌, Bool, true, false, nat_le, nat_lt, List, [], ◌∷◌, ◌++◌}
use Rattle.std.proofs.Common.{length, if◌then◌else◌, refl, sym, ap, ◌∙◌, arith}
use Rattle.std.specs.List.{list_all}
use Rattle.std.proofs.lemmas.Bool.{and_from, and_parts, le-leb, lt-ltb, eqb-true, eq-eqb}
use Rattle.std.proofs.lemmas.Bool.Decides.{nat_tests}
use Rattle.std.proofs.lemmas.List.{append-nil}
use Rattle.std.proofs.lemmas.List.Folds.{list_all-append}
use Rattle.bcd_1401.specs.declared.cell.Cell.{Cell}
use Rattle.machine_image.specs.ImageText.{is_character, is_segment}
use Rattle.autocoder_placing.specs.Segments.{start_or_zero, closed, goes_on, cut, segments_of}
use Rattle.autocoder_image.specs.Packed.{is_placed, ArePlaced}

-- the first cell begins a segment
pub begun : (at : ℕ) (cell : Cell) (more : List (ℕ × Cell)) → segments_of ((at, cell) ∷ more) ≡ cut at (cell ∷ []) more
begun at cell more = by (goes_on 0 [] at) refl
  where
    by : (b : Bool) → goes_on 0 [] at ≡ b
        → (if b then cut 0 ([] ++ cell ∷ []) more else closed 0 [] ++ cut at (cell ∷ []) more) ≡ cut at (cell ∷ []) more
    by false is = refl
    by true is =
        let same : at ≡ 0 = eqb-true at 0 (and_parts (at == 0) true is).0 in
        ap (λ n. cut n (cell ∷ []) more) (sym same)

-- a cell at the next place goes on with a segment that has room
pub goes_on_with : (at : ℕ) (cells : List Cell) (next : ℕ) (cell : Cell) (more : List (ℕ × Cell))
    → next ≡ at + length cells → length cells < 40
    → cut at cells ((next, cell) ∷ more) ≡ cut at (cells ++ cell ∷ []) more
goes_on_with at cells next cell more same room =
    rw (eq-eqb next (at + length cells) same, lt-ltb (length cells) 40 room) refl

parted : (b : Bool) (at : ℕ) (cells : List Cell) (next : ℕ) (cell : Cell) (more : List (ℕ × Cell))
    → goes_on at cells next ≡ b → b ≡ false
    → cut at cells ((next, cell) ∷ more) ≡ closed at cells ++ segments_of ((next, cell) ∷ more)
parted true at cells next cell more is apart = absurd cc
parted false at cells next cell more is apart = rw is (ap (λ beyond. closed at cells ++ beyond) (sym (begun next cell more)))

-- one at another place doesn't
pub parted_by_gap : (at : ℕ) (cells : List Cell) (next : ℕ) (cell : Cell) (more : List (ℕ × Cell))
    → next ≢ at + length cells
    → cut at cells ((next, cell) ∷ more) ≡ closed at cells ++ segments_of ((next, cell) ∷ more)
parted_by_gap at cells next cell more other =
    let apart : (next == at + length cells) ≡ false = grind (arith, nat_tests, other) in
    parted (goes_on at cells next) at cells next cell more refl (rw apart refl)

-- nor does any cell once the segment is full
pub parted_when_full : (at : ℕ) (cells : List Cell) (rest : List (ℕ × Cell)) → length cells ≡ 40
    → cut at cells rest ≡ closed at cells ++ segments_of rest
parted_when_full at cells [] full = sym (append-nil (closed at cells))
parted_when_full at cells ((next, cell) ∷ more) full =
    let apart : nat_lt (length cells) 40 ≡ false = grind (arith, nat_tests, full) in
    parted (goes_on at cells next) at cells next cell more refl (none (next == at + length cells) _ apart)
  where
    none : (a b : Bool) → b ≡ false → (a && b) ≡ false
    none true b not_b = not_b
    none false b not_b = refl

-- a segment of few cells, at an address
pub closed_is : (at : ℕ) (cells : List Cell) → at < 16000 → 1 ≤ length cells → length cells ≤ 40
    → closed at cells ≡ record { address = at; cells = cells } ∷ []
closed_is at cells low some few =
    let same : start_or_zero at ≡ at = grind (arith, nat_tests) in
    rw (le-leb 1 (length cells) some, le-leb (length cells) 40 few) (rw same refl)

closed_own : (at : ℕ) (cells : List Cell) → list_all is_character cells ≡ true
    → list_all is_segment (closed at cells) ≡ true
closed_own at cells own = by (nat_le 1 (length cells) && nat_le (length cells) 40) refl
  where
    by : (b : Bool) → (nat_le 1 (length cells) && nat_le (length cells) 40) ≡ b
        → list_all is_segment (if b then record { address = start_or_zero at; cells = cells } ∷ [] else []) ≡ true
    by false is = refl
    by true is =
        let parts = and_parts (nat_le 1 (length cells)) (nat_le (length cells) 40) is in
        and_from _ true (and_from _ _ (and_from _ _ parts.0 parts.1) own) refl

-- the segments of characters are the machine's
pub cut_own : (at : ℕ) (cells : List Cell) (rest : List (ℕ × Cell)) → list_all is_character cells ≡ true → ArePlaced rest
    → list_all is_segment (cut at cells rest) ≡ true
cut_own at cells [] own placed = closed_own at cells own
cut_own at cells ((next, cell) ∷ more) own placed =
    let parts = and_parts (is_placed (next, cell)) (list_all is_placed more) placed in
    let char = (and_parts (nat_lt next 16000) (is_character cell) parts.0).1 in
    let longer : list_all is_character (cells ++ cell ∷ []) ≡ true =
    list_all-append is_character cells (cell ∷ []) ∙ and_from _ _ own (and_from _ true char refl) in
    by (goes_on at cells next)
    (cut_own at (cells ++ cell ∷ []) more longer parts.1)
    (list_all-append is_segment (closed at cells) (cut next (cell ∷ []) more)
    ∙ and_from _ _ (closed_own at cells own) (cut_own next (cell ∷ []) more (and_from _ true char refl) parts.1))
  where
    by : (b : Bool) → list_all is_segment (cut at (cells ++ cell ∷ []) more) ≡ true
        → list_all is_segment (closed at cells ++ cut next (cell ∷ []) more) ≡ true
        → list_all is_segment
        (if b then cut at (cells ++ cell ∷ []) more else closed at cells ++ cut next (cell ∷ []) more) ≡ true
    by true p q = p
    by false p q = q
