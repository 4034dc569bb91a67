-- The first line with something outside; the segments that cells are cut into.
use Rattle.std.proofs.Common.{◌≡◌, ℕ, zero, suc, ◌+◌, ◌<◌, ◌≤◌, Bool, true, false, cond, List, [], ◌∷◌, ◌++◌, length}
use Rattle.std.proofs.Common.{take, get_or, Option, None, Some, IfSome, refl, sym, ap, subst, ◌∙◌, arith, ◌⊎◌, inl, inr}
use Rattle.std.specs.Prelude.{fold, nat_lt, nat_le, ◌==◌, if◌then◌else◌}
use Rattle.std.specs.List.{list_all, flat_map}
use Rattle.std.proofs.lemmas.Bool.{and_parts, and_from, le-leb, ltb-true, eqb-true}
use Rattle.std.proofs.lemmas.Bool.Decides.{nat_tests}
use Rattle.std.proofs.lemmas.List.{append_assoc, length-append}
use Rattle.bcd_1401.specs.declared.cell.Cell.{Cell}
use Rattle.core_1401.specs.Storage.{is_core_size}
use Rattle.machine_image.specs.declared.image.Segment.{Segment}
use Rattle.autocoder_statements.specs.declared.statement.Line.{Line}
use Rattle.autocoder_symbols.specs.Fault.{IsMemory}
use Rattle.autocoder_symbols.specs.Chains.{chains_of}
use Rattle.autocoder_symbols.specs.Symbols.{sites_of}
use Rattle.autocoder_symbols.specs.declared.fault.AsmFault.{AsmFault}
use Rattle.autocoder_symbols.specs.declared.fault.AsmKind.TheVariants as kinds
use Rattle.autocoder_placing.specs.PlacedImage.{placed_cells, image_of}
use Rattle.autocoder_placing.specs.Cells.{numbered}
use Rattle.autocoder_placing.specs.Laws.{IsFirstOutside, cells_in, has_few, is_parted, are_parted, IsCutOf}
use Rattle.autocoder_placing.specs.Placement.{Placement, nothing_placed, placed_after, unplaced, placed}
use Rattle.autocoder_placing.specs.Segments.{start_or_zero, closed, goes_on, cut}
use Rattle.autocoder_placing.specs.Values.{line_outside, first_outside_from, first_outside}
use Rattle.autocoder_placing.proofs.CoreLemmas.{size_bound, are_below, cells_below}
use Rattle.autocoder_placing.proofs.UnplacedLemmas.{unplaced_is}

-- the first of lines with something outside, with these placed before them, and counted from a number
record FoundFrom (size : ℕ) (all : Placement) (number : ℕ) (this : Placement) (lines : List Line)
    (fault : AsmFault) : Type 0 where
  index : ℕ
  kind : fault.kind ≡ kinds.OutOfCore
  numbered : fault.line ≡ index + number
  there : index < length lines
  earlier : (k : ℕ) → k < index → (d : Line)
      → line_outside size all (fold placed_after this (take k lines)) (get_or lines k d) ≡ false
  here : (d : Line) → line_outside size all (fold placed_after this (take index lines)) (get_or lines index d) ≡ true

found_from : (size : ℕ) (all : Placement) (number : ℕ) (this : Placement) (lines : List Line) (fault : AsmFault)
    → first_outside_from size all number this lines ≡ Some fault → FoundFrom size all number this lines fault
found_from size all number this [] fault e = cc
found_from size all number this (line ∷ lines) fault e =
    by (line_outside size all this line) refl e (found_from size all (number + 1) (placed_after this line) lines fault)
  where
    by : (b : Bool) → line_outside size all this line ≡ b
        → cond b (Some (record { line = number; kind = kinds.OutOfCore }))
        (first_outside_from size all (number + 1) (placed_after this line) lines) ≡ Some fault
        → (first_outside_from size all (number + 1) (placed_after this line) lines ≡ Some fault
        → FoundFrom size all (number + 1) (placed_after this line) lines fault)
        → FoundFrom size all number this (line ∷ lines) fault
    by true is h rest =
        let same : record { line = number; kind = kinds.OutOfCore } ≡ fault = cc in
        record {
          index = 0;
          kind = sym (ap (λ (f : AsmFault). f.kind) same);
          numbered = omega (arith, ap (λ (f : AsmFault). f.line) same);
          there = omega arith;
          earlier = λ k low. absurd (omega (arith, low));
          here = λ d. is;
        }
    by false is h rest =
        let f = rest h in
        record {
          index = suc f.index;
          kind = f.kind;
          numbered = omega (arith, f.numbered);
          there = omega (arith, f.there);
          earlier = before f;
          here = f.here;
        }
      where
        before : (f : FoundFrom size all (number + 1) (placed_after this line) lines fault) → (k : ℕ) → k < suc f.index
            → (d : Line)
            → line_outside size all (fold placed_after this (take k (line ∷ lines))) (get_or (line ∷ lines) k d) ≡ false
        before f zero low d = is
        before f (suc k) low d = f.earlier k (omega (arith, low)) d

-- what is found is the first line with something outside
pub found_outside : (size : ℕ) (lines : List Line) (found : Option AsmFault) → found ≡ first_outside size lines
    → IfSome found (IsFirstOutside size lines)
found_outside size lines None e = tt
found_outside size lines (Some fault) e =
    let first = nothing_placed (chains_of (sites_of lines) lines) in
    let found : first_outside_from size (placed lines) 1 first lines ≡ Some fault =
    ap (λ (this : Placement). first_outside_from size (placed lines) 1 this lines) (sym (unplaced_is lines)) ∙ sym e in
    let f = found_from size (placed lines) 1 first lines fault found in
    record {
      index = f.index;
      kind = f.kind;
      numbered = f.numbered;
      there = f.there;
      earlier = f.earlier;
      here = f.here;
    }

-- what is found once all of these are placed is the first line with something outside
pub refused_outside : (size : ℕ) (all : Placement) (lines : List Line) (fault : AsmFault) → all ≡ placed lines
    → IsMemory fault ⊎ (first_outside_from size all 1 (unplaced all) lines ≡ Some fault)
    → IsMemory fault ⊎ ((first_outside size lines ≡ Some fault) × IsFirstOutside size lines fault)
refused_outside size all lines fault same found =
    elim found [
      | inl memory ↦ inl memory
      | inr outside ↦ (let whole : first_outside size lines ≡ Some fault =
          ap (λ (places : Placement). first_outside_from size places 1 (unplaced places) lines) (sym same) ∙ outside in
          inr (whole, found_outside size lines (Some fault) (sym whole)))
    ]

-- one cell more
numbered_push : (at : ℕ) (cells : List Cell) (cell : Cell)
    → numbered at (cells ++ cell ∷ []) ≡ numbered at cells ++ (at + length cells, cell) ∷ []
numbered_push at [] cell = ap (λ (n : ℕ). (n, cell) ∷ []) (omega arith)
numbered_push at (first ∷ cells) cell =
    ap (λ more. (at, first) ∷ more)
    (numbered_push (at + 1) cells cell
    ∙ ap (λ (n : ℕ). numbered (at + 1) cells ++ (n, cell) ∷ []) (omega arith))

-- a segment with cells that fit
closed_is : (at : ℕ) (cells : List Cell) → at < 16000 → 0 < length cells → length cells ≤ 40
    → closed at cells ≡ record { address = at; cells = cells } ∷ []
closed_is at cells low some few =
    let same : start_or_zero at ≡ at = grind (arith, nat_tests) in
    rw (le-leb 1 (length cells) (omega (arith, some)), le-leb (length cells) 40 few) (rw same refl)

-- the segments of cells at a place, with others after them
record CutFrom (at : ℕ) (cells : List Cell) (rest : List (ℕ × Cell)) (segments : List Segment) : Type 0 where
  whole : flat_map cells_in segments ≡ numbered at cells ++ rest
  few : list_all has_few segments ≡ true
  parted : are_parted segments ≡ true

-- the first segment is at this address
abbrev StartsAt : ℕ → List Segment → Type 0
StartsAt at [] = ⊥
StartsAt at (segment ∷ segments) = segment.address ≡ at

starts : (size at : ℕ) (cells : List Cell) (rest : List (ℕ × Cell)) → size ≤ 16000 → 0 < length cells
    → at + length cells ≤ size → length cells ≤ 40 → are_below size rest ≡ true → StartsAt at (cut at cells rest)
starts size at cells [] small some inside few below =
    subst (StartsAt at) (sym (closed_is at cells (omega (arith, some, inside, small)) some few)) refl
starts size at cells (next ∷ more) small some inside few below =
    let parts = and_parts (nat_lt next.0 size) (are_below size more) below in
    by (goes_on at cells next.0) refl (ltb-true next.0 size parts.0)
    (λ room fits. starts size at (cells ++ next.1 ∷ []) more small (omega (arith, length-append cells (next.1 ∷ [])))
    (omega (arith, length-append cells (next.1 ∷ []), room))
    (omega (arith, length-append cells (next.1 ∷ []), fits)) parts.1)
  where
    by : (b : Bool) → goes_on at cells next.0 ≡ b → next.0 < size
        → (at + length cells < size → length cells < 40 → StartsAt at (cut at (cells ++ next.1 ∷ []) more))
        → StartsAt at (if b then cut at (cells ++ next.1 ∷ []) more else closed at cells
        ++ cut next.0 (next.1 ∷ []) more)
    by true is low longer =
        let both = and_parts (next.0 == at + length cells) (nat_lt (length cells) 40) is in
        let same = eqb-true next.0 (at + length cells) both.0 in
        longer (omega (arith, same, low)) (ltb-true (length cells) 40 both.1)
    by false is low longer =
        subst (λ (segments : List Segment). StartsAt at (segments ++ cut next.0 (next.1 ∷ []) more))
        (sym (closed_is at cells (omega (arith, some, inside, small)) some few)) refl

-- a segment in front of those that begin at another address, or after one that is full
parted_on : (at : ℕ) (cells : List Cell) (next : ℕ) (segments : List Segment) → length cells ≤ 40
    → goes_on at cells next ≡ false → StartsAt next segments → are_parted segments ≡ true
    → are_parted (record { address = at; cells = cells } ∷ segments) ≡ true
parted_on at cells next [] few is start parted = refl
parted_on at cells next (segment ∷ segments) few is start parted =
    and_from (is_parted (record { address = at; cells = cells }) segment) (are_parted (segment ∷ segments)) gap parted
  where
    gap : is_parted (record { address = at; cells = cells }) segment ≡ true
    gap = rw start (grind (arith, nat_tests))

cut_from : (size at : ℕ) (cells : List Cell) (rest : List (ℕ × Cell)) → size ≤ 16000
    → (0 < length cells → at + length cells ≤ size) → length cells ≤ 40 → are_below size rest ≡ true
    → CutFrom at cells rest (cut at cells rest)
cut_from size at [] [] small inside few below = record { whole = refl; few = refl; parted = refl }
cut_from size at (cell ∷ cells) [] small inside few below =
    let some : 0 < length (cell ∷ cells) = omega arith in
    let whole = inside some in
    let one = closed_is at (cell ∷ cells) (omega (arith, whole, small)) some few in
    subst (CutFrom at (cell ∷ cells) []) (sym one)
    (record {
      whole = refl;
      few = rw (le-leb 1 (length (cell ∷ cells)) (omega arith), le-leb (length (cell ∷ cells)) 40 few) refl;
      parted = refl;
    })
cut_from size at cells (next ∷ more) small inside few below =
    let parts = and_parts (nat_lt next.0 size) (are_below size more) below in
    let low = ltb-true next.0 size parts.0 in
    by (goes_on at cells next.0) refl low
    (λ room fits. cut_from size at (cells ++ next.1 ∷ []) more small
    (λ some. omega (arith, length-append cells (next.1 ∷ []), room))
    (omega (arith, length-append cells (next.1 ∷ []), fits)) parts.1)
    (cut_from size next.0 (next.1 ∷ []) more small (λ some. omega (arith, low)) (omega arith) parts.1)
    (starts size next.0 (next.1 ∷ []) more small (omega arith) (omega (arith, low)) (omega arith) parts.1)
  where
    beyond : List Segment
    beyond = cut next.0 (next.1 ∷ []) more

    apart : (given : List Cell) → given ≡ cells → goes_on at cells next.0 ≡ false
        → CutFrom next.0 (next.1 ∷ []) more (cut next.0 (next.1 ∷ []) more)
        → StartsAt next.0 (cut next.0 (next.1 ∷ []) more)
        → CutFrom at given (next ∷ more) (closed at given ++ cut next.0 (next.1 ∷ []) more)
    apart [] same is anew start = record { whole = anew.whole; few = anew.few; parted = anew.parted }
    apart (cell ∷ given) same is anew start =
        let length_is : length (cell ∷ given) ≡ length cells = ap length same in
        let some : 0 < length (cell ∷ given) = omega arith in
        let fits : length (cell ∷ given) ≤ 40 = omega (arith, length_is, few) in
        let whole : at + length cells ≤ size = inside (omega (arith, length_is, some)) in
        let one = closed_is at (cell ∷ given) (omega (arith, whole, small, length_is, some)) some fits in
        let apart_is : goes_on at (cell ∷ given) next.0 ≡ false =
        ap (λ (held : List Cell). goes_on at held next.0) same ∙ is in
        subst (λ (first : List Segment). CutFrom at (cell ∷ given) (next ∷ more)
        (first ++ cut next.0 (next.1 ∷ []) more))
        (sym one)
        (record {
          whole = ap (λ (cells_beyond : List (ℕ × Cell)). numbered at (cell ∷ given) ++ cells_beyond) anew.whole;
          few =
              and_from (has_few (record { address = at; cells = cell ∷ given }))
              (list_all has_few (cut next.0 (next.1 ∷ []) more))
              (and_from (nat_le 1 (length (cell ∷ given))) (nat_le (length (cell ∷ given)) 40)
              (le-leb 1 (length (cell ∷ given)) (omega arith)) (le-leb (length (cell ∷ given)) 40 fits))
              anew.few;
          parted = parted_on at (cell ∷ given) next.0 (cut next.0 (next.1 ∷ []) more) fits apart_is start anew.parted;
        })

    by : (b : Bool) → goes_on at cells next.0 ≡ b → next.0 < size
        → (at + length cells < size → length cells < 40
        → CutFrom at (cells ++ next.1 ∷ []) more (cut at (cells ++ next.1 ∷ []) more))
        → CutFrom next.0 (next.1 ∷ []) more (cut next.0 (next.1 ∷ []) more)
        → StartsAt next.0 (cut next.0 (next.1 ∷ []) more)
        → CutFrom at cells (next ∷ more)
        (if b then cut at (cells ++ next.1 ∷ []) more else closed at cells ++ cut next.0 (next.1 ∷ []) more)
    by true is low longer anew start =
        let both = and_parts (next.0 == at + length cells) (nat_lt (length cells) 40) is in
        let same = eqb-true next.0 (at + length cells) both.0 in
        let made = longer (omega (arith, same, low)) (ltb-true (length cells) 40 both.1) in
        let pushed : numbered at (cells ++ next.1 ∷ []) ≡ numbered at cells ++ next ∷ [] =
        numbered_push at cells next.1 ∙ ap (λ (n : ℕ). numbered at cells ++ (n, next.1) ∷ []) (sym same) in
        record {
          whole =
              made.whole ∙ ap (λ (front : List (ℕ × Cell)). front ++ more) pushed
              ∙ append_assoc (numbered at cells) (next ∷ []) more;
          few = made.few;
          parted = made.parted;
        }
    by false is low longer anew start = apart cells refl is anew start

-- the segments of the image are those of the cells that the lines place
pub image_cut : (size : ℕ) (lines : List Line) → is_core_size size ≡ true → first_outside size lines ≡ None
    → IsCutOf (placed_cells lines) (image_of size lines).segments
image_cut size lines size_is none =
    let bounds = size_bound size size_is in
    let below = cells_below size (placed lines) 1 (unplaced (placed lines)) lines bounds.1 none in
    let made = cut_from size 0 [] (placed_cells lines) bounds.1 (λ some. absurd (omega (arith, some)))
    (omega arith) below in
    record { whole = made.whole; few = made.few; parted = made.parted }
