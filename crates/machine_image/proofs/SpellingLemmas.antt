-- Cells by their graphics, written and read.
use Rattle.std.proofs.Common.{◌≡◌, ℕ, ◌==◌, ◌≤◌, ◌&&◌, nat_le, Bool, true, false, if◌then◌else◌, List, [], ◌∷◌}
use Rattle.std.proofs.Common.{◌++◌, length, take, map, slice_index, Option, Some, None, is_some, Result, Ok, Err}
use Rattle.std.proofs.Common.{refl, sym, ap, subst, ◌∙◌}
use Rattle.std.specs.Prelude.{filter_map, position}
use Rattle.std.specs.Option.{option_map}
use Rattle.std.specs.List.{flat_map, list_all}
use Rattle.std.specs.Result.{result_ok}
use Rattle.std.proofs.lemmas.Bool.{and_from, and_parts, eqb-true, eq-eqb, leb-true, false≢true}
use Rattle.std.proofs.lemmas.List.{take_all, length-map}
use Rattle.std.proofs.lemmas.List.Quantifiers.{position-Some}
use Rattle.std.proofs.lemmas.Option.{same_Some}
use Rattle.bcd_1401.specs.declared.cell.Cell.{Cell}
use Rattle.bcd_1401.specs.Graphic.{graphics}
use Rattle.machine_notation.specs.declared.fault.CellsFault.{CellsFault}
use Rattle.machine_notation.specs.declared.fault.CellsFault.TheVariants.{Graphic, Length}
use Rattle.machine_notation.specs.Cells.{cell_of, cell_text, cells_of, cells_text, spelled}
use Rattle.machine_notation.proofs.SpelledLemmas.{cells_of-some}
use Rattle.machine_image.specs.declared.image.Segment.{Segment}
use Rattle.machine_image.specs.ImageText.{is_char, is_character, is_segment}
use Rattle.machine_image.specs.Reading.{few_cells_in}

-- a cell is read from a byte
pub record IsRead (mark : Bool) (byte : ℕ) (cell : Cell) : Type 0 where
  pub graphic : slice_index graphics cell.char ≡ byte
  pub mark_is : cell.mark ≡ mark
  pub own : is_character cell ≡ true

found_char : (mark : Bool) (place : Option ℕ) (cell : Cell)
    → option_map (λ char. record { char = char; mark = mark }) place ≡ Some cell → (place ≡ Some cell.char)
    × (cell.mark ≡ mark)
found_char mark None cell h = absurd cc
found_char mark (Some char) cell h =
    let made : Cell = record { char = char; mark = mark } in
    let same : made ≡ cell = same_Some made cell h in
    (ap (λ (each : Cell). Some each.char) same, sym (ap (λ (each : Cell). each.mark) same))

own_from : (place : Option ℕ) (char : ℕ) → place ≡ Some char → is_char place char ≡ true
own_from place char h = rw h (eq-eqb char char refl)

pub cell_takes : (mark : Bool) (byte : ℕ) (cell : Cell) → cell_of mark byte ≡ Some cell → IsRead mark byte cell
cell_takes mark byte cell h =
    let found = found_char mark (position (λ each. each == byte) graphics) cell h in
    let at = position-Some (λ each. each == byte) graphics cell.char 0 found.0 in
    let graphic : slice_index graphics cell.char ≡ byte = eqb-true _ _ at.1 in
    record {
      graphic = graphic;
      mark_is = found.1;
      own =
          subst (λ n. is_char (position (λ each. each == n) graphics) cell.char
          ≡ true) (sym graphic) (own_from _ cell.char found.0);
    }

place_from : (place : Option ℕ) (char : ℕ) → is_char place char ≡ true → place ≡ Some char
place_from None char h = absurd (false≢true h)
place_from (Some found) char h = ap Some (eqb-true found char h)

-- a cell by its graphic is read again
pub cell_again : (cell : Cell) → is_character cell ≡ true → cell_of cell.mark (slice_index graphics cell.char)
    ≡ Some cell
cell_again cell own =
    let place = place_from (position (λ each. each == slice_index graphics cell.char) graphics) cell.char own in
    ap (option_map (λ char. record { char = char; mark = cell.mark })) place

-- no character has a byte that is no graphic
pub no_character : (byte : ℕ) → position (λ each. each == byte) graphics ≡ None → (cell : Cell)
    → (slice_index graphics cell.char == byte) ≡ true → is_character cell ≡ true → ⊥
no_character byte nowhere cell e own =
    let there : slice_index graphics cell.char ≡ byte = eqb-true _ _ e in
    let none : position (λ each. each == slice_index graphics cell.char) graphics
    ≡ None = ap (λ n. position (λ each. each == n) graphics) there ∙ nowhere in
    false≢true (sym (ap (λ place. is_char place cell.char) none) ∙ own)

no_place : position (λ each. each == 126) graphics ≡ None
unfolding graphics
no_place = refl

-- a tilde is no graphic
pub no_tilde : (cell : Cell) (is_tilde : Bool) → (slice_index graphics cell.char == 126) ≡ is_tilde → is_character cell
    ≡ true → is_tilde ≡ false
no_tilde cell false e own = refl
no_tilde cell true e own = absurd (no_character 126 no_place cell e own)

-- cells that are read are spelled so
pub record Spells (text : List ℕ) (cells : List Cell) : Type 0 where
  pub text_is : text ≡ cells_text cells
  pub own : list_all is_character cells ≡ true

plain_text : (cell : Cell) → cell.mark ≡ false → cell_text cell ≡ slice_index graphics cell.char ∷ []
plain_text cell h = rw h

marked_text : (cell : Cell) → cell.mark ≡ true → cell_text cell ≡ 126 ∷ slice_index graphics cell.char ∷ []
marked_text cell h = rw h

-- one cell in front of others
one_front : (front : List ℕ) (found : Option Cell) (text : List ℕ) (more : List (Option Cell)) (cells : List Cell)
    → ((cell : Cell) → found ≡ Some cell → (front ≡ cell_text cell) × (is_character cell ≡ true))
    → found ∷ more ≡ map Some cells
    → ((rest : List Cell) → more ≡ map Some rest → Spells text rest) → Spells (front ++ text) cells
unfolding cells_text
one_front front found text more [] is h others = absurd cc
one_front front found text more (cell ∷ cells) is h others =
    let one = is cell cc in
    let beyond = others cells cc in
    record {
      text_is =
          ap (λ (rest : List ℕ). front ++ rest) beyond.text_is
          ∙ ap (λ (first : List ℕ). first ++ flat_map cell_text cells) one.0;
      own = and_from _ _ one.1 beyond.own;
    }

plain_front : (byte : ℕ) (text : List ℕ) (more : List (Option Cell)) (cells : List Cell)
    → cell_of false byte ∷ more ≡ map Some cells
    → ((rest : List Cell) → more ≡ map Some rest → Spells text rest) → Spells (byte ∷ text) cells
plain_front byte text more cells =
    one_front (byte ∷ []) (cell_of false byte) text more cells
    (λ cell e. let one = cell_takes false byte cell e in
    (ap (λ n. n ∷ []) (sym one.graphic) ∙ sym (plain_text cell one.mark_is), one.own))

marked_front : (byte : ℕ) (text : List ℕ) (more : List (Option Cell)) (cells : List Cell)
    → cell_of true byte ∷ more ≡ map Some cells
    → ((rest : List Cell) → more ≡ map Some rest → Spells text rest) → Spells (126 ∷ byte ∷ text) cells
marked_front byte text more cells =
    one_front (126 ∷ byte ∷ []) (cell_of true byte) text more cells
    (λ cell e. let one = cell_takes true byte cell e in
    (ap (λ n. 126 ∷ n ∷ []) (sym one.graphic) ∙ sym (marked_text cell one.mark_is), one.own))

by_tilde : (is_tilde : Bool) (byte next : ℕ) (text : List ℕ) (short long : List (Option Cell)) (cells : List Cell)
    → (byte == 126) ≡ is_tilde
    → (if is_tilde then cell_of true next ∷ short else cell_of false byte ∷ long) ≡ map Some cells
    → ((rest : List Cell) → short ≡ map Some rest → Spells text rest)
    → ((rest : List Cell) → long ≡ map Some rest → Spells (next ∷ text) rest) → Spells (byte ∷ next ∷ text) cells
by_tilde true byte next text short long cells e h few more =
    let tilde : byte ≡ 126 = eqb-true byte 126 e in
    subst (λ n. Spells (n ∷ next ∷ text) cells) (sym tilde) (marked_front next text short cells h few)
by_tilde false byte next text short long cells e h few more = plain_front byte (next ∷ text) long cells h more

nothing : (rest : List Cell) → ◌≡◌ {A = List (Option Cell)} [] (map Some rest) → Spells [] rest
unfolding cells_text
nothing [] h = record { text_is = refl; own = refl }
nothing (cell ∷ rest) h = absurd cc

all_spelled : (text : List ℕ) (cells : List Cell) → spelled text ≡ map Some cells → Spells text cells
unfolding spelled
all_spelled [] cells h = nothing cells h
all_spelled (byte ∷ []) cells h = plain_front byte [] [] cells h nothing
all_spelled (byte ∷ next ∷ text) cells h =
    by_tilde (byte == 126) byte next text (spelled text) (spelled (next ∷ text)) cells refl h
    (λ rest e. all_spelled text rest e) (λ rest e. all_spelled (next ∷ text) rest e)

-- cells that are all there are those that come out
all_there : (found : List (Option Cell)) → list_all is_some found ≡ true
    → found ≡ map Some (filter_map (λ cell. cell) found)
all_there [] all = refl
all_there (None ∷ found) all = absurd (false≢true all)
all_there (Some cell ∷ found) all = ap (λ (more : List (Option Cell)). Some cell ∷ more) (all_there found all)

-- both tests are passed if cells are read
tests_passed : (all few : Bool) (found cells : List Cell)
    → (if all then (if few then Ok found else Err Length) else Err Graphic) ≡ Ok cells
    → ((all ≡ true) × (few ≡ true)) × (found ≡ cells)
tests_passed true true found cells h = ((refl, refl), cc)
tests_passed true false found cells h = absurd cc
tests_passed false few found cells h = absurd cc

found_in : (read : Result (List Cell) CellsFault) (cells : List Cell) → result_ok read ≡ Some cells → read ≡ Ok cells
found_in (Ok found) cells h = ap Ok (same_Some found cells h)
found_in (Err why) cells h = absurd cc

-- 1 to 40 cells that are read are spelled so
pub record SpellsFew (text : List ℕ) (cells : List Cell) : Type 0 where
  pub few : nat_le 1 (length cells) && nat_le (length cells) 40 ≡ true
  pub spells : Spells text cells

cells_takes : (text : List ℕ) (cells : List Cell) → cells_of (spelled text) ≡ Ok cells → SpellsFew text cells
unfolding cells_of
cells_takes text cells h =
    let found : List (Option Cell) = spelled text in
    let few = nat_le 1 (length found) && nat_le (length found) 40 in
    let passed = tests_passed (list_all is_some (take 40 found)) few (filter_map (λ cell. cell) found) cells h in
    let most : length found ≤ 40 = leb-true _ _ (and_parts (nat_le 1 (length found)) _ passed.0.1).1 in
    let whole : take 40 found ≡ found = take_all 40 found most in
    let there : list_all is_some found ≡ true = ap (list_all is_some) (sym whole) ∙ passed.0.0 in
    let found_is : found ≡ map Some cells = all_there found there ∙ ap (map Some) passed.1 in
    let count : length found ≡ length cells = ap length found_is ∙ length-map cells Some in
    record {
      few = subst (λ n. nat_le 1 n && nat_le n 40 ≡ true) count passed.0.1;
      spells = all_spelled text cells found_is;
    }

pub few_cells_takes : (text : List ℕ) (cells : List Cell) → few_cells_in text ≡ Some cells → SpellsFew text cells
few_cells_takes text cells h = cells_takes text cells (found_in (cells_of (spelled text)) cells h)

-- a cell in front of a text
plain_again : (byte : ℕ) (text : List ℕ) → (byte == 126) ≡ false → spelled (byte ∷ text)
    ≡ cell_of false byte ∷ spelled text
unfolding spelled
plain_again byte [] plain = refl
plain_again byte (next ∷ text) plain = rw plain

one_again : (mark : Bool) (cell : Cell) (text : List ℕ) → cell.mark ≡ mark → is_character cell ≡ true
    → spelled (cell_text cell ++ text) ≡ Some cell ∷ spelled text
unfolding spelled
one_again true cell text marked own =
    ap (λ (front : List ℕ). spelled (front ++ text)) (marked_text cell marked)
    ∙ ap (λ found. found ∷ spelled text) (subst (λ mark. cell_of mark (slice_index graphics cell.char)
    ≡ Some cell) marked (cell_again cell own))
one_again false cell text plain own =
    ap (λ (front : List ℕ). spelled (front ++ text)) (plain_text cell plain)
    ∙ plain_again (slice_index graphics cell.char) text (no_tilde cell (slice_index graphics cell.char == 126) refl own)
    ∙ ap (λ found. found ∷ spelled text) (subst (λ mark. cell_of mark (slice_index graphics cell.char)
    ≡ Some cell) plain (cell_again cell own))

-- cells that are written are read again
all_again : (cells : List Cell) → list_all is_character cells ≡ true → spelled (cells_text cells) ≡ map Some cells
unfolding cells_text spelled
all_again [] own = refl
all_again (cell ∷ cells) own =
    one_again cell.mark cell (flat_map cell_text cells) refl (and_parts _ _ own).0
    ∙ ap (λ (more : List (Option Cell)). Some cell ∷ more)
    (all_again cells (and_parts (is_character cell) _ own).1)

pub few_cells_again : (cells : List Cell) → nat_le 1 (length cells) && nat_le (length cells) 40 ≡ true
    → list_all is_character cells ≡ true → few_cells_in (cells_text cells) ≡ Some cells
few_cells_again cells few own =
    let some : 1 ≤ length cells = leb-true _ _ (and_parts _ (nat_le (length cells) 40) few).0 in
    let most : length cells ≤ 40 = leb-true _ _ (and_parts (nat_le 1 (length cells)) _ few).1 in
    ap result_ok (ap cells_of (all_again cells own) ∙ cells_of-some cells some most)

-- cells that are read again are characters, 1 to 40 of them
pub is_segment_again : (segment : Segment) → cells_of (spelled (cells_text segment.cells)) ≡ Ok segment.cells
    → is_segment segment ≡ true
is_segment_again segment h =
    let found = cells_takes (cells_text segment.cells) segment.cells h in and_from _ _ found.few found.spells.own
