-- Records read into core, place after place.
use Rattle.std.proofs.Common.{◌≡◌, ◌≢◌, ℕ, ◌+◌, ◌<◌, ◌≤◌, ◌&&◌, ◌||◌, Bool, true, false, List, [], ◌∷◌, Option, None, Some}
use Rattle.std.proofs.Common.{length, drop, get_or, refl, sym, ap, ◌∙◌, arith}
use Rattle.std.specs.Prelude.{if◌then◌else◌, is_some, nat_lt}
use Rattle.std.proofs.Common.{not, ◌==◌}
use Rattle.std.proofs.lemmas.Bool.{false≢true, lt-ltb}
use Rattle.std.proofs.lemmas.List.{get_or-set_other, length-set}
use Rattle.bcd_1401.specs.declared.cell.Cell.{Cell}
use Rattle.core_1401.specs.Storage.{Storage, blank, cell_at, is_in_core}
use Rattle.machine_tapes.specs.TapeText.{cells_from, cells_read, has_marks, is_separator, separator}
use Rattle.machine_tapes.specs.Transfer.{ends_record, read_into, read_to, with_read}
use Rattle.machine_tapes.specs.declared.work.TapeMode.{TapeMode}
use Rattle.machine_tapes.proofs.CellLemmas.{cell_next, cell_of, none_next, separator_next}

-- storages that are alike from a place up
record AreAlike (s t : Storage) (at : ℕ) : Type 0 where
  size : length s ≡ length t
  cells : (q : ℕ) → at ≤ q → cell_at s q ≡ cell_at t q

-- a cell that was read is no place above it
pub read_size : (how : TapeMode) (s : Storage) (at : ℕ) (cell : Cell) → length (with_read how s at cell) ≡ length s
read_size how s at cell = length-set s at (read_into how (cell_at s at) cell)

pub read_elsewhere : (how : TapeMode) (s : Storage) (at : ℕ) (cell : Cell) (q : ℕ) → q ≢ at
    → cell_at (with_read how s at cell) q ≡ cell_at s q
read_elsewhere how s at cell q other = get_or-set_other s at q (read_into how (cell_at s at) cell) blank other

alike_beyond : (how : TapeMode) (s t : Storage) (at : ℕ) (cell : Cell) → AreAlike s t at
    → AreAlike (with_read how s at cell) (with_read how t at cell) (at + 1)
alike_beyond how s t at cell alike = record {
  size = read_size how s at cell ∙ alike.size ∙ sym (read_size how t at cell);
  cells = λ q above.
      let other : q ≢ at = omega (arith, above) in
      read_elsewhere how s at cell q other
      ∙ alike.cells q (omega (arith, above))
      ∙ sym (read_elsewhere how t at cell q other);
}

alike_after : (how : TapeMode) (s : Storage) (at : ℕ) (cell : Cell) → AreAlike (with_read how s at cell) s (at + 1)
alike_after how s at cell = record {
  size = read_size how s at cell;
  cells = λ q above. read_elsewhere how s at cell q (omega (arith, above));
}

-- whether something comes of a choice
some_at : {A : Type 0} (b : Bool) (x : A) → is_some (if b then Some x else None) ≡ b
some_at true x = refl
some_at false x = refl

some_or : {A : Type 0} (b e : Bool) (x : A) (rest : Option A)
    → is_some (if b then (if e then Some x else rest) else None) ≡ (b && (e || is_some rest))
some_or true true x rest = refl
some_or true false x rest = refl
some_or false e x rest = refl

-- a record that can be read into one can be read into the other
reads_alike : (how : TapeMode) (cells : List Cell) (s t : Storage) (at : ℕ) → AreAlike s t at
    → is_some (read_to how s at cells) ≡ is_some (read_to how t at cells)
reads_alike how [] s t at alike =
    some_at (is_in_core s at) _ ∙ ap (nat_lt at) alike.size ∙ sym (some_at (is_in_core t at) _)
reads_alike how (cell ∷ cells) s t at alike =
    let more : Storage → Option (Storage × ℕ) = λ u. read_to how (with_read how u at cell) (at + 1) cells in
    let here : cell_at s at ≡ cell_at t at = alike.cells at (omega arith) in
    some_or (is_in_core s at) (ends_record (cell_at s at)) (s, at) (more s)
    ∙ ap (λ (n : ℕ). nat_lt at n && (ends_record (cell_at s at) || is_some (more s))) alike.size
    ∙ ap (λ (x : Cell). is_in_core t at && (ends_record x || is_some (more s))) here
    ∙ ap (λ (b : Bool). is_in_core t at && (ends_record (cell_at t at) || b))
    (reads_alike how cells (with_read how s at cell) (with_read how t at cell) (at + 1) (alike_beyond how s t at cell alike))
    ∙ sym (some_or (is_in_core t at) (ends_record (cell_at t at)) (t, at) (more t))

-- a record can be read only to places in core
in_core_by : {A : Type 0} (b : Bool) (x : Option A) → is_some (if b then x else None) ≡ true → b ≡ true
in_core_by true x some = refl
in_core_by false x some = absurd (false≢true some)

pub in_core_of : (how : TapeMode) (s : Storage) (at : ℕ) (cells : List Cell) → is_some (read_to how s at cells) ≡ true
    → is_in_core s at ≡ true
in_core_of how s at [] some = in_core_by (is_in_core s at) _ some
in_core_of how s at (cell ∷ cells) some = in_core_by (is_in_core s at) _ some

-- what is left of a record, read from a place on
abbrev pub left : TapeMode → Bool → Bool → Storage → ℕ → List ℕ → ℕ → Option (Storage × ℕ)
left how is_odd is_marked s at chars i = read_to how s at (cells_from how is_odd is_marked (drop i chars))

-- the next character is a word separator
pub left_separator : (how : TapeMode) (is_odd is_marked : Bool) (s : Storage) (at : ℕ) (chars : List ℕ) (i : ℕ)
    → i < length chars → is_separator how is_marked (get_or chars i 0) ≡ true
    → left how is_odd is_marked s at chars i ≡ left how is_odd true s at chars (i + 1)
left_separator how is_odd is_marked s at chars i lt is =
    ap (read_to how s at) (separator_next how is_odd is_marked chars i lt is)

-- or it is a cell's, by whether the place is in core and ends a record
left_cell : (how : TapeMode) (is_odd is_marked : Bool) (s : Storage) (at : ℕ) (chars : List ℕ) (i : ℕ) (b e : Bool)
    → i < length chars → is_separator how is_marked (get_or chars i 0) ≡ false → is_in_core s at ≡ b
    → ends_record (cell_at s at) ≡ e
    → left how is_odd is_marked s at chars i
    ≡ (if b then (if e then Some (s, at)
    else left how is_odd false (with_read how s at (cell_of is_odd is_marked (get_or chars i 0))) (at + 1) chars (i + 1))
    else None)
left_cell how is_odd is_marked s at chars i b e lt is inside ends =
    let rest : Option (Storage × ℕ) =
    left how is_odd false (with_read how s at (cell_of is_odd is_marked (get_or chars i 0))) (at + 1) chars (i + 1) in
    ap (read_to how s at) (cell_next how is_odd is_marked chars i lt is)
    ∙ ap (λ (x : Bool). if x then (if ends_record (cell_at s at) then Some (s, at) else rest) else None) inside
    ∙ ap (λ (x : Bool). if b then (if x then Some (s, at) else rest) else None) ends

pub left_outside : (how : TapeMode) (is_odd is_marked : Bool) (s : Storage) (at : ℕ) (chars : List ℕ) (i : ℕ)
    → i < length chars → is_separator how is_marked (get_or chars i 0) ≡ false → is_in_core s at ≡ false
    → left how is_odd is_marked s at chars i ≡ None
left_outside how is_odd is_marked s at chars i lt is outside =
    left_cell how is_odd is_marked s at chars i false (ends_record (cell_at s at)) lt is outside refl

pub left_ends : (how : TapeMode) (is_odd is_marked : Bool) (s : Storage) (at : ℕ) (chars : List ℕ) (i : ℕ)
    → i < length chars → is_separator how is_marked (get_or chars i 0) ≡ false → is_in_core s at ≡ true
    → ends_record (cell_at s at) ≡ true → left how is_odd is_marked s at chars i ≡ Some (s, at)
left_ends how is_odd is_marked s at chars i lt is inside ends =
    left_cell how is_odd is_marked s at chars i true true lt is inside ends

pub left_goes_on : (how : TapeMode) (is_odd is_marked : Bool) (s : Storage) (at : ℕ) (chars : List ℕ) (i : ℕ)
    → i < length chars → is_separator how is_marked (get_or chars i 0) ≡ false → is_in_core s at ≡ true
    → ends_record (cell_at s at) ≡ false → left how is_odd is_marked s at chars i
    ≡ left how is_odd false (with_read how s at (cell_of is_odd is_marked (get_or chars i 0))) (at + 1) chars (i + 1)
left_goes_on how is_odd is_marked s at chars i lt is inside ends =
    left_cell how is_odd is_marked s at chars i true false lt is inside ends

-- whether the rest can be read doesn't depend on what was read
pub still_reads : (how : TapeMode) (is_odd is_marked : Bool) (s : Storage) (at : ℕ) (chars : List ℕ) (i : ℕ)
    → i < length chars → is_separator how is_marked (get_or chars i 0) ≡ false → is_in_core s at ≡ true
    → ends_record (cell_at s at) ≡ false → is_some (left how is_odd is_marked s at chars i)
    ≡ is_some (left how is_odd false s (at + 1) chars (i + 1))
still_reads how is_odd is_marked s at chars i lt is inside ends =
    let cell : Cell = cell_of is_odd is_marked (get_or chars i 0) in
    ap is_some (left_goes_on how is_odd is_marked s at chars i lt is inside ends)
    ∙ reads_alike how (cells_from how is_odd false (drop (i + 1) chars)) (with_read how s at cell) s (at + 1)
    (alike_after how s at cell)

-- or there is none
pub left_none : (how : TapeMode) (is_odd is_marked : Bool) (s : Storage) (at : ℕ) (chars : List ℕ) (i : ℕ)
    → length chars ≤ i → left how is_odd is_marked s at chars i ≡ read_to how s at []
left_none how is_odd is_marked s at chars i le =
    ap (read_to how s at) (none_next how is_odd is_marked chars i le)

pub none_reads : (how : TapeMode) (is_odd is_marked : Bool) (s : Storage) (at : ℕ) (chars : List ℕ) (i : ℕ)
    → length chars ≤ i → is_some (left how is_odd is_marked s at chars i) ≡ is_in_core s at
none_reads how is_odd is_marked s at chars i le =
    ap is_some (left_none how is_odd is_marked s at chars i le) ∙ some_at (is_in_core s at) _

-- a move reads no word separator
no_separator : (how : TapeMode) (is_marked : Bool) (char : ℕ) → has_marks how ≡ false
    → is_separator how is_marked char ≡ false
no_separator how is_marked char unmarked = ap (λ (b : Bool). b && not is_marked && (char == separator)) unmarked

pub moved_ends : (how : TapeMode) (is_odd : Bool) (s : Storage) (at : ℕ) (chars : List ℕ) (i : ℕ) → i < length chars
    → has_marks how ≡ false → is_in_core s at ≡ true → ends_record (cell_at s at) ≡ true
    → left how is_odd false s at chars i ≡ Some (s, at)
moved_ends how is_odd s at chars i lt unmarked inside ends =
    left_ends how is_odd false s at chars i lt (no_separator how false (get_or chars i 0) unmarked) inside ends

pub moved_goes_on : (how : TapeMode) (is_odd : Bool) (s : Storage) (at : ℕ) (chars : List ℕ) (i : ℕ) → i < length chars
    → has_marks how ≡ false → is_in_core s at ≡ true → ends_record (cell_at s at) ≡ false
    → left how is_odd false s at chars i
    ≡ left how is_odd false (with_read how s at (cell_of is_odd false (get_or chars i 0))) (at + 1) chars (i + 1)
moved_goes_on how is_odd s at chars i lt unmarked inside ends =
    left_goes_on how is_odd false s at chars i lt (no_separator how false (get_or chars i 0) unmarked) inside ends

-- a record has no more cells than characters
few_by : (b : Bool) (cell : Cell) (p q : List Cell) (n : ℕ) → length p ≤ n → length q ≤ n
    → length (if b then p else cell ∷ q) ≤ n + 1
few_by true cell p q n h k = omega (arith, h)
few_by false cell p q n h k = omega (arith, k)

few_cells : (how : TapeMode) (is_odd is_marked : Bool) (chars : List ℕ)
    → length (cells_from how is_odd is_marked chars) ≤ length chars
few_cells how is_odd is_marked [] = omega arith
few_cells how is_odd is_marked (char ∷ chars) =
    let few =
    few_by (is_separator how is_marked char) (cell_of is_odd is_marked char) (cells_from how is_odd true chars)
    (cells_from how is_odd false chars) (length chars) (few_cells how is_odd true chars)
    (few_cells how is_odd false chars) in
    omega (arith, few)

some_or_true : {A : Type 0} (b e : Bool) (x : A) (rest : Option A) → b ≡ true → is_some rest ≡ true
    → is_some (if b then (if e then Some x else rest) else None) ≡ true
some_or_true true true x rest b r = refl
some_or_true true false x rest b r = r
some_or_true false e x rest b r = absurd (false≢true b)

-- it can be read where there is a place for each cell, and one more
enough_cells : (how : TapeMode) (cells : List Cell) (s : Storage) (at : ℕ) → at + length cells < length s
    → is_some (read_to how s at cells) ≡ true
enough_cells how [] s at lt =
    some_at (is_in_core s at) _ ∙ lt-ltb at (length s) (omega (arith, lt))
enough_cells how (cell ∷ cells) s at lt =
    let after : Storage = with_read how s at cell in
    let size : length after ≡ length s = read_size how s at cell in
    some_or_true (is_in_core s at) (ends_record (cell_at s at)) (s, at) (read_to how after (at + 1) cells)
    (lt-ltb at (length s) (omega (arith, lt))) (enough_cells how cells after (at + 1) (omega (arith, lt, size)))

pub enough_places : (how : TapeMode) (is_odd : Bool) (s : Storage) (at : ℕ) (chars : List ℕ)
    → at + length chars < length s → is_some (read_to how s at (cells_read how is_odd chars)) ≡ true
enough_places how is_odd s at chars lt =
    enough_cells how (cells_read how is_odd chars) s at (omega (arith, few_cells how is_odd false chars, lt))
