-- If nothing of any line is outside core storage, the image lies in it.
use Rattle.std.proofs.Common.{◌≡◌, ℕ, zero, suc, ◌+◌, ◌-◌, ◌*◌, ◌<◌, ◌≤◌, ◌⊎◌, Bool, true, false, ◌&&◌, ◌||◌, cond, not}
use Rattle.std.proofs.Common.{List, [], ◌∷◌, ◌++◌, length, map, take, replicate, ℤ, pos, negsuc, ◌+ℤ◌, Option, None}
use Rattle.std.proofs.Common.{Some, refl, sym, ap, ◌∙◌, inl, inr, arith}
use Rattle.std.specs.Prelude.{fold, nat_lt, nat_le, ◌==◌, if◌then◌else◌}
use Rattle.std.specs.Option.{option_map_or}
use Rattle.std.specs.List.{list_all, flat_map}
use Rattle.std.proofs.lemmas.Bool.{true≢false, not-false, both_ways, and_parts, and_cases, leb-true, ltb-true, le-leb}
use Rattle.std.proofs.lemmas.Bool.{lt-ltb, eqb-true, and_from}
use Rattle.std.proofs.Math.IntN.{+ℤ_assoc, +ℤ_idr}
use Rattle.std.proofs.Math.Nat.{suc-mul}
use Rattle.std.proofs.lemmas.Bool.Decides.{nat_tests}
use Rattle.std.proofs.lemmas.List.{length-map, length-append, length-set, length-take, length-replicate}
use Rattle.std.proofs.lemmas.List.Folds.{list_all-append}
use Rattle.bcd_1401.specs.declared.cell.Cell.{Cell}
use Rattle.core_1401.specs.Storage.{is_core_size, blank}
use Rattle.machine_image.specs.Image.{is_inside, IsInCore}
use Rattle.autocoder_statements.specs.Description.{describe}
use Rattle.autocoder_statements.specs.Operands.{count_of}
use Rattle.autocoder_statements.specs.declared.address.Address.{Address}
use Rattle.autocoder_statements.specs.declared.constant.Constant.{Constant}
use Rattle.autocoder_statements.specs.declared.constant.Constant.TheVariants as constants
use Rattle.autocoder_statements.specs.declared.mnemonic.Instruction.{Instruction}
use Rattle.autocoder_statements.specs.declared.operands.Operand.TheVariants as operands
use Rattle.autocoder_statements.specs.declared.operands.OperandField.{OperandField}
use Rattle.autocoder_statements.specs.declared.operands.OperandField.TheVariants as fields
use Rattle.autocoder_statements.specs.declared.operands.Operands.{Operands}
use Rattle.autocoder_statements.specs.declared.operands.Unit.{Unit as AUnit}
use Rattle.autocoder_statements.specs.declared.statement.AddressConstant.{AddressConstant}
use Rattle.autocoder_statements.specs.declared.statement.Areas.{Areas}
use Rattle.autocoder_statements.specs.declared.statement.Chain.{Chain}
use Rattle.autocoder_statements.specs.declared.statement.Span.{Span}
use Rattle.autocoder_statements.specs.declared.description.Addressing.{Addressing}
use Rattle.autocoder_statements.specs.declared.description.Addressing.TheVariants as addressing
use Rattle.autocoder_statements.specs.declared.description.Contents.{Contents}
use Rattle.autocoder_statements.specs.declared.description.Contents.TheVariants as contents
use Rattle.autocoder_statements.specs.declared.description.Description.{Description}
use Rattle.autocoder_statements.specs.declared.description.Next.{Next}
use Rattle.autocoder_statements.specs.declared.description.Next.TheVariants as next
use Rattle.autocoder_statements.specs.declared.statement.Body.{Body}
use Rattle.autocoder_statements.specs.declared.statement.Statement.{Statement}
use Rattle.autocoder_statements.specs.declared.statement.Line.{Line}
use Rattle.autocoder_symbols.specs.declared.fault.AsmKind.TheVariants as kinds
use Rattle.autocoder_placing.specs.PlacedImage.{entry_in_row, entry_by, entry_with, entry_in, image_of}
use Rattle.autocoder_placing.specs.Cells.{address_or_zero, plain, marked, with_word_mark, operand_codes, d_codes}
use Rattle.autocoder_placing.specs.Cells.{constant_codes, constant_cells, literal_codes, literal_cells, with_mark_at}
use Rattle.autocoder_placing.specs.Cells.{with_field, area_cells, chain_cells, instruction_cells, signed_codes}
use Rattle.autocoder_placing.specs.Cells.{field_cells}
use Rattle.autocoder_placing.specs.Cells.{address_constant_cells, group_mark, record_mark, repeated, areas_cells}
use Rattle.autocoder_placing.specs.Cells.{contents_cells}
use Rattle.autocoder_placing.specs.Cells.{unit_or_address_codes}
use Rattle.autocoder_placing.specs.Cells.{row_cells, body_cells, statement_cells, numbered, cells_from, fields_beyond}
use Rattle.autocoder_placing.specs.Characters.{char_of, char_with, characters_of, codes_in}
use Rattle.autocoder_placing.specs.Literals.{key_length}
use Rattle.autocoder_placing.specs.Placement.{Placement, unplaced, instruction_length, constant_length, area_stride}
use Rattle.autocoder_placing.specs.Placement.{address_unit, areas_length, symbols_of}
use Rattle.autocoder_placing.specs.Placement.{chain_length, contents_length, entry_value, pending, beyond_literals}
use Rattle.autocoder_placing.specs.Placement.{own_value, start_by, start_of, placed_after, placed}
use Rattle.autocoder_placing.specs.PlacementLaws.{total}
use Rattle.autocoder_placing.specs.Segments.{start_or_zero, closed, goes_on, cut}
use Rattle.autocoder_placing.specs.Values.{is_in_core, are_in_core, places_outside, literals_outside, next_outside}
use Rattle.autocoder_placing.specs.Values.{addresses_outside, body_outside, line_outside, first_outside_from}
use Rattle.autocoder_placing.specs.Values.{first_outside}
use Rattle.autocoder_placing.specs.Values.{last_place}
use Rattle.autocoder_placing.specs.declared.characters.Characters.{Characters}
use Rattle.autocoder_placing.specs.declared.literals.LiteralKey.{LiteralKey}
use Rattle.autocoder_placing.specs.declared.literals.LiteralKey.TheVariants as keys

-- the sizes of core storage are addresses, or the one after the last
pub size_bound : (size : ℕ) → is_core_size size ≡ true → (0 < size) × (size ≤ 16000)
size_bound size h = (grind (arith, nat_tests), grind (arith, nat_tests))

-- places that are in core begin at an address, and end in core
place_inside : (size : ℕ) (next : ℤ) (n : ℕ) → size ≤ 16000 → 0 < n → are_in_core size next (next +ℤ pos n) ≡ true
    → address_or_zero next + n ≤ size
place_inside size (pos k) n small some inside = grind (arith, nat_tests)
place_inside size (negsuc k) n small some inside = absurd (true≢false (sym inside))

-- a value in core is the address of a place in core
value_inside : (size : ℕ) (value : ℤ) → size ≤ 16000 → is_in_core size value ≡ true → address_or_zero value < size
value_inside size (pos k) small inside = grind (arith, nat_tests)
value_inside size (negsuc k) small inside = absurd (true≢false (sym inside))

-- cells with their addresses, each of which is below the size
abbrev pub are_below : ℕ → List (ℕ × Cell) → Bool
are_below size cells = list_all (λ (cell : ℕ × Cell). nat_lt cell.0 size) cells

numbered_below : (size at : ℕ) (cells : List Cell) → (0 < length cells → at + length cells ≤ size)
    → are_below size (numbered at cells) ≡ true
numbered_below size at [] inside = refl
numbered_below size at (cell ∷ cells) inside =
    let whole = inside (omega arith) in
    let here : nat_lt at size ≡ true = lt-ltb at size (omega (arith, whole)) in
    rw here (numbered_below size (at + 1) cells (λ some. omega (arith, whole)))

-- as many cells as there are places, or fewer, from a place on
placed_below : (size : ℕ) (next : ℤ) (n : ℕ) (cells : List Cell) → size ≤ 16000 → places_outside size next n ≡ false
    → length cells ≤ n → are_below size (numbered (address_or_zero next) cells) ≡ true
placed_below size next n cells small inside few =
    numbered_below size (address_or_zero next) cells
    (λ some. by some (and_cases (nat_lt 0 n) (not (are_in_core size next (next +ℤ pos n))) inside))
  where
    by : 0 < length cells → (nat_lt 0 n ≡ false) ⊎ (not (are_in_core size next (next +ℤ pos n)) ≡ false)
        → address_or_zero next + length cells ≤ size
    by some (inl none) = absurd (both_ways (nat_lt 0 n) none (lt-ltb 0 n (omega (arith, some, few))))
    by some (inr core) =
        let whole = place_inside size next n small (omega (arith, some, few))
        (not-false (are_in_core size next (next +ℤ pos n)) core) in
        omega (arith, whole, few)

address_few : (all : Placement) (here : ℤ) (unit : Option AUnit) (address : Address)
    → length (unit_or_address_codes all here unit address) ≤ 3 * 1
address_few all here None address = omega arith
address_few all here (Some unit) address = omega arith

-- how many cells an operand has
operand_length : (all : Placement) (here : ℤ) (field : OperandField)
    → length (operand_codes all here field) ≤ 3 * count_of field
operand_length all here fields.Absent = omega arith
operand_length all here fields.Malformed = omega arith
operand_length all here (fields.Operand (operands.Address address)) =
    address_few all here (address_unit (symbols_of all) address) address
operand_length all here (fields.Operand (operands.Literal literal)) = omega arith
operand_length all here (fields.Operand (operands.Unit unit)) = omega arith

d_length : (d : Option ℕ) → length (d_codes d) ≡ option_map_or (λ (graphic : ℕ). 1) d 0
d_length None = refl
d_length (Some graphic) = refl

instruction_few : (all : Placement) (here : ℤ) (instruction : Instruction) (of : Operands)
    → length (instruction_cells all here instruction of) ≤ instruction_length of
instruction_few all here instruction of =
    let a = map plain (operand_codes all here of.a) in
    let b = map plain (operand_codes all here of.b) in
    let d = map plain (d_codes of.d) in
    omega (
      arith,
      length-append (a ++ b) d,
      length-append a b,
      length-map (operand_codes all here of.a) plain,
      length-map (operand_codes all here of.b) plain,
      length-map (d_codes of.d) plain,
      operand_length all here of.a,
      operand_length all here of.b,
      d_length of.d,
    )

marked_length : (codes : List ℕ) → length (with_word_mark codes) ≡ length codes
marked_length [] = refl
marked_length (first ∷ more) = ap suc (length-map more plain)

codes_few : (characters : Characters) → length (codes_in characters) ≤ characters.len
codes_few characters =
    let held = take characters.len characters.codes in
    omega (arith, length-map held char_with, length-take characters.len characters.codes)

constant_few : (mark : Bool) (constant : Option Constant)
    → length (constant_cells mark constant) ≤ constant_length constant
constant_few true None = omega arith
constant_few false None = omega arith
constant_few true (Some constant) =
    omega (arith, marked_length (constant_codes (Some constant)), codes_few (characters_of constant))
constant_few false (Some constant) =
    omega (arith, length-map (constant_codes (Some constant)) plain, codes_few (characters_of constant))

field_length : (is_marked : Bool) (characters : List ℕ) → length (field_cells is_marked characters) ≡ length characters
field_length true characters = marked_length characters
field_length false characters = length-map characters plain

signed_length : (all : Placement) (here : ℤ) (is_negative : Bool) (field : OperandField)
    → length (signed_codes all here is_negative field) ≤ 3
signed_length all here is_negative fields.Absent = omega arith
signed_length all here is_negative fields.Malformed = omega arith
signed_length all here is_negative (fields.Operand (operands.Address address)) = omega arith
signed_length all here is_negative (fields.Operand (operands.Literal literal)) = omega arith
signed_length all here is_negative (fields.Operand (operands.Unit unit)) = omega arith

address_constant_few : (all : Placement) (here : ℤ) (constant : AddressConstant)
    → length (address_constant_cells all here constant) ≤ 3
address_constant_few all here constant =
    omega (
      arith,
      field_length constant.is_marked (signed_codes all here constant.is_negative constant.operands.a),
      signed_length all here constant.is_negative constant.operands.a,
    )

fields_length : (area : List Cell) (spans : List Span) → length (fold with_field area spans) ≡ length area
fields_length area [] = refl
fields_length area (span ∷ spans) = fields_length (with_field area span) spans ∙ by span.is_marked
  where
    by : (is_marked : Bool)
        → length (if is_marked then with_mark_at area (span.first - 1) else area) ≡ length area
    by true = length-set area (span.first - 1) (record { char = 0; mark = true })
    by false = refl

area_length : (length_is : ℕ) (spans : List Span) → length (area_cells length_is spans) ≡ length_is
area_length length_is spans =
    fields_length (with_mark_at (replicate length_is blank) 0) spans
    ∙ length-set (replicate length_is blank) 0 (record { char = 0; mark = true }) ∙ length-replicate length_is blank

repeated_length : (n : ℕ) (area : List Cell) → length (repeated n area) ≡ n * length area
repeated_length zero area = omega arith
repeated_length (suc n) area =
    length-append area (repeated n area) ∙ ap (λ (beyond : ℕ). length area + beyond) (repeated_length n area)
    ∙ omega (arith, suc-mul n (length area))

group_mark_length : (is_asked : Bool) → length (group_mark is_asked) ≡ (if is_asked then 1 else 0)
group_mark_length true = refl
group_mark_length false = refl

record_mark_length : (is_asked : Bool) → length (record_mark is_asked) ≡ (if is_asked then 1 else 0)
record_mark_length true = refl
record_mark_length false = refl

areas_few : (areas : Option Areas) (lines : List Line) → length (areas_cells areas lines) ≤ areas_length areas
areas_few None lines = omega arith
areas_few (Some areas) lines =
    let area = area_cells areas.length (fields_beyond lines) ++ record_mark areas.has_record_marks in
    let one : length area ≡ area_stride areas =
    length-append (area_cells areas.length (fields_beyond lines)) (record_mark areas.has_record_marks)
    ∙ ap (λ (n : ℕ). n + length (record_mark areas.has_record_marks)) (area_length areas.length (fields_beyond lines))
    ∙ ap (λ (n : ℕ). areas.length + n) (record_mark_length areas.has_record_marks) in
    let marked = repeated areas.count area in
    let all : length marked ≡ areas.count * area_stride areas =
    repeated_length areas.count area ∙ ap (λ (n : ℕ). areas.count * n) one in
    omega (arith, all, length-append marked (group_mark areas.has_group_mark), group_mark_length areas.has_group_mark)

chain_few : (chain : Chain) → length (chain_cells chain) ≤ chain_length chain
chain_few chain = by chain.operation refl
  where
    by : (operation : Option ℕ) → chain.operation ≡ operation → length (chain_cells chain) ≤ chain_length chain
    by None e = rw e (omega arith)
    by (Some operation) e =
        let all : length (repeated (chain_length chain) (marked (char_of operation) ∷ [])) ≡ chain_length chain * 1 =
        repeated_length (chain_length chain) (marked (char_of operation) ∷ []) in
        rw e (omega (arith, all))

-- what literals take, one after the other
pub beyond_total : (from : ℤ) (literals : List LiteralKey) → beyond_literals from literals
    ≡ from +ℤ pos (total literals)
beyond_total from [] = sym (+ℤ_idr from)
beyond_total from (literal ∷ literals) =
    beyond_total (from +ℤ pos (key_length literal)) literals
    ∙ +ℤ_assoc from (pos (key_length literal)) (pos (total literals))

literal_few : (all : Placement) (literal : LiteralKey) → length (literal_codes all literal) ≤ key_length literal
literal_few all (keys.Characters characters) = codes_few characters
literal_few all (keys.Address literal) = omega arith
literal_few all (keys.Area literal) = codes_few (characters_of (constants.Blanks literal.places))

literals_few : (all : Placement) (literals : List LiteralKey)
    → length (flat_map (literal_cells all) literals) ≤ total literals
literals_few all [] = omega arith
literals_few all (literal ∷ literals) =
    omega (
      arith,
      length-append (literal_cells all literal) (flat_map (literal_cells all) literals),
      marked_length (literal_codes all literal),
      literal_few all literal,
      literals_few all literals,
    )

-- literals that are in core, one after the other
literals_below : (size : ℕ) (all : Placement) (from : ℤ) (literals : List LiteralKey) → size ≤ 16000
    → literals_outside size from literals ≡ false
    → are_below size (numbered (address_or_zero from) (flat_map (literal_cells all) literals)) ≡ true
literals_below size all from [] small inside = refl
literals_below size all from (literal ∷ literals) small inside =
    let used = literal ∷ literals in
    let core : are_in_core size from (beyond_literals from used) ≡ true =
    not-false (are_in_core size from (beyond_literals from used)) (some_core used (omega arith) inside) in
    let n = total used in
    let fits : are_in_core size from (from +ℤ pos n) ≡ true =
    ap (are_in_core size from) (sym (beyond_total from used)) ∙ core in
    numbered_below size (address_or_zero from) (flat_map (literal_cells all) used)
    (λ some.
    let few = literals_few all used in
    let whole = place_inside size from n small (omega (arith, some, few)) fits in
    omega (arith, whole, few))
  where
    some_core : (used : List LiteralKey) → 0 < length used → literals_outside size from used ≡ false
        → not (are_in_core size from (beyond_literals from used)) ≡ false
    some_core used some h =
        elim (and_cases (nat_lt 0 (length used)) (not (are_in_core size from (beyond_literals from used))) h) [
          | inl none ↦ absurd (both_ways (nat_lt 0 (length used)) none (lt-ltb 0 (length used) some))
          | inr core ↦ core
        ]

-- none of two is so if one of them isn't
pub neither : (x y : Bool) → (x || y) ≡ false → (x ≡ false) × (y ≡ false)
neither true y h = absurd (true≢false h)
neither false y h = (refl, h)

contents_below : (size : ℕ) (all this : Placement) (at : ℤ) (made : Contents) (lines : List Line) → size ≤ 16000
    → places_outside size at (contents_length made) ≡ false
    → are_below size (numbered (address_or_zero at) (contents_cells all this made lines)) ≡ true
contents_below size all this at contents.Nothing lines small inside = refl
contents_below size all this at (contents.Instruction instruction of) lines small inside =
    let last = last_place this.next (instruction_length of) in
    placed_below size at (instruction_length of) (instruction_cells all last instruction of) small inside
    (instruction_few all last instruction of)
contents_below size all this at (contents.MarkedConstant constant) lines small inside =
    placed_below size at (constant_length constant) (constant_cells true constant) small inside
    (constant_few true constant)
contents_below size all this at (contents.Constant constant) lines small inside =
    placed_below size at (constant_length constant) (constant_cells false constant) small inside
    (constant_few false constant)
contents_below size all this at (contents.Space places) lines small inside = refl
contents_below size all this at (contents.Areas made) lines small inside =
    placed_below size at (areas_length made) (areas_cells made lines) small inside (areas_few made lines)
contents_below size all this at (contents.Chain chain) lines small inside =
    placed_below size at (chain_length chain) (chain_cells chain) small inside (chain_few chain)
contents_below size all this at (contents.AddressConstant constant) lines small inside =
    let last = last_place this.next 3 in
    placed_below size at 3 (address_constant_cells all last constant) small inside
    (address_constant_few all last constant)

row_below : (size : ℕ) (all this : Placement) (row : Description) (step : Next) (lines : List Line) → size ≤ 16000
    → places_outside size (start_by this row step) (contents_length row.contents) ≡ false
    → next_outside size this row step ≡ false
    → are_below size (numbered (address_or_zero (start_by this row step)) (row_cells all this row step lines)) ≡ true
row_below size all this row next.Beyond lines small places literals =
    contents_below size all this this.next row.contents lines small places
row_below size all this row next.Literals lines small places literals =
    literals_below size all this.next (pending this) small literals
row_below size all this row next.Value lines small places literals = refl
row_below size all this row next.LiteralsAtValue lines small places literals =
    literals_below size all (own_value this row.addressing) (pending this) small literals
row_below size all this row next.Elsewhere lines small places literals =
    contents_below size all this (own_value this row.addressing) row.contents lines small places

body_below : (size : ℕ) (all this : Placement) (body : Body) (lines : List Line) → size ≤ 16000
    → body_outside size all this body ≡ false
    → are_below size
    (numbered (address_or_zero (start_by this (describe body) (describe body).next)) (body_cells all this body lines))
    ≡ true
body_below size all this body lines small inside =
    let row = describe body in
    let places = places_outside size (start_by this row row.next) (contents_length row.contents) in
    let literals = next_outside size this row row.next in
    let parts = neither places literals
    (neither (places || literals) (addresses_outside size all this row row.addressing) inside).0 in
    row_below size all this row row.next lines small parts.0 parts.1

line_below : (size : ℕ) (all this : Placement) (line : Line) (lines : List Line) → size ≤ 16000
    → line_outside size all this line ≡ false
    → are_below size
    (numbered (address_or_zero (start_of this line.statement)) (statement_cells all this line.statement lines))
    ≡ true
line_below size all this line lines small inside = by line.statement inside
  where
    by : (statement : Option Statement)
        → option_map_or (λ (found : Statement). body_outside size all this found.body) statement false ≡ false
        → are_below size
        (numbered (address_or_zero (start_of this statement)) (statement_cells all this statement lines))
        ≡ true
    by None h = refl
    by (Some statement) h = body_below size all this statement.body lines small h

-- if nothing is outside, nothing of the first line is, and nothing of those after it
pub one_line : (size : ℕ) (all : Placement) (number : ℕ) (this : Placement) (line : Line) (lines : List Line)
    → first_outside_from size all number this (line ∷ lines) ≡ None
    → (line_outside size all this line ≡ false)
    × (first_outside_from size all (number + 1) (placed_after this line) lines ≡ None)
one_line size all number this line lines none = by (line_outside size all this line) refl none
  where
    by : (b : Bool) → line_outside size all this line ≡ b
        → cond b (Some (record { line = number; kind = kinds.OutOfCore }))
        (first_outside_from size all (number + 1) (placed_after this line) lines) ≡ None
        → (line_outside size all this line ≡ false)
        × (first_outside_from size all (number + 1) (placed_after this line) lines ≡ None)
    by true is h = cc
    by false is h = (is, h)

pub cells_below : (size : ℕ) (all : Placement) (number : ℕ) (this : Placement) (lines : List Line) → size ≤ 16000
    → first_outside_from size all number this lines ≡ None → are_below size (cells_from all this lines) ≡ true
cells_below size all number this [] small none = refl
cells_below size all number this (line ∷ lines) small none =
    let parts = one_line size all number this line lines none in
    let first =
    numbered (address_or_zero (start_of this line.statement)) (statement_cells all this line.statement lines) in
    let more = cells_from all (placed_after this line) lines in
    list_all-append (λ (cell : ℕ × Cell). nat_lt cell.0 size) first more
    ∙ and_from (are_below size first) (are_below size more) (line_below size all this line lines small parts.0)
    (cells_below size all (number + 1) (placed_after this line) lines small parts.1)

-- a segment of cells that end in core
closed_inside : (size at : ℕ) (cells : List Cell) → size ≤ 16000 → (0 < length cells → at + length cells ≤ size)
    → list_all (is_inside size) (closed at cells) ≡ true
closed_inside size at cells small inside = by (nat_le 1 (length cells) && nat_le (length cells) 40) refl
  where
    by : (b : Bool) → (nat_le 1 (length cells) && nat_le (length cells) 40) ≡ b
        → list_all (is_inside size) (if b then record { address = start_or_zero at; cells = cells } ∷ [] else []) ≡ true
    by false is = refl
    by true is =
        let some = leb-true 1 (length cells) (and_parts (nat_le 1 (length cells)) (nat_le (length cells) 40) is).0 in
        let whole = inside (omega (arith, some)) in
        let same : start_or_zero at ≡ at = grind (arith, nat_tests) in
        rw same (rw (le-leb (at + length cells) size whole) refl)

cut_inside : (size at : ℕ) (cells : List Cell) (rest : List (ℕ × Cell)) → size ≤ 16000
    → (0 < length cells → at + length cells ≤ size) → are_below size rest ≡ true
    → list_all (is_inside size) (cut at cells rest) ≡ true
cut_inside size at cells [] small inside below = closed_inside size at cells small inside
cut_inside size at cells (next ∷ more) small inside below =
    let parts = and_parts (nat_lt next.0 size) (are_below size more) below in
    by (goes_on at cells next.0) refl (ltb-true next.0 size parts.0) parts.1
    (cut_inside size at (cells ++ next.1 ∷ []) more small) (cut_inside size next.0 (next.1 ∷ []) more small)
  where
    by : (b : Bool) → goes_on at cells next.0 ≡ b → next.0 < size → are_below size more ≡ true
        → ((0 < length (cells ++ next.1 ∷ []) → at + length (cells ++ next.1 ∷ []) ≤ size) → are_below size more ≡ true
        → list_all (is_inside size) (cut at (cells ++ next.1 ∷ []) more) ≡ true)
        → ((0 < 1 → next.0 + 1 ≤ size) → are_below size more ≡ true
        → list_all (is_inside size) (cut next.0 (next.1 ∷ []) more) ≡ true)
        → list_all (is_inside size)
        (if b then cut at (cells ++ next.1 ∷ []) more else closed at cells ++ cut next.0 (next.1 ∷ []) more) ≡ true
    by true is low rest longer anew =
        let same = eqb-true next.0 (at + length cells)
        (and_parts (next.0 == at + length cells) (nat_lt (length cells) 40) is).0 in
        longer (λ some. omega (arith, length-append cells (next.1 ∷ []), same, low)) rest
    by false is low rest longer anew =
        list_all-append (is_inside size) (closed at cells) (cut next.0 (next.1 ∷ []) more)
        ∙ and_from (list_all (is_inside size) (closed at cells))
        (list_all (is_inside size) (cut next.0 (next.1 ∷ []) more))
        (closed_inside size at cells small inside) (anew (λ some. omega (arith, low)) rest)

row_entry : (size : ℕ) (all this : Placement) (row : Description) (asked : Addressing) (beyond : ℤ)
    → (0 < size) × (size ≤ 16000) → addresses_outside size all this row asked ≡ false → address_or_zero beyond < size
    → address_or_zero (entry_in_row all asked beyond) < size
row_entry size all this row addressing.Nothing beyond bounds h low = low
row_entry size all this row (addressing.Addresses of) beyond bounds h low = low
row_entry size all this row (addressing.EarlierValue of) beyond bounds h low = low
row_entry size all this row (addressing.Equal of) beyond bounds h low = low
row_entry size all this row (addressing.Value of) beyond bounds h low = low
row_entry size all this row (addressing.Entry of) beyond bounds h low =
    let value = entry_value all of.a in
    value_inside size value bounds.1 (not-false (is_in_core size value) h)

body_entry : (size : ℕ) (all this : Placement) (body : Body) (beyond : ℤ) → (0 < size) × (size ≤ 16000)
    → body_outside size all this body ≡ false → address_or_zero beyond < size → address_or_zero (entry_by all body beyond) < size
body_entry size all this body beyond bounds h low =
    let row = describe body in
    let places = places_outside size (start_by this row row.next) (contents_length row.contents) in
    let addresses = addresses_outside size all this row row.addressing in
    row_entry size all this row row.addressing beyond bounds
    (neither (places || next_outside size this row row.next) addresses h).1 low

line_entry : (size : ℕ) (all this : Placement) (line : Line) (beyond : ℤ) → (0 < size) × (size ≤ 16000)
    → line_outside size all this line ≡ false → address_or_zero beyond < size
    → address_or_zero (entry_with all line.statement beyond) < size
line_entry size all this line beyond bounds inside low = by line.statement inside
  where
    by : (statement : Option Statement)
        → option_map_or (λ (found : Statement). body_outside size all this found.body) statement false ≡ false
        → address_or_zero (entry_with all statement beyond) < size
    by None h = low
    by (Some statement) h = body_entry size all this statement.body beyond bounds h low

entry_below : (size : ℕ) (all : Placement) (number : ℕ) (this : Placement) (lines : List Line)
    → (0 < size) × (size ≤ 16000)
    → first_outside_from size all number this lines ≡ None → address_or_zero (entry_in all lines) < size
entry_below size all number this [] bounds none = omega (arith, bounds.0)
entry_below size all number this (line ∷ lines) bounds none =
    let parts = one_line size all number this line lines none in
    line_entry size all this line (entry_in all lines) bounds parts.0
    (entry_below size all (number + 1) (placed_after this line) lines bounds parts.1)

-- the image of lines of which nothing is outside
pub image_inside : (size : ℕ) (lines : List Line) → is_core_size size ≡ true → first_outside size lines ≡ None
    → IsInCore (image_of size lines)
image_inside size lines size_is none =
    let bounds = size_bound size size_is in
    let all = placed lines in
    let first = unplaced all in
    record {
      size = size_is;
      segments = cut_inside size 0 [] (cells_from all first lines) bounds.1 (λ some. omega (arith, some))
          (cells_below size all 1 first lines bounds.1 none);
      start = lt-ltb (address_or_zero (entry_in all lines)) size (entry_below size all 1 first lines bounds none);
    }
