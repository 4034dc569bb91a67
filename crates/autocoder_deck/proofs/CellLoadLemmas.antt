-- The first instruction of a card of cells: its columns come to their places.
use Rattle.std.proofs.Common.{◌≡◌, ℕ, zero, suc, ◌+◌, ◌-◌, ◌%◌, ◌<◌, ◌≤◌, ◌==◌, ◌||◌, ◌&&◌, not, nat_le, nat_lt, Bool}
use Rattle.std.proofs.Common.{true, false}
use Rattle.std.proofs.Common.{List, [], ◌∷◌, ◌++◌, length, map, get_or, Some, if◌then◌else◌, refl, ap, sym, ◌∙◌, arith}
use Rattle.std.proofs.lemmas.Bool.Decides.{nat_tests}
use Rattle.std.proofs.lemmas.List.{append_assoc, get_or-append_right, get_or-replicate, get_or_append_left}
use Rattle.std.proofs.lemmas.List.{length-append, length-map}
use Rattle.std.proofs.lemmas.List.{length-replicate}
use Rattle.std.proofs.lemmas.List.FromFn.{get_or-map-range_with_len}
use Rattle.std.specs.List.{list_any}
use Rattle.bcd_1401.specs.declared.cell.Cell.{Cell}
use Rattle.bcd_1401.specs.Graphic.{graphics}
use Rattle.core_1401.specs.Field.{field_len_of, pair_len_of}
use Rattle.core_1401.specs.Places.{rewritten_cell, with_cells, with_chars}
use Rattle.core_1401.specs.Storage.{Storage, blank, blanks, cell_at}
use Rattle.devices_1401.specs.declared.card.Card.{Card}
use Rattle.fields_1401.specs.Load.{is_overwritten, loaded}
use Rattle.fields_1401.specs.Move.{moved, source_of}
use Rattle.machine_tables.specs.declared.operation.Operation.TheVariants as op
use Rattle.machine_tables.specs.Operation.{operation_of}
use Rattle.cpu_1401.specs.State.{State}
use Rattle.autocoder_deck.proofs.AddressLemmas.{effective_is}
use Rattle.autocoder_deck.proofs.CellCardLemmas.{CardCode, card_chars, code_chars, columns, here}
use Rattle.autocoder_deck.proofs.LoaderCardLemmas.{loader_marks}
use Rattle.autocoder_deck.proofs.PlacesLemmas.{cell_of_card, cells_between, field_len_is, pair_len_is}
use Rattle.autocoder_deck.proofs.ProgramLemmas.{instruction, load_next, move_next}
use Rattle.autocoder_deck.proofs.StepLemmas.{Leaves, none_there}

-- a character without a word mark
abbrev pub plain : ℕ → Cell
plain char = record { char = char; mark = false }

-- characters with no word mark but that of the first, if it has one
abbrev pub first_marked : Bool → List ℕ → Storage
first_marked mark [] = []
first_marked mark (char ∷ chars) = record { char = char; mark = mark } ∷ map plain chars

plain_at : (chars : List ℕ) (j : ℕ) → j < length chars → get_or (map plain chars) j blank ≡ plain (get_or chars j 0)
plain_at [] j lt = absurd (omega (arith, lt))
plain_at (char ∷ chars) zero lt = refl
plain_at (char ∷ chars) (suc j) lt = plain_at chars j (omega (arith, lt))

at_first_marked : (mark : Bool) (chars : List ℕ) (j : ℕ) → j < length chars
    → get_or (first_marked mark chars) j blank
    ≡ record { char = get_or chars j 0; mark = if j == 0 then mark else false }
at_first_marked mark [] j lt = absurd (omega (arith, lt))
at_first_marked mark (char ∷ chars) zero lt = refl
at_first_marked mark (char ∷ chars) (suc j) lt =
    plain_at chars j (omega (arith, lt))
    ∙ ap (λ (b : Bool). let cell : Cell = record { char = get_or chars j 0; mark = if b then mark else false } in cell)
    (sym (none_there j))

length-first_marked : (mark : Bool) (chars : List ℕ) → length (first_marked mark chars) ≡ length chars
length-first_marked mark [] = refl
length-first_marked mark (char ∷ chars) = ap suc (length-map chars plain)

-- the word marks of the columns
column_mark : (j : ℕ) → j ≤ 38 → list_any (λ each. each == j + 1) loader_marks ≡ (j == 0)
column_mark j few = grind (arith, nat_tests)

itself : (b : Bool) → b ≡ (if b then true else false)
itself true = refl
itself false = refl

never : (b : Bool) → false ≡ (if b then false else false)
never true = refl
never false = refl

some_not : (j : ℕ) → 0 < j → (j == 0) ≡ false
some_not j some = grind (arith, nat_tests)

-- characters at places of cells
a_cell : (c d : ℕ) (m n : Bool) → c ≡ d → m ≡ n
    → ◌≡◌ {A = Cell} (record { char = c; mark = m }) (record { char = d; mark = n })
a_cell c d m n e f =
    ap (λ (k : ℕ). let cell : Cell = record { char = k; mark = m } in cell) e
    ∙ ap (λ (b : Bool). let cell : Cell = record { char = d; mark = b } in cell) f

column_char : (front : List ℕ) (code : CardCode) (j : ℕ) → j ≤ 38
    → get_or (0 ∷ card_chars front code) (j + 1) 0 ≡ get_or front j 0
column_char front code j few =
    let next : j + 1 ≡ suc j = omega arith in
    ap (λ (k : ℕ). get_or (0 ∷ card_chars front code) k 0) next
    ∙ get_or_append_left (columns front) (code_chars code) 0 j (omega (arith, few))
    ∙ get_or-map-range_with_len (λ i. get_or front i 0) 0 39 j j 0 (omega (arith, few)) (omega arith)

column : (front : List ℕ) (code : CardCode) (rest : Storage) (j : ℕ) → j ≤ 38
    → cell_at (here front code ++ rest) (j + 1) ≡ record { char = get_or front j 0; mark = j == 0 }
column front code rest j few =
    get_or_append_left (here front code) rest blank (j + 1) (omega (arith, few))
    ∙ cell_of_card loader_marks 0 (0 ∷ card_chars front code) (j + 1) (j + 1) (omega (arith, few)) (omega arith)
    ∙ a_cell (get_or (0 ∷ card_chars front code) (j + 1) 0) (get_or front j 0)
    (list_any (λ each. each == j + 1) loader_marks) (j == 0) (column_char front code j few) (column_mark j few)

-- a place that is blank
blank_there : (front : List ℕ) (code : CardCode) (done post : Storage) (n q : ℕ) → 81 + length done ≤ q
    → q < 81 + length done + n → cell_at (here front code ++ (done ++ (blanks n ++ post))) q ≡ blank
blank_there front code done post n q le lt =
    get_or-append_right (here front code) (done ++ (blanks n ++ post)) 81 q blank refl (omega arith)
    ∙ get_or-append_right done (blanks n ++ post) (length done) (q - 81) blank refl (omega arith)
    ∙ get_or_append_left (blanks n) post blank (q - 81 - length done) (omega (arith, length-replicate n blank))
    ∙ get_or-replicate n (q - 81 - length done) blank blank (omega arith)

fits : (x y n : ℕ) → n ≤ y + 1 → x < y → (nat_le n (y + 1) && not (is_overwritten x y n)) ≡ true
fits x y n le lt = grind (arith, nat_tests)

not_below : (x y : ℕ) → x < y → nat_lt y x ≡ false
not_below x y lt = grind (arith, nat_tests)

-- what a card brings, and where
pub record Brings (front chars : List ℕ) (code : CardCode) (done : Storage) : Type 0 where
  pub some : 0 < code.count
  pub most : code.count ≤ 39
  pub top : code.top + 1 ≡ 81 + length done + code.count
  pub size : length chars ≡ code.count
  pub same : (j : ℕ) → j < code.count → get_or front j 0 ≡ get_or chars j 0

module _ (last : State) (hopper : List Card) (front chars : List ℕ) (code : CardCode) (done post : Storage)
    (brings : Brings front chars code done) where
  long : code.top < length (here front code ++ (done ++ (blanks code.count ++ post)))
  long =
      omega (
        arith,
        brings.top,
        brings.some,
        length-append (here front code) (done ++ (blanks code.count ++ post)),
        length-append done (blanks code.count ++ post),
        length-append (blanks code.count) post,
        length-replicate code.count blank,
      )

  long_enough : code.count < length (here front code ++ (done ++ (blanks code.count ++ post)))
  long_enough = omega (arith, long, brings.top, brings.some, brings.most)

  -- cells over the blanks after the card
  over : (f : ℕ → Cell) (mark : Bool)
      → ((i : ℕ) → i < code.count → f i ≡ get_or (first_marked mark chars) (code.count - 1 - i) blank)
      → with_cells (here front code ++ (done ++ (blanks code.count ++ post))) code.top code.count f
      ≡ here front code ++ (done ++ (first_marked mark chars ++ post))
  over f mark same =
      ap (λ (s : Storage). with_cells s code.top code.count f)
      (sym (append_assoc (here front code) done (blanks code.count ++ post)))
      ∙ cells_between (here front code ++ done) (blanks code.count) post (first_marked mark chars) f code.top code.count
      (length-replicate code.count blank) (length-first_marked mark chars ∙ brings.size) brings.some
      (omega (arith, brings.top, length-append (here front code) done)) same
      ∙ append_assoc (here front code) done (first_marked mark chars ++ post)

  -- the i-th column from the last down
  column_down : (i : ℕ) → i < code.count
      → cell_at (here front code ++ (done ++ (blanks code.count ++ post))) (code.count - i)
      ≡ record { char = get_or chars (code.count - 1 - i) 0; mark = code.count - 1 - i == 0 }
  column_down i lt =
      let j = code.count - 1 - i in
      let place : code.count - i ≡ j + 1 = omega (arith, lt) in
      ap (cell_at (here front code ++ (done ++ (blanks code.count ++ post)))) place
      ∙ column front code (done ++ (blanks code.count ++ post)) j (omega (arith, brings.most))
      ∙ a_cell (get_or front j 0) (get_or chars j 0) (j == 0) (j == 0) (brings.same j (omega (arith, lt))) refl

  unmarked : (i : ℕ) → i < code.count - 1
      → (cell_at (here front code ++ (done ++ (blanks code.count ++ post))) (code.count - i)).mark ≡ false
  unmarked i lt =
      ap (λ (cell : Cell). cell.mark) (column_down i (omega (arith, lt)))
      ∙ some_not (code.count - 1 - i) (omega (arith, lt))

  marked_last : (cell_at (here front code ++ (done ++ (blanks code.count ++ post))) (code.count - (code.count - 1))).mark
      ≡ true
  marked_last =
      let none : code.count - 1 - (code.count - 1) ≡ 0 = omega arith in
      ap (λ (cell : Cell). cell.mark) (column_down (code.count - 1) (omega (arith, brings.some)))
      ∙ ap (λ (k : ℕ). k == 0) none

  field : field_len_of (here front code ++ (done ++ (blanks code.count ++ post))) code.count ≡ Some code.count
  field =
      let all : code.count - 1 + 1 ≡ code.count = omega (arith, brings.some) in
      field_len_is (here front code ++ (done ++ (blanks code.count ++ post))) code.count (code.count - 1) long_enough
      (omega arith) unmarked marked_last ∙ ap Some all

  all_loaded : loaded (here front code ++ (done ++ (blanks code.count ++ post))) code.count code.top code.count
      ≡ here front code ++ (done ++ (first_marked true chars ++ post))
  unfolding loaded
  all_loaded =
      over (λ i. cell_at (here front code ++ (done ++ (blanks code.count ++ post))) (code.count - i)) true
      (λ i lt. column_down i lt
      ∙ a_cell (get_or chars (code.count - 1 - i) 0) (get_or chars (code.count - 1 - i) 0) (code.count - 1 - i == 0)
      (if code.count - 1 - i == 0 then true else false) refl (itself (code.count - 1 - i == 0))
      ∙ sym (at_first_marked true chars (code.count - 1 - i) (omega (arith, brings.size, lt))))

  pub card_loaded : code.does ≡ 35
      → Leaves last hopper (here front code ++ (done ++ (first_marked true chars ++ post))) 47
      → Leaves last hopper (here front code ++ (done ++ (blanks code.count ++ post))) 40
  unfolding graphics
  card_loaded e more =
      load_next last hopper (here front code ++ (done ++ (blanks code.count ++ post)))
      (here front code ++ (done ++ (first_marked true chars ++ post))) 40 code.count code.top code.count
      (instruction (here front code) (done ++ (blanks code.count ++ post)) 40 op.Load 7 refl refl (ap operation_of e) refl)
      (effective_is (here front code ++ (done ++ (blanks code.count ++ post))) 41 code.count refl refl refl)
      (effective_is (here front code ++ (done ++ (blanks code.count ++ post))) 44 code.top refl refl refl)
      field long (fits code.count code.top code.count (omega (arith, brings.top))
      (omega (arith, brings.top, brings.most, brings.some))) all_loaded more

  -- the same without the word mark of the first
  blank_down : (i : ℕ) → i < code.count
      → cell_at (here front code ++ (done ++ (blanks code.count ++ post))) (code.top - i) ≡ blank
  blank_down i lt =
      blank_there front code done post code.count (code.top - i) (omega (arith, brings.top, lt))
      (omega (arith, brings.top, lt))

  pair : pair_len_of (here front code ++ (done ++ (blanks code.count ++ post))) code.count code.top ≡ Some code.count
  pair =
      let s : Storage = here front code ++ (done ++ (blanks code.count ++ post)) in
      let all : code.count - 1 + 1 ≡ code.count = omega (arith, brings.some) in
      pair_len_is s code.count code.top (code.count - 1) long_enough long (omega arith) (omega (arith, brings.top))
      (λ i lt. ap (λ (b : Bool). b || (cell_at s (code.top - i)).mark) (unmarked i lt)
      ∙ ap (λ (cell : Cell). cell.mark) (blank_down i (omega (arith, lt))))
      (ap (λ (b : Bool). b || (cell_at s (code.top - (code.count - 1))).mark) marked_last)
      ∙ ap Some all

  all_moved : moved (here front code ++ (done ++ (blanks code.count ++ post))) code.count code.top code.count
      ≡ here front code ++ (done ++ (first_marked false chars ++ post))
  unfolding moved with_chars
  all_moved =
      let s : Storage = here front code ++ (done ++ (blanks code.count ++ post)) in
      let straight : nat_lt code.top code.count ≡ false =
      not_below code.count code.top (omega (arith, brings.top, brings.most, brings.some)) in
      over (rewritten_cell s code.top (λ i. (cell_at s (source_of code.count code.top i)).char)) false
      (λ i lt.
      let j = code.count - 1 - i in
      let source : source_of code.count code.top i ≡ code.count - i =
      ap (λ (b : Bool). if b then code.count - i % (code.count - code.top) else code.count - i) straight in
      a_cell ((cell_at s (source_of code.count code.top i)).char) (get_or chars j 0) ((cell_at s (code.top - i)).mark)
      (if j == 0 then false else false)
      (ap (λ (k : ℕ). (cell_at s k).char) source ∙ ap (λ (cell : Cell). cell.char) (column_down i lt))
      (ap (λ (cell : Cell). cell.mark) (blank_down i lt) ∙ never (j == 0))
      ∙ sym (at_first_marked false chars j (omega (arith, brings.size, lt))))

  pub card_moved : code.does ≡ 36
      → Leaves last hopper (here front code ++ (done ++ (first_marked false chars ++ post))) 47
      → Leaves last hopper (here front code ++ (done ++ (blanks code.count ++ post))) 40
  unfolding graphics
  card_moved e more =
      move_next last hopper (here front code ++ (done ++ (blanks code.count ++ post)))
      (here front code ++ (done ++ (first_marked false chars ++ post))) 40 code.count code.top code.count
      (instruction (here front code) (done ++ (blanks code.count ++ post)) 40 op.Move 7 refl refl (ap operation_of e) refl)
      (effective_is (here front code ++ (done ++ (blanks code.count ++ post))) 41 code.count refl refl refl)
      (effective_is (here front code ++ (done ++ (blanks code.count ++ post))) 44 code.top refl refl refl)
      pair all_moved more
