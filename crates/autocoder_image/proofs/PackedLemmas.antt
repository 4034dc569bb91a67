-- Cells that are packed, part by part and block by block.
use Rattle.std.proofs.Common.{◌≡◌, ℕ, zero, suc, ◌+◌, ◌-◌, ◌≤◌, true, List, [], ◌∷◌, ◌++◌, length, take, drop}
use Rattle.std.proofs.Common.{replicate, refl, sym, ap, ◌∙◌, arith, Result}
use Rattle.std.specs.List.{list_all}
use Rattle.std.specs.Prelude.{OnOk}
use Rattle.std.proofs.lemmas.Result.{on_ok_weaker}
use Rattle.std.proofs.lemmas.Bool.{and_from, and_parts, lt-ltb}
use Rattle.std.proofs.lemmas.List.{append-nil, append_assoc, length-append, length-drop, take_all, take-append-drop}
use Rattle.std.proofs.lemmas.List.{drop-append-le, take-append-le}
use Rattle.std.proofs.lemmas.List.Folds.{list_all-append}
use Rattle.std.proofs.lemmas.Grind.{flat_map-append}
use Rattle.bcd_1401.specs.declared.cell.Cell.{Cell}
use Rattle.machine_image.specs.ImageText.{is_character}
use Rattle.autocoder_placing.specs.Cells.{numbered, repeated}
use Rattle.autocoder_image.specs.Packed.{part_cells, parts_cells, blocks_cells, parts_in, is_placed, ArePlaced}
use Rattle.autocoder_image.specs.declared.packed_cells.Block.{Block}
use Rattle.autocoder_image.specs.declared.packed_cells.Part.{Part}

-- cells in two turns
pub numbered_in_turn : (at : ℕ) (one other : List Cell)
    → numbered at (one ++ other) ≡ numbered at one ++ numbered (at + length one) other
numbered_in_turn at [] other = ap (λ (n : ℕ). numbered n other) (omega arith)
numbered_in_turn at (cell ∷ one) other =
    ap (λ more. (at, cell) ∷ more)
    (numbered_in_turn (at + 1) one other
    ∙ ap (λ (n : ℕ). numbered (at + 1) one ++ numbered n other) (omega arith))

-- one time more
pub one_more_time : (times : ℕ) (cells : List Cell) → repeated (suc times) cells ≡ repeated times cells ++ cells
one_more_time zero cells = append-nil cells
one_more_time (suc times) cells =
    ap (λ (more : List Cell). cells ++ more) (one_more_time times cells)
    ∙ sym (append_assoc cells (repeated times cells) cells)

-- the cells of parts that follow others
pub parts_in_turn : (one other : List Part) → parts_cells (one ++ other) ≡ parts_cells one ++ parts_cells other
parts_in_turn one other = flat_map-append part_cells one other

-- a block more, once each part is one of the blocks before it
pub block_added : (blocks : List Block) (block : Block) (parts more : List Part) → parts_in blocks ≡ length parts
    → block.parts ≡ length more
    → blocks_cells (blocks ++ block ∷ []) (parts ++ more)
    ≡ blocks_cells blocks parts ++ numbered block.address (repeated block.times (parts_cells more))
block_added [] block [] more whole few =
    append-nil _
    ∙ ap (λ (those : List Part). numbered block.address (repeated block.times (parts_cells those)))
    (take_all block.parts more (omega (arith, few)))
block_added [] block (part ∷ parts) more whole few = absurd (omega (arith, whole))
block_added (first ∷ blocks) block parts more whole few =
    let inside : first.parts ≤ length parts = omega (arith, whole) in
    let rest : List Part = drop first.parts parts in
    let left : parts_in blocks ≡ length rest = omega (arith, whole, length-drop first.parts parts) in
    let front = numbered first.address (repeated first.times (parts_cells (take first.parts parts))) in
    rw (take-append-le first.parts parts more inside, drop-append-le first.parts parts more inside)
    (ap (λ beyond. front ++ beyond) (block_added blocks block rest more left few)
    ∙ sym (append_assoc front (blocks_cells blocks rest)
    (numbered block.address (repeated block.times (parts_cells more)))))

pub parts_added : (blocks : List Block) (block : Block) → parts_in (blocks ++ block ∷ []) ≡ parts_in blocks + block.parts
parts_added [] block = omega arith
parts_added (first ∷ blocks) block = omega (arith, parts_added blocks block)

-- characters at places that have an address
pub are_placed : (at : ℕ) (cells : List Cell) → at + length cells ≤ 16000 → list_all is_character cells ≡ true
    → ArePlaced (numbered at cells)
are_placed at [] inside own = refl
are_placed at (cell ∷ cells) inside own =
    let parts = and_parts (is_character cell) (list_all is_character cells) own in
    and_from _ _ (and_from _ _ (lt-ltb at 16000 (omega (arith, inside))) parts.0)
    (are_placed (at + 1) cells (omega (arith, inside)) parts.1)

pub placed_in_turn : (one other : List (ℕ × Cell)) → ArePlaced one → ArePlaced other → ArePlaced (one ++ other)
placed_in_turn one other p q = list_all-append is_placed one other ∙ and_from _ _ p q

pub characters_in_turn : (one other : List Cell) → list_all is_character one ≡ true → list_all is_character other ≡ true
    → list_all is_character (one ++ other) ≡ true
characters_in_turn one other p q = list_all-append is_character one other ∙ and_from _ _ p q

pub equal_characters : (count : ℕ) (cell : Cell) → is_character cell ≡ true
    → list_all is_character (replicate count cell) ≡ true
equal_characters zero cell own = refl
equal_characters (suc count) cell own = and_from _ _ own (equal_characters count cell own)

pub repeated_characters : (times : ℕ) (cells : List Cell) → list_all is_character cells ≡ true
    → list_all is_character (repeated times cells) ≡ true
repeated_characters zero cells own = refl
repeated_characters (suc times) cells own =
    characters_in_turn cells (repeated times cells) own (repeated_characters times cells own)

-- cells that begin with these once more
pub once_more : (times : ℕ) (first cells rest beyond : List Cell) → cells ≡ repeated times first ++ rest
    → rest ≡ first ++ beyond → cells ≡ repeated (times + 1) first ++ beyond
once_more times first cells rest beyond so_far next =
    let more : times + 1 ≡ suc times = omega arith in
    so_far ∙ ap (λ (those : List Cell). repeated times first ++ those) next
    ∙ sym (append_assoc (repeated times first) first beyond)
    ∙ ap (λ (those : List Cell). those ++ beyond) (sym (one_more_time times first))
    ∙ ap (λ n. repeated n first ++ beyond) (sym more)

-- a cell, and those after it that are equal to it
pub part_taken : (count : ℕ) (cell : Cell) (beyond : List Cell) → take count beyond ≡ replicate count cell
    → cell ∷ beyond ≡ replicate (count + 1) cell ++ drop count beyond
part_taken count cell beyond equal =
    let more : count + 1 ≡ suc count = omega arith in
    ap (λ (those : List Cell). cell ∷ those)
    (sym (take-append-drop count beyond) ∙ ap (λ (those : List Cell). those ++ drop count beyond) equal)
    ∙ ap (λ n. replicate n cell ++ drop count beyond) (sym more)

-- cells that are repeated, and others after them
pub in_two_blocks : {T E : Type 0} (result : Result T E) (old between new : List (ℕ × Cell)) (at beyond times : ℕ)
    (first rest cells : List Cell) → cells ≡ repeated times first ++ rest
    → between ≡ old ++ numbered at (repeated times first) → OnOk result (new ≡ between ++ numbered beyond rest)
    → beyond ≡ at + (length cells - length rest) → OnOk result (new ≡ old ++ numbered at cells)
in_two_blocks result old between new at beyond times first rest cells is one other there =
    let many : length cells ≡ length (repeated times first) + length rest =
    omega (arith, ap length is, length-append (repeated times first) rest) in
    let beyond_is : beyond ≡ at + length (repeated times first) = omega (arith, there, many) in
    on_ok_weaker result
    (λ last. last ∙ ap (λ those. those ++ numbered beyond rest) one
    ∙ append_assoc old (numbered at (repeated times first)) (numbered beyond rest)
    ∙ ap (λ n. old ++ (numbered at (repeated times first) ++ numbered n rest)) beyond_is
    ∙ ap (λ those. old ++ those) (sym (numbered_in_turn at (repeated times first) rest))
    ∙ ap (λ (those : List Cell). old ++ numbered at those) (sym is)) other

pub characters_of : (times : ℕ) (first rest cells : List Cell) → cells ≡ repeated times first ++ rest
    → list_all is_character first ≡ true → list_all is_character rest ≡ true → list_all is_character cells ≡ true
characters_of times first rest cells is p q =
    ap (list_all is_character) is
    ∙ characters_in_turn (repeated times first) rest (repeated_characters times first p) q

-- a part more
pub part_added : (old new more now : List Part) (part : Part) (cells rest beyond : List Cell) → now ≡ old ++ more
    → new ≡ now ++ part ∷ [] → cells ≡ parts_cells more ++ rest → rest ≡ part_cells part ++ beyond
    → list_all is_character (parts_cells more) ≡ true → is_character part.cell ≡ true
    → (x : List Part) × (new ≡ old ++ x) × (cells ≡ parts_cells x ++ beyond)
    × (list_all is_character (parts_cells x) ≡ true)
part_added old new more now part cells rest beyond so_far pushed is next own char =
    let one : parts_cells (more ++ part ∷ []) ≡ parts_cells more ++ part_cells part =
    parts_in_turn more (part ∷ [])
    ∙ ap (λ (those : List Cell). parts_cells more ++ those) (append-nil (part_cells part)) in (
      more ++ part ∷ [],
      pushed ∙ ap (λ (those : List Part). those ++ part ∷ []) so_far ∙ append_assoc old more (part ∷ []),
      is ∙ ap (λ (those : List Cell). parts_cells more ++ those) next
          ∙ sym (append_assoc (parts_cells more) (part_cells part) beyond)
          ∙ ap (λ (those : List Cell). those ++ beyond) (sym one),
      ap (list_all is_character) one
          ∙ characters_in_turn (parts_cells more) (part_cells part) own (equal_characters part.count part.cell char),
    )
