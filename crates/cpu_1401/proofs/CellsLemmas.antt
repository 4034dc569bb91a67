-- Cells put at an address, and cells taken from one, one by one.
use Rattle.std.proofs.Common.{◌≡◌, ℕ, ◌+◌, ◌<◌, ◌≤◌, List, [], ◌∷◌, ◌++◌, length, take, drop, get_or, slice_set}
use Rattle.std.proofs.Common.{ap, sym, ◌∙◌, arith, append_assoc, length-take, length-append}
use Rattle.std.proofs.lemmas.List.{take_more, drop_more, set_at}
use Rattle.bcd_1401.specs.declared.cell.Cell.{Cell}
use Rattle.core_1401.specs.Storage.{Storage, blank}
use Rattle.cpu_1401.specs.CarryOut.{deposited}

-- one cell more
pub deposited-more : (storage : Storage) (address : ℕ) (cells : List Cell) (i : ℕ)
    → i < length cells → address + length cells ≤ length storage
    → slice_set (deposited storage address (take i cells)) (address + i) (get_or cells i blank)
    ≡ deposited storage address (take (i + 1) cells)
deposited-more storage address cells i h inside =
    let front : Storage = take address storage in
    let so_far : List Cell = take i cells in
    let there = address + length so_far in
    let cell = get_or cells i blank in
    let count : length so_far ≡ i = omega (arith, length-take i cells) in
    let before : length (front ++ so_far) ≡ address + i =
    omega (arith, length-append front so_far, length-take address storage, count) in
    let beyond : drop there storage ≡ get_or storage there blank ∷ drop (there + 1) storage =
    drop_more storage there blank (omega (arith, count)) in
    let next : there + 1 ≡ address + length (take (i + 1) cells) = omega (arith, count, length-take (i + 1) cells) in
    let rest : Storage = drop (there + 1) storage in
    ap (λ (last : Storage). slice_set (front ++ so_far ++ last) (address + i) cell) beyond
    ∙ set_at (front ++ so_far) (get_or storage there blank) rest cell (address + i) before
    ∙ sym (append_assoc (front ++ so_far) (cell ∷ []) rest)
    ∙ ap (λ (more : Storage). more ++ rest) (append_assoc front so_far (cell ∷ []))
    ∙ ap (λ (more : Storage). (front ++ more) ++ rest) (sym (take_more cells i blank h))
    ∙ ap (λ n. (front ++ take (i + 1) cells) ++ drop n storage) next
