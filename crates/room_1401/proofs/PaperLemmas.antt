-- Lines of the paper, copied one by one.
use Rattle.std.proofs.Common.{◌≡◌, ℕ, ◌+◌, ◌-◌, ◌<◌, min, List, [], ◌∷◌, ◌++◌, Some, length, take, drop, set}
use Rattle.std.proofs.Common.{sym, ap, ◌∙◌, arith}
use Rattle.std.proofs.lemmas.List.{get_or-drop, length-drop, take_min, take_more, take_more_set}
use Rattle.std.proofs.lemmas.Option.{get_or_from_slice_get, slice_get_within}
use Rattle.std.specs.Prelude.{slice_get}
use Rattle.devices_1401.specs.declared.print_line.PrintLine.{PrintLine}
use Rattle.room_1401.specs.Paper.{lines_from, window_lines}

-- a line more in a copy
pub line_more : (lines paper : List PrintLine) (at i : ℕ) (line : PrintLine) → i < length lines
    → slice_get paper (at + i) ≡ Some line → take i lines ≡ take i (drop at paper)
    → take (i + 1) (set lines i line) ≡ take (i + 1) (drop at paper)
line_more lines paper at i line room is so_far =
    let within : at + i < length paper = slice_get_within paper (at + i) line is in
    let inside : i < length (drop at paper) = omega (arith, length-drop at paper, within) in
    take_more_set lines i line room
    ∙ ap (λ (xs : List PrintLine). xs ++ line ∷ []) so_far
    ∙ ap (λ (x : PrintLine). take i (drop at paper) ++ x ∷ [])
    (sym (get_or-drop at paper i line ∙ get_or_from_slice_get paper (at + i) line line is))
    ∙ sym (take_more (drop at paper) i line inside)

-- as many as there are, up to the most that are shown
pub all_shown : (paper : List PrintLine) (at n : ℕ) → n ≡ min (length paper - at) window_lines
    → take n (drop at paper) ≡ lines_from paper at
all_shown paper at n is =
    let rest : List PrintLine = drop at paper in
    let count : n ≡ min window_lines (length rest) = omega (arith, is, length-drop at paper) in
    ap (λ (k : ℕ). take k rest) count ∙ take_min window_lines rest
