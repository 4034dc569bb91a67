-- The lines of the paper, one by one.
use Rattle.std.proofs.Common.{◌≡◌, ℕ, zero, suc, ◌+◌, List, [], ◌∷◌, ◌++◌, drop}
use Rattle.std.proofs.Common.{refl, ◌∙◌, ap, arith}
use Rattle.std.specs.Prelude.{slice_get}
use Rattle.std.specs.List.{flat_map}
use Rattle.devices_1401.specs.declared.print_line.PrintLine.{PrintLine}
use Rattle.operate_views.specs.Paper.{line_text, printed_text}

-- the line of this index, and those that are left
pub line_more : (lines : List PrintLine) (at : ℕ)
    → flat_map printed_text (drop at lines)
    ≡ line_text (slice_get lines at) ++ flat_map printed_text (drop (at + 1) lines)
line_more lines at =
    let next : suc at ≡ at + 1 = omega arith in
    parts lines at ∙ ap (λ k. line_text (slice_get lines at) ++ flat_map printed_text (drop k lines)) next
  where
    parts : (ls : List PrintLine) (i : ℕ)
        → flat_map printed_text (drop i ls) ≡ line_text (slice_get ls i) ++ flat_map printed_text (drop (suc i) ls)
    parts [] zero = refl
    parts [] (suc i) = refl
    parts (l ∷ ls) zero = refl
    parts (l ∷ ls) (suc i) = parts ls i
