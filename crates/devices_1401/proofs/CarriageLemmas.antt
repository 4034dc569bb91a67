-- How many lines a skip moves.
use Rattle.std.proofs.Common.{◌≡◌, ℕ, ◌+◌, ◌-◌, ◌%◌, ◌<◌, ◌≤◌, true, false, get_or, ap, ◌∙◌, arith}
use Rattle.std.specs.List.{range_with_len}
use Rattle.std.proofs.lemmas.Bool.{eq-eqb, ne_eqb}
use Rattle.std.proofs.lemmas.List.FromFn.{length-range_with_len, get_or-range_with_len}
use Rattle.std.proofs.lemmas.List.Sums.{position_or_len_is}
use Rattle.devices_1401.specs.Carriage.{lines_to, is_at_line}

-- the least number from 1 on that brings the carriage to a line, found by its place among 1 to 66
lines_to_is : (position line lines : ℕ) → 1 ≤ lines → lines ≤ 66
    → ((k : ℕ) → 1 ≤ k → k < lines → is_at_line line (position + k) ≡ false)
    → is_at_line line (position + lines) ≡ true → lines_to position line ≡ lines
lines_to_is position line lines least most before here =
    let size = length-range_with_len 1 66 in
    let at : (k : ℕ) → k < 66 → get_or (range_with_len 1 66) k 0 ≡ k + 1 = λ k lt. get_or-range_with_len 1 66 k 0 lt
    ∙ omega arith in
    let found =
    position_or_len_is (λ k. is_at_line line (position + k)) (range_with_len 1 66) (lines - 1) 0 (omega arith)
    (λ k lt. ap (λ j. is_at_line line (position + j)) (at k (omega arith)) ∙ before (k + 1) (omega arith) (omega arith))
    (λ lt. ap (λ j. is_at_line line (position + j)) (at (lines - 1) (omega arith) ∙ omega arith) ∙ here) in
    ap (λ k. 1 + k) found ∙ omega arith

-- to a greater line of this form
pub lines_to-below : (position line : ℕ) → position % 66 + 1 < line → line ≤ 66 → lines_to position line
    ≡ line - (position % 66 + 1)
lines_to-below position line further most =
    lines_to_is position line (line - (position % 66 + 1)) (omega arith) (omega arith)
    (λ k least lt. ne_eqb ((position + k) % 66 + 1) line (λ e. omega arith))
    (eq-eqb ((position + (line - (position % 66 + 1))) % 66 + 1) line (omega arith))

-- to another line, on the next form
pub lines_to-next_form : (position line : ℕ) → line ≤ position % 66 + 1 → 1 ≤ line → lines_to position line
    ≡ line + 66 - (position % 66 + 1)
lines_to-next_form position line beyond least =
    lines_to_is position line (line + 66 - (position % 66 + 1)) (omega arith) (omega arith)
    (λ k some lt. ne_eqb ((position + k) % 66 + 1) line (λ e. omega arith))
    (eq-eqb ((position + (line + 66 - (position % 66 + 1))) % 66 + 1) line (omega arith))
