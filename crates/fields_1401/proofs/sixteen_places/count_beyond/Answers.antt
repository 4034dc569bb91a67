-- Each step counts twice as many places.
use Rattle.std.proofs.Common.{◌≡◌, ℕ, ◌<◌, ◌≤◌, if◌then◌else◌, List, ap, get_or, ◌∙◌, arith, replicate}
use Rattle.std.proofs.lemmas.Simd.{get_or-replicate}
use Rattle.fields_1401.specs.Edit.{is_replaceable}
use Rattle.fields_1401.proofs.SixteenPlacesLemmas.{right_sum, right_one, right_twice, right_all, flag_le}
use Rattle.fields_1401.proofs.sixteen_places.count_beyond.Goals as goal

-- the flags: 1 where a place is replaceable
flagged : (word flags : List ℕ) → ((i : ℕ) → i < 16 → get_or flags i 0 ≡
    (if is_replaceable (get_or word i 0) then get_or (replicate 16 1) i 0 else get_or (replicate 16 0) i 0)) → (i : ℕ)
    → i < 16 → get_or flags i 0 ≡ (if is_replaceable (get_or word i 0) then 1 else 0)
flagged word flags are i within =
    are i within
    ∙ ap (λ (n : ℕ). if is_replaceable (get_or word i 0) then n else get_or (replicate 16 0) i 0)
    (get_or-replicate 16 i 1 0 within)
    ∙ ap (λ (n : ℕ). if is_replaceable (get_or word i 0) then 1 else n) (get_or-replicate 16 i 0 0 within)

pub returns-clause-beyond : goal.returns-clause-beyond
returns-clause-beyond c = λ i within.
    let here : List ℕ = c.where_replaceable-here.result in
    let size = c.where_replaceable-here.ensures.count in
    let flags = flagged c.args.control here c.where_replaceable-here.ensures.lanes in
    let ones : (k : ℕ) → get_or here k 0 ≤ 1 = λ k. flag_le c.args.control here k size flags in
    let one : (k : ℕ) → k < 16 → get_or c.from_right-one.result k 0 ≡ right_sum here 1 k =
    λ k lt. c.from_right-one.ensures.lanes k lt ∙ right_one here k in
    let two = right_twice here c.from_right-one.result c.with_right-two.result 1 size c.from_right-one.ensures.count
    (omega arith) ones one c.with_right-two.ensures.sums in
    let four = right_twice here c.with_right-two.result c.with_right-four.result 2 size c.with_right-two.ensures.count
    (omega arith) ones two c.with_right-four.ensures.sums in
    let eight = right_twice here c.with_right-four.result c.with_right-eight.result 4 size
    c.with_right-four.ensures.count (omega arith) ones four c.with_right-eight.ensures.sums in
    right_twice here c.with_right-eight.result c.with_right.result 8 size c.with_right-eight.ensures.count
    (omega arith) ones eight c.with_right.ensures.sums i within
    ∙ right_all c.args.control here 16 i c.requires size flags (omega arith)
