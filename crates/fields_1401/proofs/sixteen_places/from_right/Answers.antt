-- Each lane is that of its number in the table.
use Rattle.std.proofs.Common.{◌≡◌, ℕ, ◌+◌, ◌-◌}
use Rattle.std.proofs.Common.{List, get_or, length, take, drop, refl, ◌∙◌, arith, w8}
use Rattle.std.specs.Simd.Lanes.{chunk}
use Rattle.std.proofs.lemmas.Simd.{SwzOk-from_Each1, Each1-from_get_or, get_or-swz_l}
use Rattle.fields_1401.proofs.SixteenLemmas.{length-window_lanes}
use Rattle.fields_1401.proofs.SixteenPlacesLemmas.{is_lane, lane_read, later_number}
use Rattle.fields_1401.proofs.sixteen_places.from_right.Goals as goal

pub swizzle : goal.swizzle
swizzle c =
    let ws : List ℕ = c.later.result.now in
    let n : ℕ = c.args.n in
    let numbers : List ℕ = chunk 0 16 (take (length ws - n) (drop n ws)) in
    let count : length numbers ≡ 16 = length-window_lanes ws n c.later.ensures.len c.requires.n in
    SwzOk-from_Each1 w8 16 1 16 0 numbers refl (omega (arith, count))
    (Each1-from_get_or _ numbers 0
    (λ i lt. is_lane (get_or numbers i 0) (i + n)
    (later_number ws n i c.later.ensures.table c.later.ensures.len c.requires.n (omega (arith, count, lt)))))

pub returns-clause-lanes : goal.returns-clause-lanes
returns-clause-lanes c = λ i within.
    let ws : List ℕ = c.later.result.now in
    let n : ℕ = c.args.n in
    let numbers : List ℕ = chunk 0 16 (take (length ws - n) (drop n ws)) in
    let count : length numbers ≡ 16 = length-window_lanes ws n c.later.ensures.len c.requires.n in
    get_or-swz_l w8 16 c.args.lanes 0 numbers i (omega (arith, count, within))
    ∙ lane_read c.args.lanes (get_or numbers i 0) i (i + n) within c.requires.count
    (later_number ws n i c.later.ensures.table c.later.ensures.len c.requires.n within)
