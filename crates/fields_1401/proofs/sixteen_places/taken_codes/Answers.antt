-- Each lane takes the character that is as many places from A's units.
use Rattle.std.proofs.Common.{◌≡◌, ℕ, ◌-◌, ◌<◌, ◌≤◌, nat_lt, if◌then◌else◌, List, ap, get_or, length, replicate}
use Rattle.std.proofs.Common.{sym, refl, ◌∙◌, arith, w8}
use Rattle.std.specs.Simd.Lanes.{zip2}
use Rattle.std.proofs.lemmas.Simd.{SwzOk-from_below, Each1-from_get_or, get_or-swz_l_below, length-zip2, get_or-zip2}
use Rattle.std.proofs.lemmas.Simd.{get_or-replicate, length-replicate, swz_l}
use Rattle.fields_1401.specs.Edit.{is_replaceable}
use Rattle.fields_1401.proofs.SixteenLemmas.{minus}
use Rattle.fields_1401.proofs.sixteen_places.taken_codes.Goals as goal

-- how far from the left
abbrev fifteens : List ℕ
fifteens = replicate 16 15

abbrev numbers : List ℕ → List ℕ
numbers beyond = zip2 minus fifteens beyond

length-numbers : (beyond : List ℕ) → length beyond ≡ 16 → length (numbers beyond) ≡ 16
length-numbers beyond size =
    let fifteen : ℕ = 15 in
    let count : length fifteens ≡ 16 = length-replicate 16 fifteen in
    length-zip2 minus fifteens beyond (count ∙ sym size) ∙ count

number_at : (beyond : List ℕ) (i : ℕ) → length beyond ≡ 16 → i < 16 → get_or beyond i 0 ≤ 15
    → get_or (numbers beyond) i 0 ≡ 15 - get_or beyond i 0
number_at beyond i size within few =
    let fifteen : ℕ = 15 in
    get_or-zip2 minus fifteens beyond i 0 0 0 within (omega (arith, size, within))
    ∙ ap (λ (n : ℕ). minus n (get_or beyond i 0)) (get_or-replicate 16 i fifteen 0 within) ∙ omega (arith, few)

pub swizzle-from_a : goal.swizzle-from_a
swizzle-from_a c =
    let beyond : List ℕ = c.args.beyond in
    let count = length-numbers beyond c.requires.beyond in
    SwzOk-from_below w8 16 1 16 0 (numbers beyond) refl (omega (arith, count))
    (Each1-from_get_or (λ j. j < 16) (numbers beyond) 0
    (λ i lt.
    let within : i < 16 = omega (arith, count, lt) in
    omega (arith, number_at beyond i c.requires.beyond within (c.requires.few i within))))

pub returns-clause-lanes : goal.returns-clause-lanes
returns-clause-lanes c = λ i within.
    let char : ℕ = get_or c.args.control i 0 in
    let n : ℕ = get_or c.args.beyond i 0 in
    let none : ℕ = 0 in
    let blanks : List ℕ = replicate 16 0 in
    let count = length-numbers c.args.beyond c.requires.beyond in
    let number = number_at c.args.beyond i c.requires.beyond within (c.requires.few i within) in
    let lane : get_or (swz_l w8 16 c.args.of_a 0 (numbers c.args.beyond)) i 0 ≡ get_or c.args.of_a (15 - n) 0 =
    get_or-swz_l_below w8 16 c.args.of_a 0 (numbers c.args.beyond) i (omega (arith, count, within))
    (omega (arith, number))
    ∙ ap (λ (k : ℕ). get_or c.args.of_a k 0) (omega (arith, number, within)) in
    let blank : get_or blanks i 0 ≡ 0 = get_or-replicate 16 i none 0 within in
    c.where_replaceable.ensures.lanes i within
    ∙ ap (λ (other : ℕ). if is_replaceable char then get_or c.where_below.result i 0 else other) blank
    ∙ ap (λ (this : ℕ). if is_replaceable char then this else 0)
    (c.where_below.ensures.lanes i within
    ∙ ap (λ (taken : ℕ). if nat_lt n c.args.taken then taken else get_or blanks i 0) lane
    ∙ ap (λ (other : ℕ). if nat_lt n c.args.taken then get_or c.args.of_a (15 - n) 0 else other) blank)
