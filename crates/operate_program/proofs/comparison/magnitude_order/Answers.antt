-- Beyond the highest digits both are zero; at the end all digits are compared.
use Rattle.std.proofs.Common.{◌≡◌, ℕ, List, drop, reverse, refl, ap, arith, ◌∙◌}
use Rattle.std.specs.Ordering.{nat_cmp}
use Rattle.std.proofs.lemmas.List.{drop_all, length-reverse}
use Rattle.bcd_1401.specs.declared.cell.Cell.{Cell}
use Rattle.fields_1401.specs.Number.{magnitude_of, places_down}
use Rattle.operate_program.proofs.ComparisonLemmas.{places_counted, value_up, value_up_reversed}
use Rattle.operate_program.proofs.comparison.magnitude_order.Goals as goal

pub loop-left-init : goal.loop-left-init
loop-left-init c =
    let cells : List Cell = places_down c.args.core.now c.args.at c.args.len in
    let digits : List ℕ = reverse c.args.digits.now in
    let counted = places_counted c.args.core.now c.args.at c.args.len c.requires.at c.requires.len in
    let no_cells : magnitude_of (drop c.max-left.result cells) ≡ 0 =
    ap magnitude_of (drop_all c.max-left.result cells (omega (arith, counted, c.max-left.ensures))) in
    let no_digits : value_up (drop c.max-left.result digits) ≡ 0 =
    ap value_up (drop_all c.max-left.result digits
    (omega (arith, length-reverse c.args.digits.now, c.max-left.ensures))) in
    rw (no_cells, no_digits) refl

pub returns : goal.returns
returns c =
    let cells : List Cell = places_down c.args.core.now c.args.at c.args.len in
    let digits : List ℕ = reverse c.args.digits.now in
    let none : c.loop-left.left ≡ 0 = omega (arith, c.loop-left-test.false) in
    c.loop-left.invariant
    ∙ ap (λ (n : ℕ). nat_cmp (magnitude_of (drop n cells)) (value_up (drop n digits))) none
    ∙ ap (λ (n : ℕ). nat_cmp (magnitude_of cells) n) (value_up_reversed c.args.digits.now)
