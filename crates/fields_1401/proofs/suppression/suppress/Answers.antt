-- What is left is the definition's at this length; what was written is read again.
use Rattle.std.proofs.Common.{◌≡◌, ◌+◌, ◌<◌, ◌≤◌, ℕ, Option, IfSome, length, ap, sym, ◌∙◌, subst, rules}
use Rattle.fields_1401.specs.Across.{chars_across, units_unzoned, IsUnmarked, IsSameOutside}
use Rattle.fields_1401.specs.Suppress.{suppressed}
use Rattle.fields_1401.proofs.AcrossLemmas.{length-unzoned_across, across_unmarked, across_outside, across_again}
use Rattle.fields_1401.proofs.SuppressLemmas.{length-suppressed, suppressed_again}
use Rattle.fields_1401.proofs.suppression.suppress.Goals as goal

-- the places written, and what was written there
pub returns-clause-marks : goal.returns-clause-marks
returns-clause-marks c =
    let P : Option ℕ → Type 0 = λ o. IfSome o (λ n. IsUnmarked c.put_suppressed.new.core c.args.b n) in
    let b_in : c.args.b < length c.args.core.now = search rules in
    let b_places : c.in-Some.n ≤ c.args.b + 1 = search rules in
    let xs = units_unzoned (chars_across c.args.core.now c.args.a c.in-Some.n) in
    let size =
    length-suppressed xs
    ∙ length-unzoned_across c.args.core.now c.args.a c.in-Some.n c.in-Some.ensures.in_core c.in-Some.ensures.places in
    subst P c.in-Some.ensures.value
    (across_unmarked c.args.core.now c.put_suppressed.new.core c.args.b c.in-Some.n
    (suppressed xs) c.put_suppressed.ensures.put size b_in b_places)

pub returns-clause-outside : goal.returns-clause-outside
returns-clause-outside c =
    let P : Option ℕ
    → Type 0 = λ o. IfSome o (λ n. IsSameOutside c.args.core.now c.put_suppressed.new.core c.args.b n) in
    let xs = units_unzoned (chars_across c.args.core.now c.args.a c.in-Some.n) in
    let size =
    length-suppressed xs
    ∙ length-unzoned_across c.args.core.now c.args.a c.in-Some.n c.in-Some.ensures.in_core c.in-Some.ensures.places in
    subst P c.in-Some.ensures.value
    (across_outside c.args.core.now c.put_suppressed.new.core c.args.b c.in-Some.n
    (suppressed xs) c.put_suppressed.ensures.put size)

pub returns-clause-again : goal.returns-clause-again
returns-clause-again c =
    let P : Option ℕ
    → Type 0 =
    λ o. IfSome o (λ n. let read = chars_across c.put_suppressed.new.core c.args.b n in suppressed read
    ≡ read) in
    let b_in : c.args.b < length c.args.core.now = search rules in
    let b_places : c.in-Some.n ≤ c.args.b + 1 = search rules in
    let xs = units_unzoned (chars_across c.args.core.now c.args.a c.in-Some.n) in
    let size =
    length-suppressed xs
    ∙ length-unzoned_across c.args.core.now c.args.a c.in-Some.n c.in-Some.ensures.in_core c.in-Some.ensures.places in
    let read : chars_across c.put_suppressed.new.core c.args.b c.in-Some.n ≡ suppressed xs =
    across_again c.args.core.now c.put_suppressed.new.core c.args.b c.in-Some.n
    (suppressed xs) c.put_suppressed.ensures.put size b_in b_places in
    subst P c.in-Some.ensures.value (ap suppressed read ∙ suppressed_again xs ∙ sym read)
