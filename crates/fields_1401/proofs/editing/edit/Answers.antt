-- The places written are those of the B field.
use Rattle.std.proofs.Common.{◌≡◌, ℕ, List, Option, IfSome, length, ap, sym, ◌∙◌, ◌≤◌, subst, arith}
use Rattle.fields_1401.specs.Across.{chars_across, units_unzoned, IsUnmarked, IsSameOutside, IsSameBeside}
use Rattle.fields_1401.specs.Edit.{sign_at, IsPlain, ShowsWithBlanks}
use Rattle.fields_1401.specs.Outcome.{below_by}
use Rattle.fields_1401.specs.declared.done.Done.{Done}
use Rattle.fields_1401.proofs.AcrossLemmas.{length-across, length-unzoned_across, same_beside}
use Rattle.fields_1401.proofs.EditLemmas.{edited_put}
use Rattle.fields_1401.proofs.PlainLemmas.{plain_shows}
use Rattle.fields_1401.proofs.editing.edit.Goals as goal

pub returns-clause-marks : goal.returns-clause-marks
returns-clause-marks c =
    let old = c.args.core.now in
    let new = c.put_edited.new.core in
    let o = c.in_ok-word.word in
    let at_b = c.in_ok-word.ensures.at_b in
    let put = edited_put old new o.a o.b o.taken o.len c.put_edited.ensures.put (omega (arith, at_b)) o.b_above in
    let unmarked = subst (λ (b : ℕ). IsUnmarked new b o.len) at_b.0 put.unmarked in
    subst (λ (n : Option ℕ). IfSome n (λ k. IsUnmarked new c.args.b k)) (sym c.in_ok-word.ensures.field) unmarked

pub returns-clause-outside : goal.returns-clause-outside
returns-clause-outside c =
    let old = c.args.core.now in
    let new = c.put_edited.new.core in
    let o = c.in_ok-word.word in
    let at_b = c.in_ok-word.ensures.at_b in
    let put = edited_put old new o.a o.b o.taken o.len c.put_edited.ensures.put (omega (arith, at_b)) o.b_above in
    let outside = subst (λ (b : ℕ). IsSameOutside old new b o.len) at_b.0 put.outside in
    subst (λ (n : Option ℕ). IfSome n (λ k. IsSameOutside old new c.args.b k)) (sym c.in_ok-word.ensures.field) outside

pub returns-clause-beside : goal.returns-clause-beside
returns-clause-beside c =
    let old = c.args.core.now in
    let new = c.put_edited.new.core in
    let o = c.in_ok-word.word in
    let at_b = c.in_ok-word.ensures.at_b in
    let put = edited_put old new o.a o.b o.taken o.len c.put_edited.ensures.put (omega (arith, at_b)) o.b_above in
    let outside = subst (λ (b : ℕ). IsSameOutside old new b o.len) at_b.0 put.outside in
    let is : below_by c.args.b o.len ≡ c.registers.result.b =
    sym (ap (λ (done : Done). done.b) c.registers.ensures ∙ c.below_field-2.ensures.value) in
    subst (λ below. IsSameBeside old new c.args.b below) is
    (same_beside old new c.args.b o.len outside o.some (omega (arith, o.b_above, at_b.0)) c.requires.b)

-- a control word of blanks and zeros
pub returns-clause-plain : goal.returns-clause-plain
returns-clause-plain c =
    let old = c.args.core.now in
    let new = c.put_edited.new.core in
    let o = c.in_ok-word.word in
    let at_b = c.in_ok-word.ensures.at_b in
    let put = edited_put old new o.a o.b o.taken o.len c.put_edited.ensures.put (omega (arith, at_b)) o.b_above in
    let at_a = c.in_ok-word.ensures.at_a in
    let control = chars_across old o.b o.len in
    let digits = units_unzoned (chars_across old o.a o.taken) in
    let control_size = length-across old o.b o.len (omega (arith, at_b)) o.b_above in
    let digits_size = length-unzoned_across old o.a o.taken (omega (arith, at_a)) o.a_above in
    let fewer : length digits ≤ length control = omega (arith, digits_size, control_size, o.fewer, o.within) in
    let shows : IsPlain control → ShowsWithBlanks (chars_across new o.b o.len) digits =
    λ plain. subst (λ (cs : List ℕ). ShowsWithBlanks cs digits) (sym put.read)
    (plain_shows control digits (sign_at old o.a) plain fewer) in
    let at_b_shows =
    subst (λ (b : ℕ). IsPlain (chars_across old b o.len)
    → ShowsWithBlanks (chars_across new b o.len) digits) at_b.0 shows in
    let at_a_shows =
    subst (λ (a : ℕ). IsPlain (chars_across old c.args.b o.len)
    → ShowsWithBlanks (chars_across new c.args.b o.len)
    (units_unzoned (chars_across old a o.taken))) at_a.0 at_b_shows in
    let P : Option (ℕ × ℕ) → Type 0 =
    λ found. IfSome found (λ taken. IsPlain (chars_across old c.args.b taken.1)
    → ShowsWithBlanks (chars_across new c.args.b taken.1) (units_unzoned (chars_across old c.args.a taken.0))) in
    subst P (sym c.in_ok-word.ensures.taken) at_a_shows
