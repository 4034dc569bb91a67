-- Each step puts one place more.
use Rattle.std.proofs.Common.{◌≡◌, ℕ, ◌+◌, ◌-◌, ◌⊎◌, List, Option, Some, None, true, false, set}
use Rattle.std.proofs.Common.{ap, sym, subst, ◌∙◌, inl, inr, arith, refl}
use Rattle.std.specs.Prelude.{not, slice_index}
use Rattle.std.proofs.lemmas.Grind.{get_or_default_zero}
use Rattle.bcd_1401.specs.Character.{with_zone_of}
use Rattle.bcd_1401.specs.declared.cell.Cell.{Cell}
use Rattle.fields_1401.specs.Across.{chars_across, units_unzoned}
use Rattle.fields_1401.specs.Edit.{is_replaceable, is_significant, shown, taken_down, unsuppressed_place}
use Rattle.fields_1401.proofs.AcrossLemmas.{length-across}
use Rattle.fields_1401.proofs.EditLemmas.{before_significant_is}
use Rattle.fields_1401.specs.Across.{unzoned_down}
use Rattle.fields_1401.specs.Suppress.{blank_char}
use Rattle.fields_1401.proofs.EditPassLemmas.{ArePut, put_none, put_more, one_taken, none_left, none_taken, blank_left}
use Rattle.fields_1401.proofs.EditPassLemmas.{significant_is, taken_plain, units_kept}
use Rattle.fields_1401.proofs.LendingLemmas.{length-with_all_chars}
use Rattle.fields_1401.proofs.editing.put_by_places.Goals as goal
use Rattle.fields_1401.proofs.editing.put_by_places.Goals.{then-not-is_replaceable}
use Rattle.fields_1401.proofs.editing.put_by_places.Goals.{else-not-is_replaceable+then-beyond-rules}
use Rattle.fields_1401.proofs.editing.put_by_places.Goals.{else-not-is_replaceable+else-beyond-rules}
use Rattle.fields_1401.proofs.editing.put_by_places.Goals.{then-not-is_replaceable-2, else-not-is_replaceable-2}

pub loop-i-init : goal.loop-i-init
loop-i-init c =
    let o = c.args.word in
    let s = c.args.core.now in
    subst (λ (n : ℕ). ArePut s c.chars_mut-chars.result.now o.a o.taken o.b o.len 0 0 n) (sym c.from-len.ensures)
    (put_none s c.chars_mut-chars.result.now o.a o.taken o.b o.len c.requires.b o.b_above
    c.chars_mut-chars.ensures.value)

pub char_of_a-char-requires-clause-units : goal.char_of_a-char-requires-clause-units
char_of_a-char-requires-clause-units c =
    let s = c.args.core.now in
    let o = c.args.word in
    c.with_zone-units_of_a.ensures
    ∙ ap (λ (char : ℕ). with_zone_of char 0)
    (ap (λ (cell : Cell). cell.char) c.get.ensures
    ∙ units_kept s c.loop-i.chars o.a o.taken o.b o.len c.loop-i.i c.loop-i.beyond c.loop-i.significant c.requires.a
    o.a_above o.apart (omega arith) (omega (arith, c.if-beyond-rules.true, c.requires.taken)) c.loop-i.invariant
    ∙ ap (λ (a : ℕ). slice_index c.loop-i.chars a) (sym c.from.ensures))

pub loop-i-preserved : goal.loop-i-preserved
loop-i-preserved c =
    let s = c.args.core.now in
    let o = c.args.word in
    let i = c.loop-i.i in
    let place : ℕ = c.from-units.result - i in
    let own = c.index-chars-units.result in
    let read : own ≡ slice_index c.loop-i.chars place =
    c.index-chars-units.is ∙ get_or_default_zero c.loop-i.chars place own
    (omega (arith, c.from-units.ensures, c.loop-i.invariant.size, c.requires.b)) in
    let more : (after : List ℕ) (from next char : ℕ) (taken : Option ℕ)
    → taken ≡ taken_down c.loop-i.chars o.a o.taken own c.loop-i.beyond
    → char ≡ shown c.args.rules (unsuppressed_place own c.loop-i.beyond) taken
    → after ≡ set c.loop-i.chars place char
    → ((is_replaceable own ≡ true) × (from ≡ c.loop-i.beyond + 1))
    ⊎ ((is_replaceable own ≡ false) × (from ≡ c.loop-i.beyond))
    → ((is_significant taken ≡ true) × (next ≡ o.len - 1 - i))
    ⊎ ((is_significant taken ≡ false) × (next ≡ c.loop-i.significant))
    → ArePut s after o.a o.taken o.b o.len (i + 1) from next =
    λ after from next char taken takes shows made counts tells.
    put_more s c.loop-i.chars after o.a o.taken o.b o.len i place c.loop-i.beyond from c.loop-i.significant next own char
    c.args.rules taken c.requires.a o.a_above c.requires.b o.b_above o.apart (omega arith)
    (omega (arith, c.from-units.ensures)) c.requires.taken c.requires.sign c.requires.replaceable read takes shows made
    counts tells c.loop-i.invariant in
    elim c.if-not-is_replaceable.branch [
      | then-not-is_replaceable w ↦
          let no : is_replaceable own ≡ false = sym c.is_replaceable.ensures ∙ w.if-not-is_replaceable.true in
          more c.if-not-is_replaceable.chars c.if-not-is_replaceable.beyond c.if-not-is_replaceable.significant
          w.kept_char.result None (none_taken c.loop-i.chars o.a o.taken own c.loop-i.beyond no)
          w.kept_char.ensures w.chars-is
          (inr (no, w.beyond-is)) (inr (refl, w.significant-is))
      | else-not-is_replaceable+then-beyond-rules w ↦
          let yes : is_replaceable own ≡ true = sym c.is_replaceable.ensures ∙ w.if-not-is_replaceable.false in
          let char = w.char_of_a-char.result in
          let here : char ≡ unzoned_down c.loop-i.chars o.a c.loop-i.beyond =
          w.char_of_a-char.ensures
          ∙ ap (λ (a : ℕ). unzoned_down c.loop-i.chars a c.loop-i.beyond) w.from.ensures in
          more c.if-not-is_replaceable.chars c.if-not-is_replaceable.beyond c.if-not-is_replaceable.significant
          char (Some char)
          (ap (λ (n : ℕ). Some n) here
          ∙ one_taken c.loop-i.chars o.a o.taken own c.loop-i.beyond yes
          (omega (arith, w.if-beyond-rules.true, c.requires.taken)))
          (sym (taken_plain char)) w.chars-is
          (inl (yes, w.beyond-is))
          (elim w.if-not-is_replaceable-2.branch [
            | then-not-is_replaceable-2 v ↦ inl (
              significant_is char
                  ∙ ap not (sym w.is_replaceable-then-beyond-rules.ensures ∙ v.if-not-is_replaceable-2.true),
              w.significant-is ∙ v.significant-is ∙ omega (arith, c.from-len.ensures),
            )
            | else-not-is_replaceable-2 v ↦ inr (
              significant_is char
                  ∙ ap not (sym w.is_replaceable-then-beyond-rules.ensures ∙ v.if-not-is_replaceable-2.false),
              w.significant-is ∙ v.significant-is,
            )
          ])
      | else-not-is_replaceable+else-beyond-rules w ↦
          let yes : is_replaceable own ≡ true = sym c.is_replaceable.ensures ∙ w.if-not-is_replaceable.false in
          more c.if-not-is_replaceable.chars c.if-not-is_replaceable.beyond c.if-not-is_replaceable.significant
          blank_char None
          (none_left c.loop-i.chars o.a o.taken own c.loop-i.beyond yes
          (omega (arith, w.if-beyond-rules.false, c.requires.taken)))
          (blank_left c.args.rules own c.loop-i.beyond yes)
          w.chars-is
          (inl (yes, w.beyond-is)) (inr (refl, w.significant-is))
    ]

pub returns-clause-significant : goal.returns-clause-significant
returns-clause-significant c =
    let s = c.args.core.now in
    let o = c.args.word in
    let size = length-across s o.b o.len c.requires.b o.b_above in
    let before = c.loop-i.invariant in
    sym (before_significant_is (chars_across s o.b o.len) (units_unzoned (chars_across s o.a o.taken))
    c.loop-i.significant (omega (arith, before.most)) (λ k lt. before.none k (omega arith) lt)
    (λ lt. before.here (omega (arith, lt))))

pub returns-clause-size : goal.returns-clause-size
returns-clause-size c = length-with_all_chars c.args.core.now c.loop-i.chars
