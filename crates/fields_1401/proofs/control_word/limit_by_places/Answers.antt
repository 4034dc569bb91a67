-- The first zero from the right is found, or there is none.
use Rattle.std.proofs.Common.{◌≡◌, ◌-◌, ◌==◌, get_or, ap, sym, ◌∙◌, inl, inr, arith}
use Rattle.std.specs.Prelude.{not}
use Rattle.std.proofs.lemmas.Bool.{cases_eq, eq-eqb, ne_eqb}
use Rattle.fields_1401.specs.Across.{chars_across}
use Rattle.fields_1401.specs.Suppress.{zero_char}
use Rattle.fields_1401.proofs.AcrossLemmas.{length-across}
use Rattle.fields_1401.proofs.EditLemmas.{limit_is}
use Rattle.fields_1401.proofs.control_word.limit_by_places.Goals as goal

pub returns-then-code-eq-ZERO : goal.returns-then-code-eq-ZERO
returns-then-code-eq-ZERO c =
    let word = chars_across c.args.core.now c.args.at c.args.n in
    let size = length-across c.args.core.now c.args.at c.args.n c.requires.at c.requires.n in
    let n = c.args.n in
    let i = c.loop-i.i in
    let here : get_or word (n - 1 - i) 0 ≡ zero_char = sym c.char_across.ensures ∙ sym c.code.ensures.value
    ∙ c.if-code-eq-ZERO.true in
    sym (limit_is word (n - i) (omega arith) (λ k le lt. c.loop-i.invariant k le (omega arith))
    (λ _. ap (λ k. not (get_or word k 0 == zero_char)) (omega arith)
    ∙ ap not (eq-eqb (get_or word (n - 1 - i) 0) zero_char here)))

pub loop-i-preserved : goal.loop-i-preserved
loop-i-preserved c = λ k le lt.
    let word = chars_across c.args.core.now c.args.at c.args.n in
    let n = c.args.n in
    let i = c.loop-i.i in
    elim (cases_eq k (n - 1 - i)) [
      | inl here ↦ ap (λ j. not (get_or word j 0 == zero_char)) here
          ∙ ap not (ne_eqb (get_or word (n - 1 - i) 0) zero_char (λ e. c.if-code-eq-ZERO.false (c.code.ensures.value
          ∙ c.char_across.ensures ∙ e)))
      | inr other ↦ c.loop-i.invariant k (omega arith) lt
    ]

pub returns : goal.returns
returns c =
    let word = chars_across c.args.core.now c.args.at c.args.n in
    let size = length-across c.args.core.now c.args.at c.args.n c.requires.at c.requires.n in
    sym (limit_is word 0 (omega arith) (λ k le lt. c.loop-i.invariant k (omega arith) (omega arith))
    (λ lt. absurd (omega arith)))
