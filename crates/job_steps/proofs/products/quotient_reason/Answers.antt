-- The lengths of divisor and dividend are there, so the divisor's digits and the places of rest and quotient decide.
use Rattle.std.proofs.Common.{◌∙◌, ◌+◌, ◌-◌, sym, arith}
use Rattle.job_steps.proofs.ProductReasonLemmas.{no_quotient_places, quotient_overlaps, terms_are, zero_divides}
use Rattle.job_steps.proofs.products.quotient_reason.Goals as goal

pub returns-then-figures-eq0-clause-stop : goal.returns-then-figures-eq0-clause-stop
returns-then-figures-eq0-clause-stop c =
    let s = c.args.core.now in
    let len = c.in-Ok.len in
    let dividend = c.in-Some.dividend_len in
    zero_divides s c.args.a c.args.b len dividend
    (terms_are s c.args.a c.args.b len dividend c.in-Ok.ensures.value c.in-Some.ensures.value)
    (sym c.count_figures-figures.ensures.value ∙ c.if-figures-eq0.true)

pub returns-then-e-needed-clause-stop : goal.returns-then-e-needed-clause-stop
returns-then-e-needed-clause-stop c =
    let s = c.args.core.now in
    let len = c.in-Ok.len in
    let dividend = c.in-Some.dividend_len in
    let figures = c.count_figures-figures.result in
    let some = c.in-Some.ensures.some in
    let few = c.if-e-needed.true in
    no_quotient_places s c.args.a c.args.b len dividend figures (c.args.b + (dividend - 1)) c.quotient_len.result
    (terms_are s c.args.a c.args.b len dividend c.in-Ok.ensures.value c.in-Some.ensures.value)
    c.count_figures-figures.ensures.value (omega (arith, c.if-figures-eq0.false)) c.quotient_len.ensures.value
    (omega (arith, some)) (omega (arith, few))

pub returns-then-share_place-clause-stop : goal.returns-then-share_place-clause-stop
returns-then-share_place-clause-stop c =
    let s = c.args.core.now in
    let len = c.in-Ok.len in
    let dividend = c.in-Some.dividend_len in
    let figures = c.count_figures-figures.result in
    let some = c.in-Some.ensures.some in
    let places = c.if-e-needed.false in
    quotient_overlaps s c.args.a c.args.b len dividend figures (c.args.b + (dividend - 1)) c.quotient_len.result
    (terms_are s c.args.a c.args.b len dividend c.in-Ok.ensures.value c.in-Some.ensures.value)
    c.count_figures-figures.ensures.value (omega (arith, c.if-figures-eq0.false)) c.quotient_len.ensures.value
    (omega (arith, some)) (omega (arith, places)) (sym c.share_place.ensures.value ∙ c.if-share_place.true)
