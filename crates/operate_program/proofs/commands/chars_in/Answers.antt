-- A character more, or a byte that is no graphic.
use Rattle.std.proofs.Common.{ℕ, List, ◌++◌, ◌+◌, ◌∙◌, ap, sym, drop, option_map}
use Rattle.operate_program.specs.Act.{chars_in}
use Rattle.operate_program.proofs.ActLemmas.{chars_missed, chars_more}
use Rattle.operate_program.proofs.commands.chars_in.Goals as goal

pub returns-in-None : goal.returns-in-None
returns-in-None c =
    let text : List ℕ = c.args.text.now in
    let i = c.loop-graphic.graphic-index in
    chars_missed text c.loop-graphic.chars.items i c.loop-graphic-test.true (sym c.from_graphic.ensures ∙ c.in-None.is)
    c.loop-graphic.invariant

pub loop-graphic-preserved : goal.loop-graphic-preserved
loop-graphic-preserved c =
    let text : List ℕ = c.args.text.now in
    let i = c.loop-graphic.graphic-index in
    ap (λ (items : List ℕ). option_map (λ (more : List ℕ). items ++ more) (chars_in (drop (i + 1) text)))
    c.in_ok-push-in-Some.ensures.items
    ∙ chars_more text c.loop-graphic.chars.items i c.in-Some.char c.loop-graphic-test.true
    (sym c.from_graphic.ensures ∙ c.in-Some.is)
    ∙ c.loop-graphic.invariant
