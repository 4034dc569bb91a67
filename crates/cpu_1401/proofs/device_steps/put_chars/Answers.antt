-- All characters are put.
use Rattle.std.proofs.Common.{◌+◌, ◌∙◌, ap, arith}
use Rattle.core_1401.specs.Storage.{Storage, cell_at}
use Rattle.cpu_1401.proofs.AreaLemmas.{all_put, below_stays, char_put, marks_stay}
use Rattle.cpu_1401.proofs.DecodeCacheLemmas.{same_marks}
use Rattle.cpu_1401.proofs.device_steps.put_chars.Goals as goal

pub returns-clause-each : goal.returns-clause-each
returns-clause-each c =
    let all =
    all_put c.args.core.now c.loop-i.core c.args.at c.loop-i.i c.args.chars.now (omega arith)
    c.loop-i.invariant.whole in
    λ i within. ap (λ (s : Storage). (cell_at s (c.args.at + i)).char) all
    ∙ char_put c.args.core.now c.args.at c.args.chars.now i c.requires.inside within

pub returns-clause-below : goal.returns-clause-below
returns-clause-below c =
    let all =
    all_put c.args.core.now c.loop-i.core c.args.at c.loop-i.i c.args.chars.now (omega arith)
    c.loop-i.invariant.whole in
    λ k below. ap (λ (s : Storage). cell_at s k) all ∙ below_stays c.args.core.now c.args.at c.args.chars.now k below

pub returns-clause-marks : goal.returns-clause-marks
returns-clause-marks c =
    let all =
    all_put c.args.core.now c.loop-i.core c.args.at c.loop-i.i c.args.chars.now (omega arith)
    c.loop-i.invariant.whole in
    λ k. ap (λ (s : Storage). (cell_at s k).mark) all
    ∙ marks_stay c.args.core.now c.args.at c.args.chars.now k c.requires.inside

pub returns-clause-all_marks : goal.returns-clause-all_marks
returns-clause-all_marks c =
    let all =
    all_put c.args.core.now c.loop-i.core c.args.at c.loop-i.i c.args.chars.now (omega arith)
    c.loop-i.invariant.whole in
    same_marks c.args.core.now c.loop-i.core c.loop-i.invariant.size
    (λ k. ap (λ (s : Storage). (cell_at s k).mark) all
    ∙ marks_stay c.args.core.now c.args.at c.args.chars.now k c.requires.inside)
