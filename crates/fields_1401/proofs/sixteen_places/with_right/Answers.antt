-- A lane of a sum is the sum of both lanes.
use Rattle.std.proofs.Common.{get_or, ap, sym, ◌∙◌, arith}
use Rattle.std.proofs.lemmas.Simd.{length-zip2, get_or-zip2}
use Rattle.fields_1401.proofs.SixteenLemmas.{plus}
use Rattle.fields_1401.proofs.sixteen_places.with_right.Goals as goal

pub returns-clause-count : goal.returns-clause-count
returns-clause-count c =
    length-zip2 plus c.args.counts c.from_right.result (c.requires.count ∙ sym c.from_right.ensures.count)
    ∙ c.requires.count

pub returns-clause-sums : goal.returns-clause-sums
returns-clause-sums c = λ i within.
    get_or-zip2 plus c.args.counts c.from_right.result i 0 0 0 (omega (arith, c.requires.count, within))
    (omega (arith, c.from_right.ensures.count, within))
    ∙ ap (plus (get_or c.args.counts i 0)) (c.from_right.ensures.lanes i within)
