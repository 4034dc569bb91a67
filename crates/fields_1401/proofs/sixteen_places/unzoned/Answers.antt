-- Each lane has the bits that it is to have.
use Rattle.std.proofs.Common.{◌<◌, bit_and, get_or, ◌∙◌, arith}
use Rattle.std.proofs.lemmas.Simd.{length-zip2, get_or-zip2, Each1-get_or}
use Rattle.fields_1401.specs.declared.sixteen_places.TheConstants.{UNZONED}
use Rattle.fields_1401.proofs.SixteenPlacesLemmas.{unzoned_lane}
use Rattle.fields_1401.proofs.sixteen_places.unzoned.Goals as goal

pub returns-clause-count : goal.returns-clause-count
returns-clause-count c = length-zip2 bit_and c.args.codes UNZONED c.requires.count ∙ c.requires.count

pub returns-clause-codes : goal.returns-clause-codes
returns-clause-codes c = λ i within.
    get_or-zip2 bit_and c.args.codes UNZONED i 0 0 0 (omega (arith, c.requires.count, within)) within
    ∙ unzoned_lane (get_or c.args.codes i 0) i within
    (Each1-get_or (λ code. code < 64) c.args.codes i 0 (omega (arith, c.requires.count, within)) c.requires.range)
