-- The lowest bit is the first significant lane.
use Rattle.fields_1401.proofs.SixteenPlacesLemmas.{significant_bits, first_significant}
use Rattle.fields_1401.proofs.sixteen_places.count_insignificant.Goals as goal

pub returns-clause-first : goal.returns-clause-first
returns-clause-first c =
    first_significant c.args.taken _ c.args.n c.min.result c.requires.count c.requires.n
    (significant_bits c.args.taken c.without.result c.differing_bits.result c.args.n c.requires.count c.requires.n
    c.without.ensures c.differing_bits.ensures.bits) c.min.ensures
