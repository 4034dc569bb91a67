-- Each lane is chosen by its count.
use Rattle.std.proofs.Common.{ltb}
use Rattle.fields_1401.proofs.SixteenPlacesLemmas.{length-chosen, chosen_lane}
use Rattle.fields_1401.proofs.sixteen_places.where_below.Goals as goal

pub returns-clause-count : goal.returns-clause-count
returns-clause-count c =
    length-chosen ltb c.args.counts c.args.limit c.args.these c.args.others c.requires.counts c.requires.these
    c.requires.others

pub returns-clause-lanes : goal.returns-clause-lanes
returns-clause-lanes c = λ i within.
    chosen_lane ltb c.args.counts c.args.limit c.args.these c.args.others i c.requires.counts c.requires.these
    c.requires.others within
