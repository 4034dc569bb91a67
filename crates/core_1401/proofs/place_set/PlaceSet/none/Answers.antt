-- No word has a bit.
use Rattle.core_1401.proofs.PlaceSetLemmas.{none_there}
use Rattle.core_1401.proofs.place_set.PlaceSet.none.Goals as goal

pub returns : goal.returns
returns c = λ at. none_there c.no_marks.result at c.no_marks.ensures
