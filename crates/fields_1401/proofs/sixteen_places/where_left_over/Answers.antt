-- A place is left over if there were too few characters, and as many as there were are right of it.
use Rattle.std.proofs.Common.{ℕ, List, ap, get_or, ◌∙◌}
use Rattle.fields_1401.proofs.SixteenPlacesLemmas.{left_over_lane, none_left_over}
use Rattle.fields_1401.proofs.sixteen_places.where_left_over.Goals as goal
use Rattle.fields_1401.proofs.sixteen_places.where_left_over.Goals.{then-rules, else-rules}

pub returns-clause-lanes : goal.returns-clause-lanes
returns-clause-lanes c = λ i within.
    let this : ℕ = get_or c.args.these i 0 in
    let other : ℕ = get_or c.args.others i 0 in
    elim c.if-rules.branch [
      | then-rules w ↦
          ap (λ (l : List ℕ). get_or l i 0) w.result-is ∙ w.where_below.ensures.lanes i within
          ∙ left_over_lane c.args.rules (get_or c.args.beyond i 0) this other w.if-rules.true
      | else-rules w ↦
          ap (λ (l : List ℕ). get_or l i 0) w.result-is
          ∙ none_left_over c.args.rules (get_or c.args.beyond i 0) this other w.if-rules.false
    ]
