-- A lane is chosen where there is a blank, and else where there is a zero.
use Rattle.std.proofs.Common.{◌≡◌, ℕ, nat_eq, cond, List, ap, get_or, length, ◌∙◌}
use Rattle.fields_1401.proofs.SixteenPlacesLemmas.{chosen, length-chosen, chosen_lane, either}
use Rattle.fields_1401.proofs.sixteen_places.where_replaceable.Goals as goal

pub returns-clause-count : goal.returns-clause-count
returns-clause-count c =
    length-chosen nat_eq c.args.control 0 c.args.these (chosen nat_eq c.args.control 10 c.args.these c.args.others)
    c.requires.control c.requires.these
    (length-chosen nat_eq c.args.control 10 c.args.these c.args.others c.requires.control c.requires.these
    c.requires.others)

pub returns-clause-lanes : goal.returns-clause-lanes
returns-clause-lanes c = λ i within.
    let zeros : List ℕ = chosen nat_eq c.args.control 10 c.args.these c.args.others in
    let char : ℕ = get_or c.args.control i 0 in
    let this : ℕ = get_or c.args.these i 0 in
    let long : length zeros ≡ 16 =
    length-chosen nat_eq c.args.control 10 c.args.these c.args.others c.requires.control c.requires.these
    c.requires.others in
    chosen_lane nat_eq c.args.control 0 c.args.these zeros i c.requires.control c.requires.these long within
    ∙ ap (λ (other : ℕ). cond (nat_eq char 0) this other)
    (chosen_lane nat_eq c.args.control 10 c.args.these c.args.others i c.requires.control c.requires.these
    c.requires.others within)
    ∙ either char this (get_or c.args.others i 0)
