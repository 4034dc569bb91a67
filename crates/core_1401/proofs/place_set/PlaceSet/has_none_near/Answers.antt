-- The window has no bit.
use Rattle.std.proofs.Common.{ℕ, List, subst}
use Rattle.std.proofs.lemmas.Bool.{eqb-true}
use Rattle.core_1401.specs.MarkWords.{IsWindowDown}
use Rattle.core_1401.proofs.PlaceSetLemmas.{none_in_empty}
use Rattle.core_1401.proofs.place_set.PlaceSet.has_none_near.Goals as goal

pub returns : goal.returns
returns c = λ empty.
    let w : ℕ = c.window_down.result in
    none_in_empty c.args.self.now c.args.at w
    (subst (λ (p : ℕ). IsWindowDown c.args.self.now p w) c.from.ensures
    (subst (λ (ws : List ℕ). IsWindowDown ws c.from.result w) c.self.view_is c.window_down.ensures))
    (eqb-true w 0 empty)
