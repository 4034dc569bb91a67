-- The first bit below is as near as the nearest place.
use Rattle.std.proofs.Common.{ℕ, List, arith, subst, inl, inr}
use Rattle.std.proofs.lemmas.Bool.{cases_lt, leb-true, le-leb}
use Rattle.core_1401.specs.MarkWords.{IsFirstMark}
use Rattle.core_1401.proofs.PlaceSetLemmas.{none_near, some_near}
use Rattle.core_1401.proofs.place_set.PlaceSet.has_none_of_many.Goals as goal

pub returns : goal.returns
returns c =
    let words : List ℕ = c.args.self.now in
    let at : ℕ = c.args.at in
    let first : ℕ = c.first_mark.result in
    let is : IsFirstMark words at first =
    subst (λ (p : ℕ). IsFirstMark words p first) c.from.ensures
    (subst (λ (ws : List ℕ). IsFirstMark ws c.from.result first) c.self.view_is c.first_mark.ensures.first) in (
      λ near. none_near words at first c.args.n is
          (omega (arith, leb-true c.from-2.result first near, c.from-2.ensures)),
      λ none. elim (cases_lt first c.from-2.result) [
        | inl lt ↦ absurd (some_near words at first c.args.n is (omega (arith, lt, c.from-2.ensures)) c.requires.n none)
        | inr le ↦ le-leb c.from-2.result first le
      ],
    )
