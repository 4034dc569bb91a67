-- The bit of the place is set, and no other.
use Rattle.std.proofs.Common.{◌≡◌, ℕ, ◌+◌, ◌/◌, ◌<◌, ◌==◌, true, List, length, ap, ◌∙◌, arith}
use Rattle.core_1401.specs.PlaceSet.{has_place}
use Rattle.core_1401.proofs.HeldLemmas.{bit_there, other_bit}
use Rattle.core_1401.proofs.place_set.PlaceSet.insert.Goals as goal

pub returns-clause-there : goal.returns-clause-there
returns-clause-there c =
    let words : List ℕ = c.self.inside.words in
    let place : ℕ = c.from-place.result in
    let in_words : place / 64 + 1 < length words = omega (arith, c.from-place.ensures, c.requires, c.self.told) in
    let here : c.args.at ≡ place = omega (arith, c.from-place.ensures) in
    bit_there words place c.args.at c.with_bit.result true here in_words c.with_bit.ensures

pub returns-clause-others : goal.returns-clause-others
returns-clause-others c = λ q other.
    let words : List ℕ = c.self.inside.words in
    let place : ℕ = c.from-place.result in
    let in_words : place / 64 + 1 < length words = omega (arith, c.from-place.ensures, c.requires, c.self.told) in
    ap (λ (b : ℕ). b == 1) (other_bit words place q c.with_bit.result true in_words c.with_bit.ensures
    (λ e. other (e ∙ c.from-place.ensures)))
    ∙ ap (λ (l : List ℕ). has_place l q) c.self.view_is
