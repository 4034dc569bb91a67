-- The marks of the places are cleared, and nothing else.
use Rattle.std.proofs.Common.{◌≡◌, ℕ, ◌+◌, ◌-◌, List, arith, ap, refl, sym, ◌∙◌, length}
use Rattle.core_1401.specs.Places.{with_cells, unmarked_place}
use Rattle.core_1401.specs.Storage.{Storage}
use Rattle.core_1401.proofs.HeldLemmas.{length_held}
use Rattle.core_1401.proofs.PlacesLemmas.{held-unmarked, whole-cleared}
use Rattle.core_1401.proofs.SizeLemmas.{held_size, place_small}
use Rattle.core_1401.proofs.storage.Core.clear_marks.Goals as goal

pub returns-clause-value : goal.returns-clause-value
returns-clause-value c =
    let chars : List ℕ = c.self.inside.chars.items in
    let words : List ℕ = c.self.inside.words in
    let at : ℕ = c.from-high.result in
    let n : ℕ = c.from.result in
    let size : length chars ≡ length c.args.self.now = sym (length_held chars words) ∙ ap length c.self.view_is in
    held-unmarked chars words c.clear_marks.new.words at n (omega (arith, size, c.from-high.ensures, c.requires.at))
    c.clear_marks.ensures
    ∙ ap (λ (s : Storage). with_cells s at n (unmarked_place s at)) c.self.view_is
    ∙ ap (λ (p : ℕ). with_cells c.args.self.now p n (unmarked_place c.args.self.now p)) c.from-high.ensures
    ∙ ap (λ (m : ℕ). with_cells c.args.self.now c.args.at m (unmarked_place c.args.self.now c.args.at)) c.from.ensures

pub returns-clause-size : goal.returns-clause-size
returns-clause-size c =
    let chars : List ℕ = c.self.inside.chars.items in
    length_held chars c.clear_marks.new.words ∙ sym (length_held chars c.self.inside.words) ∙ ap length c.self.view_is

pub clear_marks-requires-clause-within : goal.clear_marks-requires-clause-within
clear_marks-requires-clause-within c = omega (
  arith,
  place_small c.self.inside.chars.items c.self.inside.words c.args.self.now c.args.at c.from-high.result c.self.view_is
      c.self.invariant.size c.from-high.ensures c.requires.at,
  c.self.told,
)

pub invariant_of-self : goal.invariant_of-self
invariant_of-self c =
    let chars : List ℕ = c.self.inside.chars.items in
    let words : List ℕ = c.self.inside.words in
    let size : length chars ≡ length c.args.self.now = held_size chars words c.args.self.now c.self.view_is in
    whole-cleared chars words chars c.clear_marks.new.words (c.from-high.result + 1 - c.from.result) c.from-high.result
    refl (omega (arith, size, c.from-high.ensures, c.requires.at)) c.clear_marks.ensures c.self.invariant
