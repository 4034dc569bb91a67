-- Blanks without word marks are written, and nothing else.
use Rattle.std.proofs.Common.{◌≡◌, ℕ, ◌+◌, ◌-◌, List, arith, ap, sym, ◌∙◌, length}
use Rattle.std.proofs.lemmas.List.{with_items_is}
use Rattle.std.specs.Vec.{with_items}
use Rattle.core_1401.specs.MarkWords.{held}
use Rattle.core_1401.specs.Places.{with_cells}
use Rattle.core_1401.specs.Storage.{Storage, blank}
use Rattle.core_1401.proofs.HeldLemmas.{length_held}
use Rattle.core_1401.proofs.PlacesLemmas.{AreBlanks, held-cleared, whole-cleared}
use Rattle.core_1401.proofs.SizeLemmas.{held_size, place_small}
use Rattle.core_1401.proofs.storage.Core.clear.Goals as goal

pub returns-clause-value : goal.returns-clause-value
returns-clause-value c =
    let old : List ℕ = c.deref_mut.result.now in
    let new : List ℕ = c.put_blanks.new.chars in
    let words : List ℕ = c.self.inside.words in
    let marks : List ℕ = c.clear_marks.new.words in
    let at : ℕ = c.from-high.result in
    let n : ℕ = c.from.result in
    let blanks : AreBlanks old new (at + 1 - n) (at + 1) = record {
      count = c.put_blanks.ensures.count;
      inside = c.put_blanks.ensures.inside;
      below = c.put_blanks.ensures.below;
      above = c.put_blanks.ensures.above;
    } in
    let size : length old ≡ length c.args.self.now = ap length c.deref_mut.ensures.value
    ∙ sym (length_held c.self.inside.chars.items words) ∙ ap length c.self.view_is in
    ap (λ (l : List ℕ). held l marks) (with_items_is c.self.inside.chars new
    (c.put_blanks.ensures.count ∙ c.deref_mut.ensures.len))
    ∙ held-cleared old words new marks at n (omega (arith, size, c.from-high.ensures, c.requires.at))
    (omega (arith, c.from-high.ensures, c.from.ensures, c.requires.places)) blanks c.clear_marks.ensures
    ∙ ap (λ (l : List ℕ). with_cells (held l words) at n (λ i. blank)) c.deref_mut.ensures.value
    ∙ ap (λ (s : Storage). with_cells s at n (λ i. blank)) c.self.view_is
    ∙ ap (λ (p : ℕ). with_cells c.args.self.now p n (λ i. blank)) c.from-high.ensures
    ∙ ap (λ (m : ℕ). with_cells c.args.self.now c.args.at m (λ i. blank)) c.from.ensures

pub returns-clause-size : goal.returns-clause-size
returns-clause-size c =
    let new : List ℕ = c.put_blanks.new.chars in
    let words : List ℕ = c.self.inside.words in
    let marks : List ℕ = c.clear_marks.new.words in
    ap (λ (l : List ℕ). length (held l marks))
    (with_items_is c.self.inside.chars new (c.put_blanks.ensures.count ∙ c.deref_mut.ensures.len))
    ∙ length_held new marks
    ∙ c.put_blanks.ensures.count
    ∙ ap length c.deref_mut.ensures.value
    ∙ sym (length_held c.self.inside.chars.items words)
    ∙ ap length c.self.view_is

pub put_blanks-requires-clause-within : goal.put_blanks-requires-clause-within
put_blanks-requires-clause-within c = omega (
  arith,
  ap length c.deref_mut.ensures.value,
  held_size c.self.inside.chars.items c.self.inside.words c.args.self.now c.self.view_is,
  c.from-high.ensures,
  c.requires.at,
)

pub clear_marks-requires-clause-within : goal.clear_marks-requires-clause-within
clear_marks-requires-clause-within c = omega (
  arith,
  place_small c.self.inside.chars.items c.self.inside.words c.args.self.now c.args.at c.from-high.result c.self.view_is
      c.self.invariant.size c.from-high.ensures c.requires.at,
  c.self.told,
)

pub invariant_of-self : goal.invariant_of-self
invariant_of-self c =
    let chars : List ℕ = c.self.inside.chars.items in
    let words : List ℕ = c.self.inside.words in
    let new : List ℕ = (with_items c.self.inside.chars c.put_blanks.new.chars).items in
    let long : length new ≡ length chars =
    ap length (with_items_is c.self.inside.chars c.put_blanks.new.chars
    (c.put_blanks.ensures.count ∙ c.deref_mut.ensures.len)) ∙ c.put_blanks.ensures.count
    ∙ ap length c.deref_mut.ensures.value in
    let size : length chars ≡ length c.args.self.now = held_size chars words c.args.self.now c.self.view_is in
    whole-cleared chars words new c.clear_marks.new.words (c.from-high.result + 1 - c.from.result) c.from-high.result
    long (omega (arith, size, c.from-high.ensures, c.requires.at)) c.clear_marks.ensures c.self.invariant
