-- The characters that are copied are written, and nothing else.
use Rattle.std.proofs.Common.{◌≡◌, ℕ, ◌-◌, List, arith, ap, sym, ◌∙◌, length}
use Rattle.std.proofs.lemmas.List.{with_items_is}
use Rattle.core_1401.specs.MarkWords.{held}
use Rattle.core_1401.specs.Places.{with_chars}
use Rattle.core_1401.specs.Storage.{Storage, cell_at}
use Rattle.core_1401.proofs.HeldLemmas.{length_held}
use Rattle.core_1401.proofs.PlacesLemmas.{AreCopied, held-copied}
use Rattle.core_1401.proofs.SizeLemmas.{held_size}
use Rattle.core_1401.proofs.storage.Core.copy_chars.Goals as goal

pub returns : goal.returns
returns c =
    let storage : Storage = c.args.self.now in
    let old : List ℕ = c.deref_mut.result.now in
    let new : List ℕ = c.copy_down.new.chars in
    let words : List ℕ = c.self.inside.words in
    let a : ℕ = c.from.result in
    let b : ℕ = c.from-2.result in
    let n : ℕ = c.from-3.result in
    let copy : AreCopied old new a b n = record {
      count = c.copy_down.ensures.count;
      copied = c.copy_down.ensures.copied;
      above = c.copy_down.ensures.above;
      below = c.copy_down.ensures.below;
    } in
    let size : length old ≡ length storage = ap length c.deref_mut.ensures.value
    ∙ sym (length_held c.self.inside.chars.items words) ∙ ap length c.self.view_is in
    ap (λ (l : List ℕ). held l words) (with_items_is c.self.inside.chars new
    (c.copy_down.ensures.count ∙ c.deref_mut.ensures.len))
    ∙ held-copied old new words a b n copy (omega (arith, size, c.from.ensures, c.requires.a_in))
    (omega (arith, size, c.from-2.ensures, c.requires.b_in))
    ∙ ap (λ (l : List ℕ). with_chars (held l words) b n (λ i. (cell_at (held l words)
    (a - i)).char)) c.deref_mut.ensures.value
    ∙ ap (λ (s : Storage). with_chars s b n (λ i. (cell_at s (a - i)).char)) c.self.view_is
    ∙ ap (λ (p : ℕ). with_chars storage b n (λ i. (cell_at storage (p - i)).char)) c.from.ensures
    ∙ ap (λ (p : ℕ). with_chars storage p n (λ i. (cell_at storage (c.args.a - i)).char)) c.from-2.ensures
    ∙ ap (λ (m : ℕ). with_chars storage c.args.b m (λ i. (cell_at storage (c.args.a - i)).char)) c.from-3.ensures

pub copy_down-requires-clause-a_in : goal.copy_down-requires-clause-a_in
copy_down-requires-clause-a_in c = omega (
  arith,
  ap length c.deref_mut.ensures.value,
  held_size c.self.inside.chars.items c.self.inside.words c.args.self.now c.self.view_is,
  c.from.ensures,
  c.requires.a_in,
)

pub copy_down-requires-clause-b_in : goal.copy_down-requires-clause-b_in
copy_down-requires-clause-b_in c = omega (
  arith,
  ap length c.deref_mut.ensures.value,
  held_size c.self.inside.chars.items c.self.inside.words c.args.self.now c.self.view_is,
  c.from-2.ensures,
  c.requires.b_in,
)

pub copy_down-requires-clause-a_places : goal.copy_down-requires-clause-a_places
copy_down-requires-clause-a_places c = omega (
  arith,
  c.from.ensures,
  c.from-3.ensures,
  c.requires.a_places,
)

pub copy_down-requires-clause-b_places : goal.copy_down-requires-clause-b_places
copy_down-requires-clause-b_places c = omega (
  arith,
  c.from-2.ensures,
  c.from-3.ensures,
  c.requires.b_places,
)
