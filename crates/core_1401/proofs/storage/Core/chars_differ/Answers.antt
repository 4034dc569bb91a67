-- The characters that are compared are those of the cells.
use Rattle.std.proofs.Common.{◌≡◌, ℕ, List, length, ap, ◌∙◌, arith}
use Rattle.std.specs.List.{list_any, range_with_len}
use Rattle.core_1401.specs.Places.{are_unequal, is_unequal_pair}
use Rattle.core_1401.specs.Storage.{Storage}
use Rattle.core_1401.proofs.CompareLemmas.{same_pairs}
use Rattle.core_1401.proofs.SizeLemmas.{held_size}
use Rattle.core_1401.proofs.storage.Core.chars_differ.Goals as goal

pub any_differ-requires-clause-a_in : goal.any_differ-requires-clause-a_in
any_differ-requires-clause-a_in c = omega (
  arith,
  ap length c.deref.ensures.value,
  held_size c.self.inside.chars.items c.self.inside.words c.args.self.now c.self.view_is,
  c.from.ensures,
  c.requires.a.1,
)

pub any_differ-requires-clause-b_in : goal.any_differ-requires-clause-b_in
any_differ-requires-clause-b_in c = omega (
  arith,
  ap length c.deref.ensures.value,
  held_size c.self.inside.chars.items c.self.inside.words c.args.self.now c.self.view_is,
  c.from-2.ensures,
  c.requires.b.1,
)

pub any_differ-requires-clause-a_places : goal.any_differ-requires-clause-a_places
any_differ-requires-clause-a_places c = omega (
  arith,
  c.from.ensures,
  c.from-3.ensures,
  c.requires.a.0,
)

pub any_differ-requires-clause-b_places : goal.any_differ-requires-clause-b_places
any_differ-requires-clause-b_places c = omega (
  arith,
  c.from-2.ensures,
  c.from-3.ensures,
  c.requires.b.0,
)

pub returns : goal.returns
returns c =
    let chars : List ℕ = c.self.inside.chars.items in
    let words : List ℕ = c.self.inside.words in
    let storage : Storage = c.args.self.now in
    let a : ℕ = c.from.result in
    let b : ℕ = c.from-2.result in
    let n : ℕ = c.from-3.result in
    let size : length chars ≡ length storage = held_size chars words storage c.self.view_is in
    c.any_differ.ensures
    ∙ ap (λ (l : List ℕ). list_any (are_unequal l a b) (range_with_len 0 n)) c.deref.ensures.value
    ∙ same_pairs chars words a b n (omega (arith, size, c.from.ensures, c.requires.a.1))
    (omega (arith, size, c.from-2.ensures, c.requires.b.1))
    ∙ ap (λ (s : Storage). list_any (is_unequal_pair s a b) (range_with_len 0 n)) c.self.view_is
    ∙ ap (λ (p : ℕ). list_any (is_unequal_pair storage p b) (range_with_len 0 n)) c.from.ensures
    ∙ ap (λ (p : ℕ). list_any (is_unequal_pair storage c.args.a p) (range_with_len 0 n)) c.from-2.ensures
    ∙ ap (λ (m : ℕ). list_any (is_unequal_pair storage c.args.a c.args.b) (range_with_len 0 m)) c.from-3.ensures
