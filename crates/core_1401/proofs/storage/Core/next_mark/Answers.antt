-- The next mark in the window, or the end of core.
use Rattle.std.proofs.Common.{◌≡◌, ◌-◌, ◌<◌, ℕ, min, arith, ap, ◌∙◌, List, length}
use Rattle.core_1401.specs.Field.{next_mark_from}
use Rattle.core_1401.specs.MarkWords.{held}
use Rattle.core_1401.specs.Storage.{Storage}
use Rattle.core_1401.proofs.FieldLemmas.{next_mark_found}
use Rattle.core_1401.proofs.HeldLemmas.{length_held}
use Rattle.core_1401.proofs.SizeLemmas.{held_size, place_small}
use Rattle.core_1401.proofs.storage.Core.next_mark.Goals as goal

pub returns-clause-value : goal.returns-clause-value
returns-clause-value c =
    let chars : List ℕ = c.self.inside.chars.items in
    let words : List ℕ = c.self.inside.words in
    let storage : Storage = c.args.self.now in
    let left : c.len.result - c.from-3.result ≡ length chars - c.from.result =
    omega (arith, c.len.ensures, c.from-3.ensures, c.from.ensures) in
    let in_core : c.from.result < length chars = omega (
      arith,
      ap length c.self.view_is,
      length_held chars words,
      c.from.ensures,
      c.requires.at,
    ) in
    c.min.ensures
    ∙ ap (λ (k : ℕ). min c.next_mark-ahead.result k) left
    ∙ next_mark_found chars words c.from.result c.from-2.result c.next_mark-ahead.result in_core
    c.next_mark-ahead.ensures.next
    ∙ ap (λ (m : ℕ). min m (next_mark_from (held chars words) c.from.result)) c.from-2.ensures
    ∙ ap (λ (p : ℕ). min c.args.most (next_mark_from (held chars words) p)) c.from.ensures
    ∙ ap (λ (s : Storage). min c.args.most (next_mark_from s c.args.at)) c.self.view_is

pub next_mark-ahead-requires-clause-within : goal.next_mark-ahead-requires-clause-within
next_mark-ahead-requires-clause-within c = omega (
  arith,
  place_small c.self.inside.chars.items c.self.inside.words c.args.self.now c.args.at c.from.result c.self.view_is
      c.self.invariant.size c.from.ensures c.requires.at,
)

pub overflow_sub-len : goal.overflow_sub-len
overflow_sub-len c = omega (
  arith,
  held_size c.self.inside.chars.items c.self.inside.words c.args.self.now c.self.view_is,
  c.len.ensures,
  c.from-3.ensures,
  c.requires.at,
)

pub returns-clause-some : goal.returns-clause-some
returns-clause-some c = omega (
  arith,
  held_size c.self.inside.chars.items c.self.inside.words c.args.self.now c.self.view_is,
  c.min.ensures,
  c.next_mark-ahead.ensures.next.some,
  c.len.ensures,
  c.from-3.ensures,
  c.requires.at,
)

pub returns-clause-inside : goal.returns-clause-inside
returns-clause-inside c = omega (
  arith,
  held_size c.self.inside.chars.items c.self.inside.words c.args.self.now c.self.view_is,
  c.min.ensures,
  c.len.ensures,
  c.from-3.ensures,
  c.requires.at,
)
