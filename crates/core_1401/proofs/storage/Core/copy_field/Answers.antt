-- The cells of the field are written, and nothing else.
use Rattle.std.proofs.Common.{◌≡◌, ℕ, ◌+◌, ◌-◌, ◌/◌, ◌<◌, ◌≤◌, List, Some, set, arith, ap, sym, ◌∙◌, length}
use Rattle.std.proofs.lemmas.List.{with_items_is}
use Rattle.std.specs.Vec.{with_items}
use Rattle.core_1401.specs.Address.{addresses}
use Rattle.core_1401.specs.Field.{field_len_of}
use Rattle.core_1401.specs.MarkWords.{held}
use Rattle.core_1401.specs.Places.{with_cells}
use Rattle.core_1401.specs.Storage.{Storage, cell_at}
use Rattle.core_1401.proofs.HeldLemmas.{length_held, most_places}
use Rattle.core_1401.proofs.PlacesLemmas.{AreCopied, held-field, whole-field}
use Rattle.core_1401.proofs.SizeLemmas.{held_size, place_small}
use Rattle.core_1401.proofs.storage.Core.copy_field.Goals as goal

pub returns : goal.returns
returns c =
    let storage : Storage = c.args.self.now in
    let old : List ℕ = c.deref_mut.result.now in
    let new : List ℕ = c.copy_down.new.chars in
    let words : List ℕ = c.self.inside.words in
    let a : ℕ = c.from.result in
    let b : ℕ = c.from-high.result in
    let n : ℕ = c.from-count.result in
    let copy : AreCopied old new a b n = record {
      count = c.copy_down.ensures.count;
      copied = c.copy_down.ensures.copied;
      above = c.copy_down.ensures.above;
      below = c.copy_down.ensures.below;
    } in
    let size : length old ≡ length storage = ap length c.deref_mut.ensures.value
    ∙ sym (length_held c.self.inside.chars.items words) ∙ ap length c.self.view_is in
    let small : length c.self.inside.chars.items ≤ addresses = most_places
    (length c.self.inside.chars.items) c.self.invariant.size in
    let b_in : b < length old = omega (arith, size, c.from-high.ensures, c.requires.b_in) in
    let in_words : (b + 1 - n) / 64 + 1 < length words = omega (
      arith,
      b_in,
      small,
      ap length c.deref_mut.ensures.value,
      c.self.told,
    ) in
    let same : held old words ≡ storage = ap (λ (l : List ℕ). held l words) c.deref_mut.ensures.value
    ∙ c.self.view_is in
    let field : field_len_of (held old words) a ≡ Some n =
    ap (λ (s : Storage). field_len_of s a) same ∙ ap (λ (p : ℕ). field_len_of storage p) c.from.ensures
    ∙ c.requires.field ∙ ap (λ (m : ℕ). Some m) (sym c.from-count.ensures) in
    let marks : List ℕ = set c.clear_marks.new.words ((b + 1 - n) / 64 + 1) c.with_bit.result in
    ap (λ (l : List ℕ). held l marks) (with_items_is c.self.inside.chars new
    (c.copy_down.ensures.count ∙ c.deref_mut.ensures.len))
    ∙ held-field old words new c.clear_marks.new.words a b n c.with_bit.result copy
    (omega (arith, size, c.from.ensures, c.requires.a_in)) b_in (omega (arith, c.from-count.ensures, c.requires.some))
    (omega (arith, c.from.ensures, c.from-count.ensures, c.requires.a_places))
    (omega (
      arith,
      c.from-high.ensures,
      c.from-count.ensures,
      c.requires.b_places,
    )) field c.clear_marks.ensures in_words c.with_bit.ensures
    ∙ ap (λ (s : Storage). with_cells s b n (λ i. cell_at s (a - i))) same
    ∙ ap (λ (p : ℕ). with_cells storage b n (λ i. cell_at storage (p - i))) c.from.ensures
    ∙ ap (λ (p : ℕ). with_cells storage p n (λ i. cell_at storage (c.args.a - i))) c.from-high.ensures
    ∙ ap (λ (m : ℕ). with_cells storage c.args.b m (λ i. cell_at storage (c.args.a - i))) c.from-count.ensures

pub invariant_of-self : goal.invariant_of-self
invariant_of-self c =
    let chars : List ℕ = c.self.inside.chars.items in
    let words : List ℕ = c.self.inside.words in
    let new : List ℕ = (with_items c.self.inside.chars c.copy_down.new.chars).items in
    let long : length new ≡ length chars =
    ap length (with_items_is c.self.inside.chars c.copy_down.new.chars
    (c.copy_down.ensures.count ∙ c.deref_mut.ensures.len)) ∙ c.copy_down.ensures.count
    ∙ ap length c.deref_mut.ensures.value in
    let small : length chars ≤ addresses = most_places (length chars) c.self.invariant.size in
    let size : length chars ≡ length c.args.self.now = sym (length_held chars words) ∙ ap length c.self.view_is in
    let in_core : c.from-high.result < length chars = omega (arith, size, c.from-high.ensures, c.requires.b_in) in
    let order : c.from-high.result + 1 - c.from-count.result ≤ c.from-high.result =
    omega (arith, c.from-count.ensures, c.requires.some) in
    whole-field chars words new c.clear_marks.new.words
    (c.from-high.result + 1 - c.from-count.result) c.from-high.result c.with_bit.result long
    in_core order c.clear_marks.ensures
    (omega (arith, in_core, small, c.self.told)) c.with_bit.ensures c.self.invariant

pub copy_down-requires-clause-a_in : goal.copy_down-requires-clause-a_in
copy_down-requires-clause-a_in c = omega (
  arith,
  ap length c.deref_mut.ensures.value,
  held_size c.self.inside.chars.items c.self.inside.words c.args.self.now c.self.view_is,
  c.from.ensures,
  c.requires.a_in,
)

pub copy_down-requires-clause-b_in : goal.copy_down-requires-clause-b_in
copy_down-requires-clause-b_in c = omega (
  arith,
  ap length c.deref_mut.ensures.value,
  held_size c.self.inside.chars.items c.self.inside.words c.args.self.now c.self.view_is,
  c.from-high.ensures,
  c.requires.b_in,
)

pub copy_down-requires-clause-a_places : goal.copy_down-requires-clause-a_places
copy_down-requires-clause-a_places c = omega (
  arith,
  c.from.ensures,
  c.from-count.ensures,
  c.requires.a_places,
)

pub copy_down-requires-clause-b_places : goal.copy_down-requires-clause-b_places
copy_down-requires-clause-b_places c = omega (
  arith,
  c.from-high.ensures,
  c.from-count.ensures,
  c.requires.b_places,
)

pub clear_marks-requires-clause-within : goal.clear_marks-requires-clause-within
clear_marks-requires-clause-within c = omega (
  arith,
  place_small c.self.inside.chars.items c.self.inside.words c.args.self.now c.args.b c.from-high.result c.self.view_is
      c.self.invariant.size c.from-high.ensures c.requires.b_in,
  c.self.told,
)

pub bounds-self-inside-low : goal.bounds-self-inside-low
bounds-self-inside-low c = omega (
  arith,
  place_small c.self.inside.chars.items c.self.inside.words c.args.self.now c.args.b c.from-high.result c.self.view_is
      c.self.invariant.size c.from-high.ensures c.requires.b_in,
  c.from-high.ensures,
)
