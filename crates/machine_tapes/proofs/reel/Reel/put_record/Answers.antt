-- The bytes of a record, where the head is.
use Rattle.std.proofs.Common.{ℕ, ◌+◌, ◌-◌, ◌≤◌, List, length, map, ◌==◌, sym, ap, subst, ◌∙◌, arith}
use Rattle.std.specs.Prelude.{if◌then◌else◌}
use Rattle.std.proofs.lemmas.List.{with_items_is}
use borrow.Rule.Slice.PartMut.{put_mid}
use Rattle.machine_tapes.specs.Held.{held, IsWound}
use Rattle.machine_tapes.specs.Reel.{Reel, after_write, room_in}
use Rattle.machine_tapes.proofs.BlockLemmas.{counted_put, held_put, is_block, length_lent, wound_put}
use Rattle.machine_tapes.proofs.PassedLemmas.{few_passed}
use Rattle.machine_tapes.proofs.ReelLemmas.{room_left}
use Rattle.machine_tapes.proofs.reel.Reel.put_record.Goals as goal

pub slice_bounds-put_chars-end : goal.slice_bounds-put_chars-end
slice_bounds-put_chars-end c =
    let reel = c.self.inside in
    let left = room_left reel.bytes.items reel.head reel.end c.self.invariant.0 in
    let room = ap (λ (r : Reel). room_in r) c.self.view_is in
    omega (arith, left, room, c.requires.some, c.requires.room, c.deref_mut.ensures.len)

pub overflow_add-self : goal.overflow_add-self
overflow_add-self c =
    let reel = c.self.inside in
    let few = few_passed reel.bytes.items reel.head reel.end c.self.invariant.0 in
    let wound = c.self.invariant.0 in
    omega (arith, few, c.self.invariant.1, wound.order, wound.inside, wound.most)

pub invariant_of-self : goal.invariant_of-self
invariant_of-self c =
    let reel = c.self.inside in
    let n = length c.args.characters.now in
    let put = c.put_chars in
    let left = room_left reel.bytes.items reel.head reel.end c.self.invariant.0 in
    let room = ap (λ (r : Reel). room_in r) c.self.view_is in
    let inside : reel.head + n ≤ length reel.bytes.items =
    omega (arith, left, room, c.requires.some, c.requires.room) in
    let one = is_block put.new.places n c.requires.some put.ensures.size put.ensures.first put.ensures.others in
    let bytes : List ℕ = put_mid reel.head (reel.head + n - reel.head) c.deref_mut.result.now put.new.places in
    let all =
    with_items_is reel.bytes bytes
    (length_lent reel.bytes.items c.deref_mut.result.now put.new.places reel.head n c.deref_mut.ensures.value
    put.ensures.size inside
    ∙ c.deref_mut.ensures.len) in
    let same = ap (λ (xs : List ℕ). length (held xs (reel.head + n) (reel.head + n)).passed) all in
    let more =
    counted_put reel.bytes.items c.deref_mut.result.now put.new.places reel.head reel.end n c.deref_mut.ensures.value
    one put.ensures.size inside in (
      subst (λ (xs : List ℕ). IsWound xs (reel.head + n) (reel.head + n)) (sym all)
          (wound_put reel.bytes.items c.deref_mut.result.now put.new.places reel.head reel.end n c.self.invariant.0
          c.deref_mut.ensures.value one put.ensures.size inside),
      omega (arith, same, more, c.self.invariant.1),
    )

pub returns : goal.returns
returns c =
    let reel = c.self.inside in
    let n = length c.args.characters.now in
    let put = c.put_chars in
    let left = room_left reel.bytes.items reel.head reel.end c.self.invariant.0 in
    let room = ap (λ (r : Reel). room_in r) c.self.view_is in
    let inside : reel.head + n ≤ length reel.bytes.items =
    omega (arith, left, room, c.requires.some, c.requires.room) in
    let one = is_block put.new.places n c.requires.some put.ensures.size put.ensures.first put.ensures.others in
    let written : List ℕ = map (λ char. if char == 0 then c.args.blank else char) c.args.characters.now in
    let bytes : List ℕ = put_mid reel.head (reel.head + n - reel.head) c.deref_mut.result.now put.new.places in
    let all =
    with_items_is reel.bytes bytes
    (length_lent reel.bytes.items c.deref_mut.result.now put.new.places reel.head n c.deref_mut.ensures.value
    put.ensures.size inside
    ∙ c.deref_mut.ensures.len) in
    ap (λ (xs : List ℕ). held xs (reel.head + n) (reel.head + n)) all
    ∙ held_put reel.bytes.items c.deref_mut.result.now put.new.places written reel.head reel.end n
    c.deref_mut.ensures.value one put.ensures.value put.ensures.size inside
    ∙ ap (λ (r : Reel). after_write r written) c.self.view_is
