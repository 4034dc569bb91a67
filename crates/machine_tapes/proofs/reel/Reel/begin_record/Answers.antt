-- One byte more, which begins a record.
use Rattle.std.proofs.Common.{ℕ, ◌<◌, [], ◌∷◌, length, ap, ◌∙◌, arith}
use Rattle.machine_tapes.specs.Reel.{Reel, after_write, room_in}
use Rattle.machine_tapes.proofs.AddLemmas.{begun, wound_begun}
use Rattle.machine_tapes.proofs.PassedLemmas.{few_passed}
use Rattle.machine_tapes.proofs.ReelLemmas.{room_left}
use Rattle.machine_tapes.proofs.reel.Reel.begin_record.Goals as goal

pub index_mut-requires : goal.index_mut-requires
index_mut-requires c =
    let reel = c.self.inside in
    let left = room_left reel.bytes.items reel.head reel.end c.self.invariant.0 in
    let room = ap (λ (r : Reel). room_in r) c.self.view_is in
    omega (arith, left, room, c.requires)

pub overflow_add-self-2 : goal.overflow_add-self-2
overflow_add-self-2 c =
    let reel = c.self.inside in
    let few = few_passed reel.bytes.items reel.head reel.end c.self.invariant.0 in
    let wound = c.self.invariant.0 in
    omega (arith, few, c.self.invariant.1, wound.order, wound.inside, wound.most)

pub invariant_of-self : goal.invariant_of-self
invariant_of-self c =
    let reel = c.self.inside in
    let left = room_left reel.bytes.items reel.head reel.end c.self.invariant.0 in
    let room = ap (λ (r : Reel). room_in r) c.self.view_is in
    let inside : reel.head < length reel.bytes.items = omega (arith, left, room, c.requires) in
    let more =
    ap (λ (r : Reel). length r.passed)
    (begun reel.bytes.items reel.head reel.end c.code.result c.self.invariant.0 inside c.code.ensures.range) in (
      wound_begun reel.bytes.items reel.head reel.end c.code.result c.self.invariant.0 inside,
      omega (arith, more, c.self.invariant.1),
    )

pub returns : goal.returns
returns c =
    let reel = c.self.inside in
    let left = room_left reel.bytes.items reel.head reel.end c.self.invariant.0 in
    let room = ap (λ (r : Reel). room_in r) c.self.view_is in
    begun reel.bytes.items reel.head reel.end c.code.result c.self.invariant.0 (omega (arith, left, room, c.requires))
    c.code.ensures.range
    ∙ ap (λ (r : Reel). after_write r (c.code.result ∷ [])) c.self.view_is
    ∙ ap (λ (char : ℕ). after_write c.args.self.now (char ∷ [])) c.code.ensures.value
