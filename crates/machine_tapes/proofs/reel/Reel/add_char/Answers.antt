-- One byte more, which goes on.
use Rattle.std.proofs.Common.{ℕ, ◌<◌, length, ap, ◌∙◌, arith}
use Rattle.machine_tapes.specs.Held.{held}
use Rattle.machine_tapes.specs.Reel.{Reel, after_add, room_in}
use Rattle.machine_tapes.proofs.AddLemmas.{added, wound_added}
use Rattle.machine_tapes.proofs.PassedLemmas.{same_number}
use Rattle.machine_tapes.proofs.ReelLemmas.{room_left}
use Rattle.machine_tapes.proofs.reel.Reel.add_char.Goals as goal

pub index_mut-requires : goal.index_mut-requires
index_mut-requires c =
    let reel = c.self.inside in
    let left = room_left reel.bytes.items reel.head reel.end c.self.invariant.0 in
    let room = ap (λ (r : Reel). room_in r) c.self.view_is in
    omega (arith, left, room, c.requires.room)

pub invariant_of-self : goal.invariant_of-self
invariant_of-self c =
    let reel = c.self.inside in
    let left = room_left reel.bytes.items reel.head reel.end c.self.invariant.0 in
    let room = ap (λ (r : Reel). room_in r) c.self.view_is in
    let some = ap (λ (r : Reel). length r.passed) c.self.view_is in
    let inside : reel.head < length reel.bytes.items = omega (arith, left, room, c.requires.room) in
    let last : 0 < length (held reel.bytes.items reel.head reel.end).passed = omega (arith, some, c.requires.passed) in
    let same =
    ap (λ (r : Reel). length r.passed)
    (added reel.bytes.items reel.head reel.end c.code.result c.self.invariant.0 inside c.code.ensures.range last
    (ap (λ (r : Reel). r.ahead) c.self.view_is ∙ c.requires.ahead)) in (
      wound_added reel.bytes.items reel.head reel.end c.code.result c.self.invariant.0 inside last,
      omega (
        arith,
        same,
        same_number (held reel.bytes.items reel.head reel.end).passed c.code.result,
        c.self.invariant.1,
      ),
    )

pub returns : goal.returns
returns c =
    let reel = c.self.inside in
    let left = room_left reel.bytes.items reel.head reel.end c.self.invariant.0 in
    let room = ap (λ (r : Reel). room_in r) c.self.view_is in
    let some = ap (λ (r : Reel). length r.passed) c.self.view_is in
    added reel.bytes.items reel.head reel.end c.code.result c.self.invariant.0
    (omega (arith, left, room, c.requires.room)) c.code.ensures.range (omega (arith, some, c.requires.passed))
    (ap (λ (r : Reel). r.ahead) c.self.view_is ∙ c.requires.ahead)
    ∙ ap (λ (r : Reel). after_add r c.code.result) c.self.view_is
    ∙ ap (λ (char : ℕ). after_add c.args.self.now char) c.code.ensures.value
