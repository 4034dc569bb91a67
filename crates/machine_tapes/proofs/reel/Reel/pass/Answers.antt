-- The record ahead is between two places of the head, or there is none.
use Rattle.std.proofs.Common.{◌≡◌, ◌+◌, sym, ap, ◌∙◌, arith}
use Rattle.machine_tapes.specs.Held.{held}
use Rattle.machine_tapes.specs.Reel.{Reel, after_pass}
use Rattle.machine_tapes.proofs.MoveLemmas.{passed_on, wound_passed}
use Rattle.machine_tapes.proofs.PassedLemmas.{counted_on, few_passed}
use Rattle.machine_tapes.proofs.reel.Reel.pass.Goals as goal

pub returns-then-size-eq0 : goal.returns-then-size-eq0
returns-then-size-eq0 c =
    let reel = c.self.inside in
    let n = c.first_size-size.result in
    let stays : reel.head ≡ reel.head + n = omega arith in
    sym c.self.view_is ∙ ap (λ k. held reel.bytes.items k reel.end) stays
    ∙ passed_on reel.bytes.items c.deref.result.now reel.head reel.end n c.self.invariant.0
    c.deref.ensures.value c.first_size-size.ensures.value c.first_size-size.ensures.inside
    ∙ ap (λ (r : Reel). after_pass r) c.self.view_is

pub overflow_add-self-2 : goal.overflow_add-self-2
overflow_add-self-2 c =
    let reel = c.self.inside in
    let few = few_passed reel.bytes.items reel.head reel.end c.self.invariant.0 in
    let wound = c.self.invariant.0 in
    omega (arith, few, c.self.invariant.1, wound.order, wound.inside, wound.most)

pub invariant_of-self : goal.invariant_of-self
invariant_of-self c =
    let reel = c.self.inside in
    let n = c.first_size-size.result in
    let more =
    counted_on reel.bytes.items c.deref.result.now reel.head reel.end n c.self.invariant.0
    c.deref.ensures.value c.first_size-size.ensures.value c.first_size-size.ensures.inside (omega arith) in (
      wound_passed reel.bytes.items c.deref.result.now reel.head reel.end n c.self.invariant.0
          c.deref.ensures.value c.first_size-size.ensures.value c.first_size-size.ensures.inside,
      omega (arith, more, c.self.invariant.1),
    )

pub returns : goal.returns
returns c =
    let reel = c.self.inside in
    passed_on reel.bytes.items c.deref.result.now reel.head reel.end c.first_size-size.result c.self.invariant.0
    c.deref.ensures.value c.first_size-size.ensures.value c.first_size-size.ensures.inside
    ∙ ap (λ (r : Reel). after_pass r) c.self.view_is
