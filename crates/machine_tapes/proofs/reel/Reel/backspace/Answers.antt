-- The record that was passed last is between two places of the head, or there is none.
use Rattle.std.proofs.Common.{ap, sym, ◌∙◌, arith}
use Rattle.machine_tapes.specs.Reel.{Reel, after_backspace}
use Rattle.machine_tapes.proofs.MoveLemmas.{between_back}
use Rattle.machine_tapes.proofs.MoveLemmas.{at_start, moved_back, wound_low}
use Rattle.machine_tapes.proofs.PassedLemmas.{one_more}
use Rattle.machine_tapes.proofs.reel.Reel.backspace.Goals as goal

pub overflow_sub-self : goal.overflow_sub-self
overflow_sub-self c =
    let reel = c.self.inside in
    let last = c.last_start-self-inside in
    let at =
    between_back reel.bytes.items c.deref.result.now reel.head reel.end last.result c.self.invariant.0
    c.deref.ensures.value last.ensures.inside last.ensures.first last.ensures.others in
    omega (arith, one_more reel.bytes.items last.result reel.head reel.end at, c.self.invariant.1)

pub invariant_of-self : goal.invariant_of-self
invariant_of-self c =
    let reel = c.self.inside in
    let last = c.last_start-self-inside in
    let at =
    between_back reel.bytes.items c.deref.result.now reel.head reel.end last.result c.self.invariant.0
    c.deref.ensures.value last.ensures.inside last.ensures.first last.ensures.others in (
      wound_low reel.bytes.items last.result reel.head reel.end at,
      omega (
        arith,
        one_more reel.bytes.items last.result reel.head reel.end at,
        c.self.invariant.1,
      ),
    )

pub returns-then-self-gt0 : goal.returns-then-self-gt0
returns-then-self-gt0 c =
    let reel = c.self.inside in
    let last = c.last_start-self-inside in
    moved_back reel.bytes.items last.result reel.head reel.end
    (between_back reel.bytes.items c.deref.result.now reel.head reel.end last.result c.self.invariant.0
    c.deref.ensures.value last.ensures.inside last.ensures.first last.ensures.others)
    ∙ ap (λ (r : Reel). after_backspace r) c.self.view_is

pub returns-else-self-gt0 : goal.returns-else-self-gt0
returns-else-self-gt0 c =
    let reel = c.self.inside in
    sym c.self.view_is ∙ at_start reel.bytes.items reel.head reel.end (omega arith)
    ∙ ap (λ (r : Reel). after_backspace r) c.self.view_is
