-- The places below the hundred are as they were.
use Rattle.std.proofs.Common.{◌≡◌, ◌+◌, ◌-◌, ◌*◌, ◌/◌, ℕ, ap, subst, arith}
use Rattle.core_1401.specs.Storage.{Storage, blank}
use Rattle.fields_1401.specs.Across.{IsSameBeside}
use Rattle.fields_1401.specs.Marks.{cleared}
use Rattle.fields_1401.specs.Outcome.{below_by}
use Rattle.fields_1401.specs.declared.done.Done.{Done}
use Rattle.fields_1401.proofs.AcrossLemmas.{cells_outside, same_beside}
use Rattle.fields_1401.proofs.marks.clear_down.Goals as goal

pub returns-clause-beside : goal.returns-clause-beside
unfolding cleared
returns-clause-beside c =
    let old : Storage = c.args.core.now in
    let new : Storage = c.clear_places.new.core in
    let hundred : ℕ = c.args.b / 100 * 100 in
    let n : ℕ = c.args.b + 1 - hundred in
    let is : below_by c.args.b n ≡ c.registers.result.b =
    omega (arith, c.step_down.ensures.value, ap (λ (done : Done). done.b) c.registers.ensures) in
    subst (λ below. IsSameBeside old new c.args.b below) is
    (same_beside old new c.args.b n (cells_outside old new c.args.b n (λ i. blank) c.clear_places.ensures.cleared)
    (omega arith) (omega arith) c.requires)
