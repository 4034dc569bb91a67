-- One reel more is mounted for each value.
use Rattle.std.proofs.Common.{ℕ, List, ◌++◌, arith, map, subst, take}
use Rattle.program_arguments.specs.Mounting.{AreMounted}
use Rattle.program_arguments.proofs.MountLemmas.{values_all, values_more}
use Rattle.program_arguments.proofs.mounting.put_each.Goals as goal

pub loop-value-preserved : goal.loop-value-preserved
loop-value-preserved c = λ whole.
    let i = c.loop-value.value-index in
    let more = c.put_reel.ensures whole in
    let front = c.loop-value.invariant more.0 in (
      front.0,
      λ texts before.
          subst (λ (each : List (List ℕ)). AreMounted each c.put_reel.new.reels.items)
          (values_more texts c.args.values.now i _ (omega (arith, c.loop-value-test.true)))
          (more.1 (texts ++ map (λ each. each.now) (take i c.args.values.now)) (front.1 texts before)),
    )

pub returns : goal.returns
returns c = λ whole.
    let all = c.loop-value.invariant whole in (
      all.0,
      λ texts before.
          values_all texts c.args.values.now c.loop-value.value-index c.loop-value.reels.items
          (omega (arith, c.loop-value-test.false)) (all.1 texts before),
    )
