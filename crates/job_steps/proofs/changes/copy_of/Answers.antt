-- All cells are copied.
use Rattle.std.proofs.Common.{arith}
use Rattle.job_steps.proofs.PlaceLemmas.{same_storage}
use Rattle.job_steps.proofs.changes.copy_of.Goals as goal

pub returns-clause-ok : goal.returns-clause-ok
returns-clause-ok c =
    same_storage c.copy_cells.new.before c.args.core.now c.copy_cells.ensures.size
    (λ i lt. c.copy_cells.ensures.inside i (omega arith)
    (omega (arith, lt, c.size-2.ensures.value, c.copy_cells.ensures.size)))
