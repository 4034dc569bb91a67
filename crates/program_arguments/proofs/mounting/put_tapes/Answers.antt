-- Without values none is added.
use Rattle.std.proofs.Common.{List, ℕ, append-nil, subst, sym}
use Rattle.program_arguments.specs.Mounting.{AreMounted}
use Rattle.program_arguments.proofs.mounting.put_tapes.Goals as goal

pub returns-in_default : goal.returns-in_default
returns-in_default c = rw c.in_default.is (λ whole. (
  whole,
  λ texts before.
      subst (λ (each : List (List ℕ)). AreMounted each c.args.reels.now.items) (sym (append-nil texts)) before,
))
