-- It is the length of the list that callers see.
use Rattle.std.proofs.Common.{length, ap, ◌∙◌}
use Rattle.machine_tapes.specs.Reel.{Reel}
use Rattle.machine_tapes.proofs.reel.Reel.records_passed.Goals as goal

pub returns : goal.returns
returns c = c.self.invariant.1 ∙ ap (λ (r : Reel). length r.passed) c.self.view_is
