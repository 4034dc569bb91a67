-- What was written, and what the rest of the job writes, make the whole, whatever its limit.
use Rattle.std.proofs.Common.{◌-◌, ◌≡◌, ◌≤◌, ℕ, [], length}
use Rattle.job_runner.specs.Unattended.{after_output, taped_with_deck, unattended}
use Rattle.job_runner.proofs.job.run_job.Given as goal

abbrev pub invariant-loop-steps : goal.invariant-loop-steps
invariant-loop-steps g l = record {
  whole : (limit : ℕ) → l.steps ≤ limit
      → after_output (g.W.Output.lines l.fn.output) (g.W.Output.cards l.fn.output) 0
      (unattended limit (taped_with_deck (g.R.Cards.left l.fn.cards) l.fn.taped))
      ≡ after_output (g.W.Output.lines l.output) (g.W.Output.cards l.output) l.steps
      (unattended (limit - l.steps) (taped_with_deck (g.R.Cards.left l.cards) l.taped));
  stacker : l.taped.machine.devices.stacker ≡ [];
  paper : l.taped.machine.devices.paper ≡ [];
  steps : l.steps ≤ l.limit;
  read : g.R.Cards.has_failed l.cards ≡ g.R.Cards.has_failed l.fn.cards;
  write : g.W.Output.has_failed l.output ≡ g.W.Output.has_failed l.fn.output;
  size : length l.taped.machine.storage ≡ length l.fn.taped.machine.storage;
}

abbrev pub decreases-loop-steps : goal.decreases-loop-steps
decreases-loop-steps g l = l.limit - l.steps
