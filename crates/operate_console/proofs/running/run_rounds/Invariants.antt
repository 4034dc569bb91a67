-- Before each round those so far are those of a run that isn't over, and nothing has failed.
use Rattle.std.proofs.Common.{◌≡◌, ◌≤◌, ◌*◌, ◌^◌, true, false}
use Rattle.operate_console.specs.Ends.{source_so}
use Rattle.operate_console.specs.Run.{RoundsSoFar, at_run, is_spent, read_on}
use Rattle.operate_console.proofs.running.run_rounds.Given as goal

abbrev pub invariant-loop-round : goal.invariant-loop-round
invariant-loop-round g l = record {
  so_far :
      RoundsSoFar l.asked.extent.reach.most (at_run l.fn.sitting l.fn.test)
      (record { at = at_run l.sitting l.test; steps = l.steps });
  steps : l.steps ≤ l.round * 2 ^ 32;
  left : is_spent l.asked.extent.reach.most l.steps ≡ false;
  noted : l.notebook ≡ read_on l.notebook.has_ended l.fn.notebook;
  good : source_so false l.notebook.has_ended (g.R.Source.has_failed l.reader) (g.R.Source.left l.reader) ≡ true;
  sink : g.W.Sink.has_failed l.writer ≡ false;
  kept : l.sitting.account.failed ≡ false;
}
