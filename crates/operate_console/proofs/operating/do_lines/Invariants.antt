-- Before each line those so far are done, and nothing has failed.
use Rattle.std.proofs.Common.{◌≡◌, ◌≤◌, true, false}
use Rattle.operate_console.specs.Ends.{source_so}
use Rattle.operate_console.specs.Line.{LinesSoFar}
use Rattle.operate_console.specs.Run.{at_console}
use Rattle.operate_console.proofs.operating.do_lines.Given as goal

abbrev pub invariant-loop-line : goal.invariant-loop-line
invariant-loop-line g l = record {
  so_far :
      LinesSoFar l.setting.program.now l.setting.manner.now.limit
      (record { at = at_console l.fn.sitting l.fn.notebook; faults = 0 })
      (record { at = at_console l.sitting l.notebook; faults = l.faults });
  counted : l.faults ≤ l._line;
  good : source_so false l.notebook.has_ended (g.R.Source.has_failed l.reader) (g.R.Source.left l.reader) ≡ true;
  sink : g.W.Sink.has_failed l.writer ≡ false;
  kept : l.sitting.account.failed ≡ false;
}
