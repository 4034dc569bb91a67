-- Each line leaves less of the source.
use Rattle.std.proofs.Common.{length}
use Rattle.program_run.proofs.stopped_at.line_numbered.Given as goal

abbrev pub decreases-loop-line : goal.decreases-loop-line
decreases-loop-line l = length l.rest
