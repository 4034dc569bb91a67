-- Before each line no read has failed, and the input ends there if that is noted.
use Rattle.std.proofs.Common.{◌≡◌, true, false}
use Rattle.operate_console.specs.Ends.{source_so}
use Rattle.operate_console.proofs.listening.is_interrupted.Given as goal

abbrev pub invariant-loop-line : goal.invariant-loop-line
invariant-loop-line g l =
    source_so false l.waiting.has_ended (g.R.Source.has_failed l.reader) (g.R.Source.left l.reader) ≡ true
