-- Before each read none has failed.
use Rattle.std.proofs.Common.{◌≡◌, false}
use Rattle.operate_console.proofs.typed.read_line.Given as goal

abbrev pub invariant-loop-read : goal.invariant-loop-read
invariant-loop-read g l = g.R.Source.has_failed l.reader ≡ false
