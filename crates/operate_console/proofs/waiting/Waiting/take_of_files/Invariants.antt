-- Whether the input has ended stays.
use Rattle.std.proofs.Common.{◌≡◌}
use Rattle.operate_console.proofs.waiting.Waiting.take_of_files.Given as goal

abbrev pub invariant-loop-file : goal.invariant-loop-file
invariant-loop-file l = l.self.has_ended ≡ l.fn.self.has_ended
