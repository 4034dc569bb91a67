-- The commands that are left lead to what all of them do.
use Rattle.std.proofs.Common.{◌≡◌}
use Rattle.program_run.specs.Program.{after_commands}
use Rattle.program_run.proofs.programs.carry_each.Given as goal

abbrev pub invariant-loop-command : goal.invariant-loop-command
invariant-loop-command l = record {
  can : (goal.iterator-loop-command).can_next l.command-iterator;
  ends : (goal.iterator-loop-command).is_finite l.command-iterator;
  state : after_commands l.machine l.command-iterator ≡ after_commands l.fn.machine l.fn.commands;
}
