-- Those that are left make the machine with all of them.
use Rattle.std.proofs.Common.{◌≡◌, ◌≤◌, drop, length}
use Rattle.program_run.specs.RunJob.{turned, with_switches}
use Rattle.program_run.proofs.running.set_switches.Given as goal

abbrev pub invariant-loop-n : goal.invariant-loop-n
invariant-loop-n l = record {
  left : turned l.n (drop l.n l.switches) l.machine ≡ with_switches l.switches l.initial.machine;
  all : length l.switches ≡ 7;
  most : l.n ≤ 7;
}
