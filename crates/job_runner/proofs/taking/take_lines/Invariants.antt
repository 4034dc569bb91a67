-- What was taken and what is left stay the same together.
use Rattle.std.proofs.Common.{◌≡◌, ◌++◌, length}
use Rattle.cpu_1401.specs.CardsAndPrinter.{with_devices}
use Rattle.job_runner.proofs.taking.take_lines.Given as goal

abbrev pub invariant-loop-line : goal.invariant-loop-line
invariant-loop-line g l = record {
  lines : g.W.Output.lines l.output ++ l.machine.devices.paper
      ≡ g.W.Output.lines l.initial.output ++ l.initial.machine.devices.paper;
  cards : g.W.Output.cards l.output ≡ g.W.Output.cards l.initial.output;
  good : g.W.Output.has_failed l.output ≡ g.W.Output.has_failed l.initial.output;
  state : l.machine
      ≡ with_devices (record l.initial.machine.devices { paper = l.machine.devices.paper }) l.initial.machine;
}

abbrev pub decreases-loop-line : goal.decreases-loop-line
decreases-loop-line g l = length l.machine.devices.paper
