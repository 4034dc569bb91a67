-- What was taken and what is left stay the same together.
use Rattle.std.proofs.Common.{◌≡◌, ◌++◌, length}
use Rattle.cpu_1401.specs.CardsAndPrinter.{with_devices}
use Rattle.job_runner.proofs.taking.take_cards.Given as goal

abbrev pub invariant-loop-card : goal.invariant-loop-card
invariant-loop-card g l = record {
  cards : g.W.Output.cards l.output ++ l.machine.devices.stacker
      ≡ g.W.Output.cards l.initial.output ++ l.initial.machine.devices.stacker;
  lines : g.W.Output.lines l.output ≡ g.W.Output.lines l.initial.output;
  good : g.W.Output.has_failed l.output ≡ g.W.Output.has_failed l.initial.output;
  state : l.machine
      ≡ with_devices (record l.initial.machine.devices { stacker = l.machine.devices.stacker }) l.initial.machine;
}

abbrev pub decreases-loop-card : goal.decreases-loop-card
decreases-loop-card g l = length l.machine.devices.stacker
