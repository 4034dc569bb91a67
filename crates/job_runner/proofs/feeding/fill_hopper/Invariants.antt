-- What is in the hopper and what is left of the deck stay the same together.
use Rattle.std.proofs.Common.{◌≡◌, ◌≤◌, length}
use Rattle.devices_1401.specs.Devices.{most_held}
use Rattle.job_runner.specs.Unattended.{with_deck}
use Rattle.job_runner.proofs.feeding.fill_hopper.Given as goal

abbrev pub invariant-loop-held : goal.invariant-loop-held
invariant-loop-held g l = record {
  deck : with_deck (g.R.Cards.left l.cards) l.machine ≡ with_deck (g.R.Cards.left l.fn.cards) l.fn.machine;
  held : length l.machine.devices.hopper ≡ l.held;
  most : l.held ≤ most_held;
  stacker : l.machine.devices.stacker ≡ l.fn.machine.devices.stacker;
  paper : l.machine.devices.paper ≡ l.fn.machine.devices.paper;
  size : length l.machine.storage ≡ length l.fn.machine.storage;
  good : g.R.Cards.has_failed l.cards ≡ g.R.Cards.has_failed l.fn.cards;
}
