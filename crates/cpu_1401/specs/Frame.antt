-- What a step can see and use of the devices (own): of the hopper its first card and whether it is empty, of the
-- stacker and the paper whether they are full; it reads at most one card, punches one and prints one line.
use Rattle.std.specs.Prelude.{◌≡◌, ◌==◌, ◌≤◌, ◌+◌, List, ◌++◌, length}
use Rattle.devices_1401.specs.Devices.{Devices, is_full}
use Rattle.devices_1401.specs.declared.card.Card.{Card}
use Rattle.devices_1401.specs.declared.print_line.PrintLine.{PrintLine}
use Rattle.cpu_1401.specs.CardsAndPrinter.{with_devices}
use Rattle.cpu_1401.specs.Fitting.{fitted_step}
use Rattle.cpu_1401.specs.State.{State}
use Rattle.cpu_1401.specs.Stepped.{Stepped}

-- what may surround a step: a deck below the cards in the hopper, and cards and lines punched and printed earlier
pub record Frame : Type 0 where
  pub deck : List Card
  pub cards : List Card
  pub lines : List PrintLine

-- a machine in this frame
abbrev pub framed : Frame → State → State
framed frame s = with_devices (record {
  hopper = s.devices.hopper ++ frame.deck;
  stacker = frame.cards ++ s.devices.stacker;
  paper = frame.lines ++ s.devices.paper;
  carriage = s.devices.carriage;
}) s

-- what a step leaves, in this frame
abbrev pub around : Frame → Stepped → Stepped
around frame t = record { state = framed frame t.state; stop = t.stop }

-- a machine doesn't see the frame: with it the hopper is empty only if it was, and stacker and paper are full only if
-- they were
pub record IsUnseen (frame : Frame) (s : State) : Type 0 where
  pub hopper : (length (s.devices.hopper ++ frame.deck) == 0) ≡ (length s.devices.hopper == 0)
  pub stacker : is_full (frame.cards ++ s.devices.stacker) ≡ is_full s.devices.stacker
  pub paper : is_full (frame.lines ++ s.devices.paper) ≡ is_full s.devices.paper

-- at most one card fewer in the hopper, and one more in the stacker and one line more on the paper
pub record UsesOne (old new : Devices) : Type 0 where
  pub hopper : length old.hopper ≤ length new.hopper + 1
  pub stacker : length new.stacker ≤ length old.stacker + 1
  pub paper : length new.paper ≤ length old.paper + 1

-- the law of a step, whatever the operation: it uses at most one of each, and a step in a frame that the machine
-- doesn't see is the step without it, in that frame
pub record StepLaw : Type 0 where
  pub uses : (s : State) → UsesOne s.devices (fitted_step s).state.devices
  pub in_frame : (frame : Frame) (s : State) → IsUnseen frame s
      → fitted_step (framed frame s) ≡ around frame (fitted_step s)
