-- What a step with tape units can see and use of the devices (own): what a step of the machine alone can.
use Rattle.std.specs.Prelude.{◌≡◌, ℕ}
use Rattle.devices_1401.specs.Devices.{Devices}
use Rattle.cpu_1401.specs.CardsAndPrinter.{with_devices}
use Rattle.cpu_1401.specs.Frame.{Frame, IsUnseen, UsesOne, framed}
use Rattle.cpu_1401.specs.State.{State}
use Rattle.machine_tapes.specs.Instruction.{tape_instruction}
use Rattle.machine_tapes.specs.TapeLoading.{loaded_from}
use Rattle.machine_tapes.specs.TapedStep.{TapedStepped, taped_step}
use Rattle.machine_tapes.specs.declared.taped_machine.TapedMachine.{TapedMachine}

-- a machine in this frame, with its tape units
abbrev pub taped_framed : Frame → TapedMachine → TapedMachine
taped_framed frame t = record t { machine = framed frame t.machine }

-- what a step leaves, in this frame
abbrev pub taped_around : Frame → TapedStepped → TapedStepped
taped_around frame done = record { taped = taped_framed frame done.taped; stop = done.stop }

-- the law of a step: it uses at most one of each, and a step in a frame that the machine doesn't see is the step without
-- it, in that frame; nor do the tape instruction that is next and the key that loads from tape depend on the devices
pub record TapedStepLaw : Type 0 where
  pub uses : (t : TapedMachine) → UsesOne t.machine.devices (taped_step t).taped.machine.devices
  pub in_frame : (frame : Frame) (t : TapedMachine) → IsUnseen frame t.machine
      → taped_step (taped_framed frame t) ≡ taped_around frame (taped_step t)
  pub loading : (frame : Frame) (number : ℕ) (t : TapedMachine)
      → loaded_from number (taped_framed frame t) ≡ taped_around frame (loaded_from number t)
  pub instruction : (devices : Devices) (s : State) → tape_instruction (with_devices devices s) ≡ tape_instruction s
