-- A step with tape units in a frame is the step without it, in that frame.
use Rattle.std.proofs.Common.{◌≡◌, ℕ, ◌+◌, ◌==◌, Bool, true, false, List, Option, None, Some, Result, Ok, Err}
use Rattle.std.proofs.Common.{refl, sym, ◌∙◌, ap, subst, arith, length, take, drop}
use Rattle.std.specs.Prelude.{if◌then◌else◌, nat_le, slice_get}
use Rattle.devices_1401.specs.Devices.{Devices}
use Rattle.machine_tables.specs.declared.stop.Stop.TheVariants as stop
use Rattle.fields_1401.specs.Records.{above_by}
use Rattle.core_1401.specs.Storage.{Storage}
use Rattle.machine_tapes.specs.Reel.{after_write, room_in}
use Rattle.machine_tables.specs.declared.fitted.Fitted.{Fitted}
use Rattle.cpu_1401.specs.Fitting.{fitted_at, fitted_instruction, fitted_step}
use Rattle.cpu_1401.specs.CardsAndPrinter.{with_devices}
use Rattle.cpu_1401.specs.Frame.{Frame, IsUnseen, StepLaw, UsesOne, framed}
use Rattle.cpu_1401.specs.State.{State}
use Rattle.cpu_1401.specs.Stepped.{Stepped}
use Rattle.cpu_1401.specs.Tape.{unit_at}
use Rattle.cpu_1401.specs.declared.instruction.Instruction.{Instruction}
use Rattle.machine_tapes.specs.Instruction.{asking, asking_as, tape_instruction, work_of}
use Rattle.machine_tapes.specs.TapeLoading.{loaded_from, loading}
use Rattle.machine_tapes.specs.TapeText.{cells_read, text_of}
use Rattle.machine_tapes.specs.TapedFrame.{TapedStepLaw, taped_around, taped_framed}
use Rattle.machine_tapes.specs.TapedStep.{TapedStepped, after_file_branch, after_work, step_by, stepped_with}
use Rattle.machine_tapes.specs.TapedStep.{takes_file_branch, taped_step}
use Rattle.machine_tapes.specs.Tapes.{unit_of}
use Rattle.machine_tapes.specs.Transfer.{TapeOutcome, after_copy, after_put, copied, copied_by, if_ring, read_next, read_to}
use Rattle.machine_tapes.specs.Transfer.{record_len_at, work_at, work_ready, write_by, write_cells, write_mark}
use Rattle.machine_tapes.specs.declared.drive.Drive.{Drive}
use Rattle.machine_tapes.specs.declared.taped_machine.TapedMachine.{TapedMachine}
use Rattle.machine_tapes.specs.declared.work.TapeInstruction.{TapeInstruction}
use Rattle.machine_tapes.specs.declared.work.TapeMode.{TapeMode}
use Rattle.machine_tapes.specs.declared.work.TapeWork.{TapeWork}
use Rattle.machine_tapes.specs.declared.work.TapeWork.TheVariants as work
use Rattle.machine_tapes.proofs.RunLemmas.{branch_step, other_step}

-- what a tape instruction leaves, in a frame
abbrev outcome_framed : Frame → TapeOutcome → TapeOutcome
outcome_framed f (Ok done) = Ok (framed f done.0, done.1)
outcome_framed f (Err why) = Err why

either : (f : Frame) (test : Bool) (x y x' y' : TapeOutcome) → x' ≡ outcome_framed f x → y' ≡ outcome_framed f y
    → (if test then x' else y') ≡ outcome_framed f (if test then x else y)
either f true x y x' y' ex ey = ex
either f false x y x' y' ex ey = ey

-- tape instructions don't look at devices
put_framed : (f : Frame) (this : TapeInstruction) (chars : List ℕ) (s : State) (drive : Drive)
    (put : Option (Storage × ℕ))
    → after_copy drive (after_put this chars (framed f s) put) ≡ outcome_framed f (after_copy drive (after_put this chars s put))
put_framed f this chars s drive None = refl
put_framed f this chars s drive (Some done) = refl

copy_framed : (f : Frame) (how : TapeMode) (this : TapeInstruction) (s : State) (drive : Drive)
    (next : Option (List ℕ))
    → after_copy drive (copied_by how this (framed f s) next) ≡ outcome_framed f (after_copy drive (copied_by how this s next))
copy_framed f how this s drive None = refl
copy_framed f how this s drive (Some chars) =
    put_framed f this chars s drive (read_to how s.storage this.b (cells_read how this.unit.is_odd chars))

write_framed : (f : Frame) (how : TapeMode) (this : TapeInstruction) (s : State) (drive : Drive) (len : Option ℕ)
    → write_by how this (framed f s) drive len ≡ outcome_framed f (write_by how this s drive len)
write_framed f how this s drive None = refl
write_framed f how this s drive (Some n) =
    either f (n == 0) _ _ _ _ refl (either f _ _ _ _ _ refl refl)

ready_framed : (f : Frame) (asked : TapeWork) (this : TapeInstruction) (s : State) (drive : Drive)
    → work_ready asked this (framed f s) drive ≡ outcome_framed f (work_ready asked this s drive)
ready_framed f (work.Read how) this s drive = copy_framed f how this s drive (slice_get drive.reel.ahead 0)
ready_framed f (work.Write how) this s drive =
    either f drive.has_ring _ _ _ _ (write_framed f how this s drive (record_len_at s.storage this.b)) refl
ready_framed f work.Backspace this s drive = refl
ready_framed f work.Erase this s drive = either f drive.has_ring _ _ _ _ refl refl
ready_framed f work.WriteMark this s drive =
    either f drive.has_ring _ _ _ _ (either f (nat_le 1 (room_in drive.reel)) _ _ _ _ refl refl) refl
ready_framed f work.Rewind this s drive = refl
ready_framed f work.Unload this s drive = refl

work_framed : (f : Frame) (this : TapeInstruction) (s : State) (drive : Drive)
    → work_at this (framed f s) drive ≡ outcome_framed f (work_at this s drive)
unfolding work_at
work_framed f this s drive = either f drive.is_ready _ _ _ _ (ready_framed f this.work this s drive) refl

after_framed : (f : Frame) (this : TapeInstruction) (t : TapedMachine) (outcome : TapeOutcome)
    → after_work this (taped_framed f t) (outcome_framed f outcome) ≡ taped_around f (after_work this t outcome)
after_framed f this t (Ok done) = refl
after_framed f this t (Err why) = refl

-- nor does the test for one
asks_same : (devices : Devices) (made : Fitted) (this : Instruction) (s : State)
    → asking (unit_at (with_devices devices s).storage ((with_devices devices s).i + 1)) (work_of made this.d) this
    ≡ asking (unit_at s.storage (s.i + 1)) (work_of made this.d) this
asks_same devices made this s = refl

asking_same : (devices : Devices) (found : Option Fitted) (s : State)
    → asking_as found (with_devices devices s) ≡ asking_as found s
asking_same devices None s = refl
asking_same devices (Some made) s = asks_same devices made (fitted_instruction s) s

same_instruction : (devices : Devices) (s : State) → tape_instruction (with_devices devices s) ≡ tape_instruction s
unfolding tape_instruction
same_instruction devices s = asking_same devices (fitted_at s) s

by_framed : StepLaw → (f : Frame) (found : Option TapeInstruction) (t : TapedMachine) → IsUnseen f t.machine
    → step_by found (taped_framed f t) ≡ taped_around f (step_by found t)
by_framed law f None t unseen = ap (stepped_with t.tapes) (law.in_frame f t.machine unseen)
by_framed law f (Some this) t unseen =
    let drive = unit_of t.tapes this.unit.number in
    ap (after_work this (taped_framed f t)) (work_framed f this t.machine drive)
    ∙ after_framed f this t (work_at this t.machine drive)

-- a step by the branch if a file has ended, or by another instruction
framed_by : StepLaw → (f : Frame) (t : TapedMachine) (branches : Bool) → takes_file_branch t ≡ branches
    → IsUnseen f t.machine → taped_step (taped_framed f t) ≡ taped_around f (taped_step t)
framed_by law f t true is unseen =
    branch_step (taped_framed f t) is ∙ ap (taped_around f) (sym (branch_step t is))
framed_by law f t false is unseen =
    other_step (taped_framed f t) is
    ∙ ap (λ (found : Option TapeInstruction). step_by found (taped_framed f t)) (same_instruction (framed f t.machine).devices t.machine)
    ∙ by_framed law f (tape_instruction t.machine) t unseen
    ∙ ap (taped_around f) (sym (other_step t is))

-- it uses no more of the devices
none_used : (devices : Devices) → UsesOne devices devices
none_used devices = record { hopper = omega arith; stacker = omega arith; paper = omega arith }

-- what a tape instruction leaves has the same devices
abbrev devices_after : Devices → TapeOutcome → Devices
devices_after devices (Ok done) = done.0.devices
devices_after devices (Err why) = devices

record SameDevices (devices : Devices) (outcome : TapeOutcome) : Type 0 where
  same : devices_after devices outcome ≡ devices

either_same : (devices : Devices) (test : Bool) (x y : TapeOutcome) → SameDevices devices x → SameDevices devices y
    → SameDevices devices (if test then x else y)
either_same devices true x y ex ey = ex
either_same devices false x y ex ey = ey

put_same : (this : TapeInstruction) (chars : List ℕ) (s : State) (drive : Drive) (put : Option (Storage × ℕ))
    → SameDevices s.devices (after_copy drive (after_put this chars s put))
put_same this chars s drive None = record { same = refl }
put_same this chars s drive (Some done) = record { same = refl }

copy_same : (how : TapeMode) (this : TapeInstruction) (s : State) (drive : Drive) (next : Option (List ℕ))
    → SameDevices s.devices (after_copy drive (copied_by how this s next))
copy_same how this s drive None = record { same = refl }
copy_same how this s drive (Some chars) =
    put_same this chars s drive (read_to how s.storage this.b (cells_read how this.unit.is_odd chars))

room_same : (this : TapeInstruction) (s : State) (drive : Drive) (text : List ℕ) (n : ℕ) (room : Bool)
    → SameDevices s.devices (if room
    then Ok (record s { i = this.next; b = above_by this.b (n + 1) }, record drive { reel = after_write drive.reel text })
    else Err stop.Tape)
room_same this s drive text n true = record { same = refl }
room_same this s drive text n false = record { same = refl }

write_same : (how : TapeMode) (this : TapeInstruction) (s : State) (drive : Drive) (len : Option ℕ)
    → SameDevices s.devices (write_by how this s drive len)
write_same how this s drive None = record { same = refl }
write_same how this s drive (Some n) =
    let text = text_of how this.unit.is_odd (take n (drop this.b s.storage)) in
    either_same s.devices (n == 0) _ _ (record { same = refl })
    (room_same this s drive text n (nat_le (length text) (room_in drive.reel)))

ready_same : (asked : TapeWork) (this : TapeInstruction) (s : State) (drive : Drive)
    → SameDevices s.devices (work_ready asked this s drive)
ready_same (work.Read how) this s drive = copy_same how this s drive (slice_get drive.reel.ahead 0)
ready_same (work.Write how) this s drive =
    either_same s.devices drive.has_ring _ _ (write_same how this s drive (record_len_at s.storage this.b))
    (record { same = refl })
ready_same work.Backspace this s drive = record { same = refl }
ready_same work.Erase this s drive =
    either_same s.devices drive.has_ring _ _ (record { same = refl }) (record { same = refl })
ready_same work.WriteMark this s drive =
    either_same s.devices drive.has_ring _ _
    (either_same s.devices (nat_le 1 (room_in drive.reel)) _ _ (record { same = refl }) (record { same = refl }))
    (record { same = refl })
ready_same work.Rewind this s drive = record { same = refl }
ready_same work.Unload this s drive = record { same = refl }

work_same : (this : TapeInstruction) (s : State) (drive : Drive) → SameDevices s.devices (work_at this s drive)
unfolding work_at
work_same this s drive =
    either_same s.devices drive.is_ready _ _ (ready_same this.work this s drive) (record { same = refl })

after_same : (this : TapeInstruction) (t : TapedMachine) (outcome : TapeOutcome)
    → SameDevices t.machine.devices outcome → UsesOne t.machine.devices (after_work this t outcome).taped.machine.devices
after_same this t (Ok done) same =
    subst (λ (devices : Devices). UsesOne t.machine.devices devices) (sym same.same) (none_used t.machine.devices)
after_same this t (Err why) same = none_used t.machine.devices

used_by : StepLaw → (found : Option TapeInstruction) (t : TapedMachine)
    → UsesOne t.machine.devices (step_by found t).taped.machine.devices
used_by law None t = law.uses t.machine
used_by law (Some this) t =
    let drive = unit_of t.tapes this.unit.number in
    after_same this t (work_at this t.machine drive) (work_same this t.machine drive)

used : StepLaw → (t : TapedMachine) (branches : Bool) → takes_file_branch t ≡ branches
    → UsesOne t.machine.devices (taped_step t).taped.machine.devices
used law t true is =
    subst (λ (done : TapedStepped). UsesOne t.machine.devices done.taped.machine.devices) (sym (branch_step t is))
    (none_used t.machine.devices)
used law t false is =
    subst (λ (done : TapedStepped). UsesOne t.machine.devices done.taped.machine.devices) (sym (other_step t is))
    (used_by law (tape_instruction t.machine) t)

-- nor does the key that loads from tape look at them
load_framed : (f : Frame) (number : ℕ) (t : TapedMachine)
    → loaded_from number (taped_framed f t) ≡ taped_around f (loaded_from number t)
load_framed f number t =
    let drive = unit_of t.tapes number in
    ap (after_work (loading number) (taped_framed f t)) (work_framed f (loading number) t.machine drive)
    ∙ after_framed f (loading number) t (work_at (loading number) t.machine drive)

pub taped_step_laws : StepLaw → TapedStepLaw
taped_step_laws law = record {
  uses = λ t. used law t (takes_file_branch t) refl;
  in_frame = λ frame t unseen. framed_by law frame t (takes_file_branch t) refl unseen;
  loading = load_framed;
  instruction = same_instruction;
}
