-- Jobs of small machines, computed. The codes: 1 reads, 4 punches, 10 is zero, 59 the full stop.
use Rattle.std.proofs.Common.{◌≡◌, [], ◌∷◌, length, replicate, refl}
use Rattle.bcd_1401.specs.Graphic.{graphics}
use Rattle.core_1401.specs.Storage.{Storage}
use Rattle.devices_1401.specs.Devices.{no_cards}
use Rattle.devices_1401.specs.declared.card.Card.{Card}
use Rattle.machine_tables.specs.declared.stop.Stop.TheVariants as stop
use Rattle.cpu_1401.specs.CardsAndPrinter.{with_devices}
use Rattle.cpu_1401.specs.Run.{run_for}
use Rattle.cpu_1401.specs.State.{State}
use Rattle.cpu_1401.specs.Fitting.{fitted_step}
use Rattle.cpu_1401.specs.Step.{step}
use Rattle.cpu_1401.proofs.ExampleCells.{plain, marked, with_program}
use Rattle.machine_tapes.specs.Instruction.{tape_instruction}
use Rattle.machine_tapes.specs.TapedStep.{taped_step}
use Rattle.machine_tapes.specs.Tapes.{no_tapes}
use Rattle.machine_tapes.specs.declared.taped_machine.TapedMachine.{TapedMachine}
use Rattle.job_runner.specs.Unattended.{taped_with_deck, unattended}

abbrev a_card : Card
a_card = record { 0 = [] }

-- an instruction with address 000, at 000
abbrev again : Storage
again = marked 1 ∷ plain 10 ∷ plain 10 ∷ plain 10 ∷ marked 59 ∷ []

-- a machine without reels
abbrev bare : State → TapedMachine
bare s = record { machine = s; tapes = no_tapes }

abbrev reader : TapedMachine
reader = bare (with_program again 0)

-- three cards are read, then there is none
reads_the_deck : (unattended 10 (taped_with_deck (replicate 3 a_card) reader)).steps ≡ 3
unfolding unattended taped_step tape_instruction fitted_step step graphics
reads_the_deck = refl

then_the_reader_is_empty : (unattended 10 (taped_with_deck (replicate 3 a_card) reader)).stop ≡ stop.Reader
unfolding unattended taped_step tape_instruction fitted_step step graphics
then_the_reader_is_empty = refl

the_limit_leaves_a_card : (unattended 2 (taped_with_deck (replicate 3 a_card) reader)).state.machine.devices.hopper ≡ a_card ∷ []
unfolding unattended taped_step tape_instruction fitted_step step graphics
the_limit_leaves_a_card = refl

-- a hopper holds 500, a deck any number
reads_a_long_deck : (unattended 1000 (taped_with_deck (replicate 501 a_card) reader)).steps ≡ 501
unfolding unattended taped_step tape_instruction fitted_step step graphics
reads_a_long_deck = refl

-- a full stacker: the machine alone stops, the job goes on
abbrev puncher : State
puncher = with_devices (record no_cards { stacker = replicate 500 a_card })
    (with_program (marked 4 ∷ plain 10 ∷ plain 10 ∷ plain 10 ∷ marked 59 ∷ []) 0)

a_full_stacker_stops_the_machine : (run_for 2 puncher).stop ≡ stop.Stacker
unfolding run_for fitted_step step graphics
a_full_stacker_stops_the_machine = refl

a_full_stacker_does_not_stop_a_job : length (unattended 2 (bare puncher)).cards ≡ 502
unfolding unattended taped_step tape_instruction fitted_step step graphics
a_full_stacker_does_not_stop_a_job = refl
