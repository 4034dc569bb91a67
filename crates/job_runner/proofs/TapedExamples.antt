-- A job that reads a reel and prints it, worked out by hand. The program is at 600 in a core of 1,000 places, on a machine
-- that is fitted with tapes.
use Rattle.std.proofs.Common.{◌≡◌, false, List, [], ◌∷◌, ◌++◌, length, map, take, refl}
use Rattle.std.specs.Prelude.{ℕ, codes}
use Rattle.bcd_1401.specs.Graphic.{graphics}
use Rattle.bcd_1401.specs.declared.cell.Cell.{Cell}
use Rattle.core_1401.specs.Storage.{blanks}
use Rattle.devices_1401.specs.declared.print_line.PrintLine.{PrintLine}
use Rattle.machine_tables.specs.Features.{no_features, with_feature}
use Rattle.machine_tables.specs.declared.features.Feature.TheVariants as feature
use Rattle.machine_tables.specs.declared.stop.Stop.TheVariants as stop
use Rattle.machine_tapes.specs.Reel.{mounted, tape_mark}
use Rattle.cpu_1401.specs.Fetched.{instruction_at}
use Rattle.cpu_1401.specs.Fitting.{fitted_step}
use Rattle.cpu_1401.specs.State.{fitted_with}
use Rattle.cpu_1401.specs.Step.{step}
use Rattle.cpu_1401.proofs.ExampleCells.{cells_of, with_program}
use Rattle.machine_tapes.specs.Drive.{mounted_on}
use Rattle.machine_tapes.specs.Instruction.{tape_instruction}
use Rattle.machine_tapes.specs.TapedStep.{taped_step}
use Rattle.machine_tapes.specs.Tapes.{no_tapes, unit_of, with_unit}
use Rattle.machine_tapes.specs.Transfer.{work_at}
use Rattle.machine_tapes.specs.declared.taped_machine.TapedMachine.{TapedMachine}
use Rattle.job_runner.specs.Unattended.{Job, unattended}

-- the record of a text
abbrev record_of : List ℕ → List ℕ
record_of text = map (λ (cell : Cell). cell.char) (cells_of text)

-- a record is read to the print area and printed, until a tape mark is read: then the machine halts
abbrev lister : TapedMachine
lister = record {
  machine =
      fitted_with (with_feature no_features feature.Tapes)
      (with_program (take 600 (blanks 1000) ++ cells_of (codes "~M%U1201R~B618K~2~B600~.~ ") ++ take 379 (blanks 1000)) 600);
  tapes =
      with_unit 1
      (mounted_on (mounted (record_of (codes "ABC") ∷ record_of (codes "DEF") ∷ tape_mark ∷ []) 100) false) no_tapes;
}

abbrev listed : Job
listed = unattended 20 lister

it_halts : listed.stop ≡ stop.Halt
unfolding unattended taped_step tape_instruction instruction_at work_at fitted_step step graphics
it_halts = refl

each_record_is_a_line : map (λ (line : PrintLine). take 3 line.text) listed.lines
    ≡ record_of (codes "ABC") ∷ record_of (codes "DEF") ∷ []
unfolding unattended taped_step tape_instruction instruction_at work_at fitted_step step graphics
each_record_is_a_line = refl

the_reel_is_passed : length (unit_of listed.state.tapes 1).reel.passed ≡ 3
unfolding unattended taped_step tape_instruction instruction_at work_at fitted_step step graphics
the_reel_is_passed = refl
