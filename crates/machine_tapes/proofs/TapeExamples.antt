-- Tape instructions, worked out by hand. Each program begins at 600 in a core of 1,000 places, on a machine that is fitted
-- with tapes; a full stop after it ends its last instruction. Unit 1 has a reel with room for 100 characters.
use Rattle.std.proofs.Common.{◌≡◌, ℕ, ◌+◌, Bool, true, false, List, [], ◌∷◌, ◌++◌, length, map, take, drop, refl}
use Rattle.std.specs.Prelude.{codes}
use Rattle.bcd_1401.specs.Graphic.{graphics}
use Rattle.bcd_1401.specs.declared.cell.Cell.{Cell}
use Rattle.core_1401.specs.Storage.{Storage, blanks}
use Rattle.machine_tables.specs.Features.{no_features, with_feature}
use Rattle.machine_tables.specs.declared.features.Feature.TheVariants as feature
use Rattle.machine_tables.specs.declared.stop.Stop.{Stop}
use Rattle.machine_tables.specs.declared.stop.Stop.TheVariants as stop
use Rattle.machine_tapes.specs.Reel.{mounted, records_of, tape_mark}
use Rattle.cpu_1401.specs.Fetched.{instruction_at}
use Rattle.cpu_1401.specs.Fitting.{fitted_step}
use Rattle.cpu_1401.specs.State.{State, fitted_with}
use Rattle.cpu_1401.specs.Step.{step}
use Rattle.cpu_1401.proofs.ExampleCells.{cells_of, with_program}
use Rattle.machine_tapes.specs.Drive.{mounted_on}
use Rattle.machine_tapes.specs.Instruction.{tape_instruction}
use Rattle.machine_tapes.specs.TapedRun.{TapedFinished, taped_run_for}
use Rattle.machine_tapes.specs.TapedStep.{taped_step}
use Rattle.machine_tapes.specs.Tapes.{Tapes, no_tapes, unit_of, with_unit}
use Rattle.machine_tapes.specs.Transfer.{work_at}

-- a text at a place
abbrev laid : ℕ → List ℕ → Storage → Storage
laid at text storage =
    let cells = cells_of text in take at storage ++ cells ++ drop (at + length cells) storage

-- a machine that is fitted with tapes, this text at a place, and this program
abbrev machine : ℕ → List ℕ → List ℕ → State
machine at text program =
    fitted_with (with_feature no_features feature.Tapes)
    (with_program (laid at text (laid 600 (program ++ codes "~.") (blanks 1000))) 600)

-- the record of a text
abbrev record_of : List ℕ → List ℕ
record_of text = map (λ (cell : Cell). cell.char) (cells_of text)

-- these records on a reel of unit 1, at the load point
abbrev on_one : Bool → List (List ℕ) → Tapes
on_one has_ring records = with_unit 1 (mounted_on (mounted records 100) has_ring) no_tapes

-- a run of this many instructions, with these records on unit 1, which has a ring or none
abbrev run_on : Bool → List (List ℕ) → State → ℕ → TapedFinished
run_on has_ring records s limit = taped_run_for limit (record { machine = s; tapes = on_one has_ring records })

abbrev run : List (List ℕ) → State → ℕ → TapedFinished
run records s limit = run_on true records s limit

-- how a run ends: the I, A and B registers, and its stop
abbrev ends : TapedFinished → ℕ × ℕ × ℕ × Stop
ends done = (done.taped.machine.i, done.taped.machine.a, done.taped.machine.b, done.stop)

-- the cells that a run leaves from a place on
abbrev leaves : TapedFinished → ℕ → ℕ → Storage
leaves done at n = take n (drop at done.taped.machine.storage)

-- the records that it leaves on unit 1
abbrev leaves_on_one : TapedFinished → List (List ℕ)
leaves_on_one done = records_of (unit_of done.taped.tapes 1).reel

-- a move reads to the end of the record; word marks stay, and a group mark follows
abbrev a_move : TapedFinished
a_move =
    run (record_of (codes "AB^") ∷ tape_mark ∷ [])
    (machine 800 (codes "~X~X~X~X~X") (codes "~M%U1800R")) 1

a_move_ends : ends a_move ≡ (608, 0, 804, stop.Limit)
unfolding graphics taped_run_for taped_step tape_instruction work_at fitted_step step
a_move_ends = refl

a_move_leaves : leaves a_move 800 5 ≡ cells_of (codes "~A~B~ ~\"~X")
unfolding graphics taped_run_for taped_step tape_instruction work_at fitted_step step
a_move_leaves = refl

-- a load sets the word marks of the tape, and clears the others
abbrev a_load : TapedFinished
a_load =
    run (record_of (codes "A=BC") ∷ [])
    (machine 800 (codes "~X~X~X~X~X") (codes "~L%U1800R")) 1

a_load_ends : ends a_load ≡ (608, 0, 804, stop.Limit)
unfolding graphics taped_run_for taped_step tape_instruction work_at fitted_step step
a_load_ends = refl

a_load_leaves : leaves a_load 800 5 ≡ cells_of (codes "A~BC\"~X")
unfolding graphics taped_run_for taped_step tape_instruction work_at fitted_step step
a_load_leaves = refl

-- a move reads the separator as a character
abbrev a_move_of_a_separator : TapedFinished
a_move_of_a_separator =
    run (record_of (codes "A=BC") ∷ [])
    (machine 800 [] (codes "~M%U1800R")) 1

a_move_of_a_separator_ends : ends a_move_of_a_separator ≡ (608, 0, 805, stop.Limit)
unfolding graphics taped_run_for taped_step tape_instruction work_at fitted_step step
a_move_of_a_separator_ends = refl

a_move_of_a_separator_leaves : leaves a_move_of_a_separator 800 5 ≡ cells_of (codes "A=BC\"")
unfolding graphics taped_run_for taped_step tape_instruction work_at fitted_step step
a_move_of_a_separator_leaves = refl

-- a group mark with a word mark ends the reading, and the rest of the record is lost
abbrev a_short_area : TapedFinished
a_short_area =
    run (record_of (codes "ABCDE") ∷ record_of (codes "FG") ∷ [])
    (machine 802 (codes "~\"") (codes "~M%U1800R~M%U1810R")) 2

a_short_area_ends : ends a_short_area ≡ (616, 0, 813, stop.Limit)
unfolding graphics taped_run_for taped_step tape_instruction work_at fitted_step step
a_short_area_ends = refl

a_short_area_leaves : leaves a_short_area 800 4 ≡ cells_of (codes "AB~\" ")
unfolding graphics taped_run_for taped_step tape_instruction work_at fitted_step step
a_short_area_leaves = refl

a_short_area_leaves_next : leaves a_short_area 810 3 ≡ cells_of (codes "FG\"")
unfolding graphics taped_run_for taped_step tape_instruction work_at fitted_step step
a_short_area_leaves_next = refl

-- in odd parity the A bit alone is a character
abbrev an_odd_record : TapedFinished
an_odd_record =
    run (record_of (codes "A^B") ∷ [])
    (machine 800 [] (codes "~M%B1800R")) 1

an_odd_record_leaves : leaves an_odd_record 800 4 ≡ cells_of (codes "A^B\"")
unfolding graphics taped_run_for taped_step tape_instruction work_at fitted_step step
an_odd_record_leaves = refl

-- a tape mark is read as one character, and K branches once
abbrev a_file_end : TapedFinished
a_file_end =
    run (tape_mark ∷ [])
    (machine 900 (codes "~B910K~.~ ") (codes "~M%U1800R~B900K")) 3

a_file_end_ends : ends a_file_end ≡ (905, 910, 613, stop.Limit)
unfolding graphics instruction_at taped_run_for taped_step tape_instruction work_at fitted_step step
a_file_end_ends = refl

a_file_end_leaves : leaves a_file_end 800 2 ≡ cells_of (codes "(\"")
unfolding graphics instruction_at taped_run_for taped_step tape_instruction work_at fitted_step step
a_file_end_leaves = refl

-- a move writes characters, and blanks as the A bit alone
abbrev a_written_move : TapedFinished
a_written_move =
    run []
    (machine 800 (codes "A~B C~\"") (codes "~M%U1800W")) 1

a_written_move_ends : ends a_written_move ≡ (608, 0, 805, stop.Limit)
unfolding graphics taped_run_for taped_step tape_instruction work_at fitted_step step
a_written_move_ends = refl

a_written_move_writes : leaves_on_one a_written_move ≡ record_of (codes "AB^C") ∷ []
unfolding graphics taped_run_for taped_step tape_instruction work_at fitted_step step
a_written_move_writes = refl

-- a load writes a separator before a character with a word mark
abbrev a_written_load : TapedFinished
a_written_load =
    run []
    (machine 800 (codes "A~B C~\"") (codes "~L%U1800W")) 1

a_written_load_ends : ends a_written_load ≡ (608, 0, 805, stop.Limit)
unfolding graphics taped_run_for taped_step tape_instruction work_at fitted_step step
a_written_load_ends = refl

a_written_load_writes : leaves_on_one a_written_load ≡ record_of (codes "A=B^C") ∷ []
unfolding graphics taped_run_for taped_step tape_instruction work_at fitted_step step
a_written_load_writes = refl

-- what was ahead of a record that is written is gone
abbrev a_written_first : TapedFinished
a_written_first =
    run (record_of (codes "ABCD") ∷ record_of (codes "EF") ∷ tape_mark ∷ [])
    (machine 800 (codes "XY~\"") (codes "~M%U1800W")) 1

a_written_first_writes : leaves_on_one a_written_first ≡ record_of (codes "XY") ∷ []
unfolding graphics taped_run_for taped_step tape_instruction work_at fitted_step step
a_written_first_writes = refl

-- a tape mark, a backspace, a tape mark and a rewind
abbrev controls_in_turn : TapedFinished
controls_in_turn =
    run []
    (machine 800 (codes "X~\"") (codes "~M%U1800W~U%U1M~U%U1B~U%U1M~U%U1R~M%U1820R")) 6

controls_in_turn_leaves : leaves controls_in_turn 820 2 ≡ cells_of (codes "X\"")
unfolding graphics taped_run_for taped_step tape_instruction work_at fitted_step step
controls_in_turn_leaves = refl

controls_in_turn_writes : leaves_on_one controls_in_turn ≡ record_of (codes "X") ∷ tape_mark ∷ []
unfolding graphics taped_run_for taped_step tape_instruction work_at fitted_step step
controls_in_turn_writes = refl

-- a backspace at the load point stays there
abbrev a_backspace_at_the_load_point : TapedFinished
a_backspace_at_the_load_point =
    run (record_of (codes "AB") ∷ record_of (codes "CD") ∷ [])
    (machine 800 [] (codes "~U%U1B~M%U1800R")) 2

a_backspace_at_the_load_point_leaves : leaves a_backspace_at_the_load_point 800 3 ≡ cells_of (codes "AB\"")
unfolding graphics taped_run_for taped_step tape_instruction work_at fitted_step step
a_backspace_at_the_load_point_leaves = refl

-- nothing more is on the reel
abbrev an_end_of_tape : TapedFinished
an_end_of_tape =
    run []
    (machine 800 [] (codes "~M%U1800R")) 1

an_end_of_tape_ends : ends an_end_of_tape ≡ (600, 0, 0, stop.Tape)
unfolding graphics taped_run_for taped_step tape_instruction work_at fitted_step step
an_end_of_tape_ends = refl

-- no reel was mounted on the unit
abbrev another_unit : TapedFinished
another_unit =
    run []
    (machine 800 [] (codes "~M%U2800R")) 1

another_unit_ends : ends another_unit ≡ (600, 0, 0, stop.Tape)
unfolding graphics taped_run_for taped_step tape_instruction work_at fitted_step step
another_unit_ends = refl

-- the reel has no ring
abbrev a_missing_ring : TapedFinished
a_missing_ring =
    run_on false []
    (machine 800 (codes "X~\"") (codes "~M%U1800W")) 1

a_missing_ring_ends : ends a_missing_ring ≡ (600, 0, 0, stop.Tape)
unfolding graphics taped_run_for taped_step tape_instruction work_at fitted_step step
a_missing_ring_ends = refl

-- the unit was unloaded
abbrev an_unloaded_reel : TapedFinished
an_unloaded_reel =
    run (record_of (codes "AB") ∷ [])
    (machine 800 [] (codes "~U%U1U~M%U1800R")) 2

an_unloaded_reel_ends : ends an_unloaded_reel ≡ (605, 0, 0, stop.Tape)
unfolding graphics taped_run_for taped_step tape_instruction work_at fitted_step step
an_unloaded_reel_ends = refl

-- there is no such unit
abbrev no_unit : TapedFinished
no_unit =
    run []
    (machine 800 [] (codes "~M%T0800W")) 1

no_unit_ends : ends no_unit ≡ (600, 0, 0, stop.NotFitted)
unfolding graphics taped_run_for taped_step tape_instruction work_at fitted_step step
no_unit_ends = refl

-- no control has this d-character
abbrev no_control : TapedFinished
no_control =
    run []
    (machine 800 [] (codes "~U%U1X")) 1

no_control_ends : ends no_control ≡ (600, 0, 0, stop.DChar)
unfolding graphics taped_run_for taped_step tape_instruction work_at fitted_step step
no_control_ends = refl

-- nothing is to be written
abbrev nothing_to_write : TapedFinished
nothing_to_write =
    run []
    (machine 800 (codes "~\"") (codes "~M%U1800W")) 1

nothing_to_write_ends : ends nothing_to_write ≡ (600, 0, 0, stop.Address)
unfolding graphics taped_run_for taped_step tape_instruction work_at fitted_step step
nothing_to_write_ends = refl

-- no group mark with a word mark is in core
abbrev no_end_in_core : TapedFinished
no_end_in_core =
    run []
    (machine 800 (codes "A") (codes "~M%U1800W")) 1

no_end_in_core_ends : ends no_end_in_core ≡ (600, 0, 0, stop.Address)
unfolding graphics taped_run_for taped_step tape_instruction work_at fitted_step step
no_end_in_core_ends = refl

-- K and L never branch without a tape
abbrev no_tape : TapedFinished
no_tape =
    run []
    (machine 800 [] (codes "~B900K~B900L")) 2

no_tape_ends : ends no_tape ≡ (610, 900, 0, stop.Limit)
unfolding graphics taped_run_for taped_step tape_instruction work_at fitted_step step
no_tape_ends = refl
