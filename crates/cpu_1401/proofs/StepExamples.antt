-- Steps and runs of small machines, computed. The codes are 27 for the comma, 59 for the full stop, 36 for M, 19 for T,
-- 10 for zero.
use Rattle.std.proofs.Common.{◌≡◌, [], ◌∷◌, None, Some, refl}
use Rattle.bcd_1401.specs.Graphic.{graphics}
use Rattle.core_1401.specs.Storage.{Storage}
use Rattle.fields_1401.specs.Marks.{cleared}
use Rattle.fields_1401.specs.Load.{load_at, loaded}
use Rattle.fields_1401.specs.Move.{move_at, moved}
use Rattle.fields_1401.specs.Places.{with_cells, with_chars}
use Rattle.machine_tables.specs.declared.stop.Stop.TheVariants as stop
use Rattle.cpu_1401.specs.Fitting.{fitted_step}
use Rattle.cpu_1401.specs.Run.{run_for}
use Rattle.cpu_1401.specs.State.{power_on, regs_of}
use Rattle.cpu_1401.specs.Step.{step}
use Rattle.cpu_1401.proofs.ExampleCells.{plain, marked, with_program}

-- a comma with address 001, and a halt after it
abbrev set_mark : Storage
set_mark = marked 27 ∷ plain 10 ∷ plain 10 ∷ plain 1 ∷ marked 59 ∷ []

one_address_goes_into_both_registers : step (with_program set_mark 0) ≡ record {
  state = record (with_program (marked 27 ∷ marked 10 ∷ plain 10 ∷ plain 1 ∷ marked 59 ∷ []) 4) { a = 0; b = 0 };
  stop = None;
}
unfolding step graphics
one_address_goes_into_both_registers = refl

a_halt_goes_on_beyond_it : step (with_program set_mark 4)
    ≡ record { state = with_program set_mark 5; stop = Some stop.Halt }
unfolding step graphics
a_halt_goes_on_beyond_it = refl

no_mark_no_instruction : step (with_program set_mark 1)
    ≡ record { state = with_program set_mark 1; stop = Some stop.NoMark }
unfolding step graphics
no_mark_no_instruction = refl

out_of_core_no_instruction : step (with_program set_mark 5)
    ≡ record { state = with_program set_mark 5; stop = Some stop.NoMark }
unfolding step graphics
out_of_core_no_instruction = refl

-- a comma with the address 999
abbrev far_mark : Storage
far_mark = marked 27 ∷ plain 9 ∷ plain 9 ∷ plain 9 ∷ marked 59 ∷ []

a_place_out_of_core_stops : step (with_program far_mark 0)
    ≡ record { state = with_program far_mark 0; stop = Some stop.Address }
unfolding step graphics
a_place_out_of_core_stops = refl

no_such_operation : (step (with_program (marked 19 ∷ marked 59 ∷ []) 0)).stop ≡ Some stop.OpCode
unfolding step graphics
no_such_operation = refl

-- a halt of three characters
no_such_length : (step (with_program (marked 59 ∷ plain 10 ∷ plain 10 ∷ marked 59 ∷ []) 0)).stop ≡ Some stop.Length
unfolding step graphics
no_such_length = refl

-- eight characters of a move
a_move_of_tapes : (step (with_program (marked 36 ∷ plain 10 ∷ plain 10 ∷ plain 10 ∷ plain 10 ∷ plain 10 ∷ plain 1
    ∷ plain 10 ∷ marked 59 ∷ []) 0)).stop ≡ Some stop.NotFitted
unfolding step graphics
a_move_of_tapes = refl

-- a chained move takes the registers as they stand
a_chained_move : step (record (with_program (marked 36 ∷ marked 59 ∷ marked 5 ∷ plain 6 ∷ plain 7
    ∷ []) 0) { a = 3; b = 4 }) ≡ record {
      state = record (with_program (marked 36 ∷ marked 59 ∷ marked 5 ∷ plain 5 ∷ plain 6 ∷ []) 1) { a = 1; b = 2 };
      stop = None;
    }
unfolding step graphics move_at moved with_chars with_cells
a_chained_move = refl

-- one address of a move goes into the A register alone
a_move_of_one_address : (step (record (with_program (marked 36 ∷ plain 10 ∷ plain 10 ∷ plain 6 ∷ marked 59 ∷ marked 5
    ∷ plain 7 ∷ []) 0) { b = 5 })).state
    ≡ record (with_program (marked 36 ∷ plain 10 ∷ plain 10 ∷ plain 6 ∷ marked 59 ∷ marked 7 ∷ plain 7
    ∷ []) 4) { a = 5; b = 4 }
unfolding step graphics move_at moved with_chars with_cells
a_move_of_one_address = refl

-- a load, 35, chained
a_chained_load : (step (record (with_program (marked 35 ∷ marked 59 ∷ marked 5 ∷ plain 6 ∷ plain 7 ∷ marked 8
    ∷ []) 0) { a = 3; b = 5 })).state
    ≡ record (with_program (marked 35 ∷ marked 59 ∷ marked 5 ∷ plain 6 ∷ marked 5 ∷ plain 6 ∷ []) 1) { a = 1; b = 3 }
unfolding step graphics load_at loaded with_cells
a_chained_load = refl

-- a halt with the address 003
a_halt_goes_on_at_its_address : step (with_program (marked 59 ∷ plain 10 ∷ plain 10 ∷ plain 3 ∷ marked 59 ∷ []) 0)
    ≡ record {
      state = record (with_program (marked 59 ∷ plain 10 ∷ plain 10 ∷ plain 3 ∷ marked 59
          ∷ []) 3) { a = 3; b = 4 };
      stop = Some stop.Halt;
    }
unfolding step graphics
a_halt_goes_on_at_its_address = refl

-- a slash, 17, chained: two places are cleared, and the A register stays
a_chained_clearing : (step (record (with_program (marked 5 ∷ marked 6 ∷ marked 17 ∷ marked 59
    ∷ []) 2) { a = 9; b = 1 })).state
    ≡ record (with_program (plain 0 ∷ plain 0 ∷ marked 17 ∷ marked 59 ∷ []) 3) { a = 9; b = 15999 }
unfolding step graphics cleared with_cells
a_chained_clearing = refl

-- a slash with the addresses 009 and 001 at 2: the branch goes to 009
a_clearing_that_branches : (step (with_program (marked 5 ∷ marked 6 ∷ marked 17 ∷ plain 10 ∷ plain 10 ∷ plain 9
    ∷ plain 10 ∷ plain 10 ∷ plain 1 ∷ marked 59 ∷ []) 2)).state
    ≡ record (with_program (plain 0 ∷ plain 0 ∷ marked 17 ∷ plain 10 ∷ plain 10 ∷ plain 9 ∷ plain 10 ∷ plain 10
    ∷ plain 1 ∷ marked 59 ∷ []) 9) { a = 9; b = 9 }
unfolding step graphics cleared with_cells
a_clearing_that_branches = refl

the_devices_stand_at_the_first_line : ((regs_of (power_on 0)).form ≡ 1) × ((regs_of (power_on 0)).line ≡ 1)
the_devices_stand_at_the_first_line = (refl, refl)

a_run_ends_with_its_halt : run_for 9 (with_program set_mark 0) ≡ record {
  state = record (with_program (marked 27 ∷ marked 10 ∷ plain 10 ∷ plain 1 ∷ marked 59 ∷ []) 5) { a = 0; b = 0 };
  steps = 2;
  stop = stop.Halt;
}
unfolding step fitted_step graphics run_for
a_run_ends_with_its_halt = refl

a_halt_as_the_last_step_answers_halt : (run_for 1 (with_program set_mark 4)).stop ≡ stop.Halt
unfolding step fitted_step graphics run_for
a_halt_as_the_last_step_answers_halt = refl

the_limit_is_met : (run_for 1 (with_program set_mark 0)).stop ≡ stop.Limit
unfolding step fitted_step graphics run_for
the_limit_is_met = refl
