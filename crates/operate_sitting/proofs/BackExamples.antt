-- Journals some instructions shorter, computed.
use Rattle.std.proofs.Common.{◌≡◌, Some, None, List, [], ◌∷◌, refl}
use Rattle.machine_tables.specs.declared.stop.Stop.TheVariants as stop
use Rattle.machine_commands.specs.declared.answer.Answer.TheVariants.{Done, Ran}
use Rattle.machine_commands.specs.declared.command.Command.TheVariants.{Run, SetI}
use Rattle.room_alone.specs.declared.entry.Entry.{Entry}
use Rattle.room_alone.specs.Journal.{entry}
use Rattle.room_alone.specs.Replay.{pair}
use Rattle.operate_sitting.specs.Back.{back_of, gone_from, instructions_of, whole_of}

-- six instructions, something that an operator does, and two more
abbrev eight : List Entry
eight = entry 0 (Run 6) (Ran 6 stop.Limit 419) ∷ entry 0 (SetI 419) Done ∷ entry 0 (Run 2) (Ran 2 stop.Limit 427) ∷ []

-- a run up to a halt after them, and a command after it
abbrev halted : List Entry
halted =
    entry 0 (Run 6) (Ran 6 stop.Limit 419)
    ∷ entry 0 (SetI 419) Done
    ∷ entry 0 (Run 90) (Ran 18 stop.Halt 463)
    ∷ entry 0 (SetI 400) Done
    ∷ []

-- a run that is refused its second instruction, which it doesn't count
abbrev refused : List Entry
refused = entry 0 (Run 2) (Ran 1 stop.Address 417) ∷ entry 0 (Run 1) (Ran 0 stop.Address 417) ∷ []

instructions_are_counted : instructions_of halted ≡ 24
instructions_are_counted = refl

a_run_that_is_gone_leaves_what_was_before_it : back_of 2 eight ≡ Some (pair 0 (Run 6) ∷ pair 0 (SetI 419) ∷ [])
a_run_that_is_gone_leaves_what_was_before_it = refl

a_run_is_cut : back_of 4 halted ≡ Some (pair 0 (Run 6) ∷ pair 0 (SetI 419) ∷ pair 0 (Run 14) ∷ [])
a_run_is_cut = refl

the_rest_of_the_run_and_what_came_after_it_are_gone : gone_from 4 halted ≡ pair 0 (Run 76) ∷ pair 0 (SetI 400) ∷ []
the_rest_of_the_run_and_what_came_after_it_are_gone = refl

two_runs_are_gone_back_into : back_of 19 halted ≡ Some (pair 0 (Run 5) ∷ [])
two_runs_are_gone_back_into = refl

nothing_is_left_of_it : back_of 8 eight ≡ Some []
nothing_is_left_of_it = refl

there_are_not_as_many : back_of 9 eight ≡ None
there_are_not_as_many = refl

no_instruction_taken_back : back_of 0 eight ≡ Some (pair 0 (Run 6) ∷ pair 0 (SetI 419) ∷ pair 0 (Run 2) ∷ [])
no_instruction_taken_back = refl

an_instruction_that_was_refused_does_not_count : back_of 1 refused ≡ Some []
an_instruction_that_was_refused_does_not_count = refl

a_run_that_is_cut_is_not_whole : whole_of 4 halted ≡ 2
a_run_that_is_cut_is_not_whole = refl

what_comes_before_the_next_instruction_is_whole : whole_of 2 eight ≡ 2
what_comes_before_the_next_instruction_is_whole = refl

all_are_whole_if_nothing_is_taken_back : whole_of 0 halted ≡ 4
all_are_whole_if_nothing_is_taken_back = refl
