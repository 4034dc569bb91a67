-- What two seats of a small shared room know after three commands, computed.
use Rattle.std.proofs.Common.{◌≡◌, true, List, [], ◌∷◌, refl, arith}
use Rattle.bcd_1401.specs.declared.cell.Cell.{Cell}
use Rattle.core_1401.specs.Storage.{blank}
use Rattle.machine_commands.specs.declared.answer.Answer.TheVariants.{Done, Cells, Refused}
use Rattle.machine_commands.specs.declared.answer.Refusal.TheVariants.{Address}
use Rattle.machine_commands.specs.declared.command.Command.TheVariants.{Deposit, Examine, SetI}
use Rattle.room_alone.specs.declared.entry.Entry.{Entry}
use Rattle.room_alone.specs.declared.entry.SeatedCommand.{SeatedCommand}
use Rattle.room_1401.specs.declared.fault.CloseFault.TheVariants.{Unreturned}
use Rattle.cpu_1401.specs.CarryOut.{carry_out}
use Rattle.room_1401.specs.Closing.{ClosesBy, IsSettled, back_of}
use Rattle.room_alone.specs.Journal.{entry}
use Rattle.room_alone.specs.Replay.{cell_after, pair}
use Rattle.room_1401.specs.Seen.{Carries, SeatView, newcomer, newcomers, own}

-- K with a word mark
abbrev marked_k : Cell
marked_k = record { char = 34; mark = true }

-- seat 1 puts a K at place 1
abbrev first : List SeatedCommand
first = pair 1 (Deposit 1 (marked_k ∷ [])) ∷ []

-- then seat 2 looks at places 0 and 1, and seat 1 starts out of core
abbrev all : List SeatedCommand
all = pair 1 (Deposit 1 (marked_k ∷ [])) ∷ pair 2 (Examine 0 2) ∷ pair 1 (SetI 3) ∷ []

two_seats_are_numbered_from_one : newcomers 2 ≡ newcomer 1 ∷ newcomer 2 ∷ []
two_seats_are_numbered_from_one = refl

seat_one_has_two_of_the_three : own 1 all ≡ 2
seat_one_has_two_of_the_three = refl

seat_two_sees_the_k : Carries 3 [] (pair 1 (Deposit 1 (marked_k ∷ [])) ∷ pair 2 (Examine 0 2) ∷ []) 2 (Examine 0 2)
    (Cells (blank ∷ marked_k ∷ []))
unfolding carry_out
seat_two_sees_the_k = record { front = first; begins = (first, refl); ends = refl; answered = refl }

a_glance_after_the_deposit_shows_the_k : cell_after 3 first 1 ≡ marked_k
unfolding carry_out
a_glance_after_the_deposit_shows_the_k = refl

a_glance_before_it_shows_a_blank : cell_after 3 [] 1 ≡ blank
a_glance_before_it_shows_a_blank = refl

-- seat 1 made two commands and saw all, seat 2 made one and didn't see the last
abbrev one : SeatView
one = record { number = 1; made = 2; list = all }

abbrev two : SeatView
two = record { number = 2; made = 1; list = pair 1 (Deposit 1 (marked_k ∷ [])) ∷ pair 2 (Examine 0 2) ∷ [] }

-- the journal of the three commands
abbrev journal : List Entry
journal =
    entry 1 (Deposit 1 (marked_k ∷ [])) Done
    ∷ entry 2 (Examine 0 2) (Cells (blank ∷ marked_k ∷ []))
    ∷ entry 1 (SetI 3) (Refused Address)
    ∷ []

both_seats_have_what_they_made : IsSettled journal (two ∷ one ∷ [])
both_seats_have_what_they_made = record {
  seated = (refl, (refl, (refl, tt)));
  exact = (((pair 1 (SetI 3) ∷ [], refl), refl), ((([], refl), refl), tt));
  made = refl;
}

one_of_two_is_back : back_of 2 (one ∷ []) ≡ 1
one_of_two_is_back = refl

seat_one_alone_is_not_all : ClosesBy (λ shown. Unit {0}) 2 (one ∷ []) (Unreturned 1 2)
seat_one_alone_is_not_all = (refl, refl, omega arith)
