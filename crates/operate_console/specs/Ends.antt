-- How lines end a sitting, and what has failed by then (own).
use Rattle.std.specs.Prelude.{◌≡◌, ◌⊎◌, ℕ, Bool, true, false, not, ◌&&◌, ◌||◌, List, [], ◌∷◌}
use Rattle.std.specs.Prelude.{Option, None, Some, Result, Ok, Err}
use Rattle.machine_commands.specs.declared.fault.RoomFault.{RoomFault}
use Rattle.machine_commands.specs.declared.fault.RoomFault.TheVariants as room
use Rattle.operate_console.specs.declared.acting.Cut.{Cut}
use Rattle.operate_console.specs.declared.acting.Cut.TheVariants as cut
use Rattle.operate_console.specs.declared.ends.Failure.{Failure}
use Rattle.operate_console.specs.declared.ends.Failure.TheVariants as failure
use Rattle.operate_console.specs.declared.ends.OperateEnd.{OperateEnd}
use Rattle.operate_console.specs.declared.ends.OperateEnd.TheVariants as end
use Rattle.operate_console.specs.declared.rounds.RunFault.{RunFault}
use Rattle.operate_console.specs.declared.rounds.RunFault.TheVariants as round
use Rattle.operate_console.specs.declared.running.Ran.{Ran}
use Rattle.operate_console.specs.declared.running.Ran.TheVariants as ran
use Rattle.operate_console.specs.declared.typed.Typed.{Typed}
use Rattle.operate_console.specs.declared.typed.Typed.TheVariants as typed

-- whether a read failed, a write, or what keeps the journal
abbrev pub is_read : Option Failure → Bool
is_read None = false
is_read (Some failure.Read) = true
is_read (Some failure.Write) = false
is_read (Some failure.Bound) = false
is_read (Some failure.Memory) = false
is_read (Some failure.Unkept) = false

abbrev pub is_write : Option Failure → Bool
is_write None = false
is_write (Some failure.Read) = false
is_write (Some failure.Write) = true
is_write (Some failure.Bound) = false
is_write (Some failure.Memory) = false
is_write (Some failure.Unkept) = false

abbrev pub is_unkept : Option Failure → Bool
is_unkept None = false
is_unkept (Some failure.Read) = false
is_unkept (Some failure.Write) = false
is_unkept (Some failure.Bound) = false
is_unkept (Some failure.Memory) = false
is_unkept (Some failure.Unkept) = true

-- what failed in what is done for a line: in what gives a result, in an act, and in a line that leaves a sitting
abbrev pub failure_of : {A : Type 0} → Result A Failure → Option Failure
failure_of (Ok it) = None
failure_of (Err why) = Some why

abbrev pub is_over : Cut → Bool
is_over cut.Faulted = false
is_over (cut.Over why) = true

abbrev pub failure_in_cut : Cut → Option Failure
failure_in_cut cut.Faulted = None
failure_in_cut (cut.Over why) = Some why

abbrev pub failure_of_cut : {A : Type 0} → Result A Cut → Option Failure
failure_of_cut (Ok it) = None
failure_of_cut (Err it) = failure_in_cut it

abbrev pub failure_after : {A : Type 0} → Result (A × Option Failure) Failure → Option Failure
failure_after (Ok after) = after.1
failure_after (Err why) = Some why

-- what failed, if a sitting ended so
abbrev pub failure_in : OperateEnd → Option Failure
failure_in end.Quit = None
failure_in end.EndOfInput = None
failure_in (end.Failed why) = Some why

-- whether a room takes no command since an entry isn't kept
abbrev pub is_unkept_fault : RoomFault → Bool
is_unkept_fault room.Memory = false
is_unkept_fault room.JournalFull = false
is_unkept_fault room.NoReading = false
is_unkept_fault room.Unkept = true

abbrev pub was_unkept : {A : Type 0} → Result A RoomFault → Bool
was_unkept (Ok it) = false
was_unkept (Err fault) = is_unkept_fault fault

-- the same of a round
abbrev pub is_round_unkept : {A : Type 0} → Result A RunFault → Bool
is_round_unkept (Ok it) = false
is_round_unkept (Err (round.Refused fault)) = is_unkept_fault fault
is_round_unkept (Err (round.Over why)) = is_unkept (Some why)

-- whether a read or a write failed in a round, which makes neither
abbrev pub read_of_round : {A : Type 0} → Result A RunFault → Bool
read_of_round (Ok it) = false
read_of_round (Err (round.Refused fault)) = false
read_of_round (Err (round.Over why)) = is_read (Some why)

abbrev pub write_of_round : {A : Type 0} → Result A RunFault → Bool
write_of_round (Ok it) = false
write_of_round (Err (round.Refused fault)) = false
write_of_round (Err (round.Over why)) = is_write (Some why)

-- and of a run
abbrev pub is_ran_unkept : Ran → Bool
is_ran_unkept (ran.Ended why steps) = false
is_ran_unkept (ran.Refused fault) = is_unkept_fault fault

abbrev pub is_run_unkept : Result Ran Failure → Bool
is_run_unkept (Ok how) = is_ran_unkept how
is_run_unkept (Err why) = is_unkept (Some why)

-- no byte is left, if those that are left are known
abbrev pub is_at_end : Option (List ℕ) → Bool
is_at_end None = true
is_at_end (Some []) = true
is_at_end (Some (byte ∷ more)) = false

-- whether what was typed ends the input
abbrev pub is_last_typed : Typed → Bool
is_last_typed (typed.Line line) = false
is_last_typed typed.Dropped = false
is_last_typed (typed.Last line) = true

-- The source has failed, if a read failed; or else it hasn't, and has no byte left if the end of the input is noted.
abbrev pub source_so : Bool → Bool → Bool → Option (List ℕ) → Bool
source_so true has_ended has_failed left = has_failed
source_so false has_ended has_failed left = not has_failed && (not has_ended || is_at_end left)

-- the same after a read, which fails neither to write nor to keep
abbrev pub heard_so : Option Failure → Bool → Bool → Option (List ℕ) → Bool
heard_so None has_ended has_failed left = source_so false has_ended has_failed left
heard_so (Some failure.Read) has_ended has_failed left = source_so true has_ended has_failed left
heard_so (Some failure.Write) has_ended has_failed left = false
heard_so (Some failure.Bound) has_ended has_failed left = source_so false has_ended has_failed left
heard_so (Some failure.Memory) has_ended has_failed left = source_so false has_ended has_failed left
heard_so (Some failure.Unkept) has_ended has_failed left = false

-- what a sitting that ended so leaves of its source
abbrev pub SourceLeft : OperateEnd → Bool → Option (List ℕ) → Type 0
SourceLeft end.Quit has_failed left = has_failed ≡ false
SourceLeft end.EndOfInput has_failed left = (has_failed ≡ false) × (is_at_end left ≡ true)
SourceLeft (end.Failed why) has_failed left = is_read (Some why) ≡ true → has_failed ≡ true

-- a sitting ends as its lines ended it, or since its last answer can't be shown, for a write or for memory
abbrev pub LastShown : OperateEnd → OperateEnd → Type 0
LastShown ended shown =
    (shown ≡ ended)
    ⊎ ((why : Failure) × (is_read (Some why) ≡ false) × (is_unkept (Some why) ≡ false) × (shown ≡ end.Failed why))
