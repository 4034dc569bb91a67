-- Back in time (own): a journal that carries out fewer instructions, and what is gone from it.
use Rattle.std.specs.Prelude.{ℕ, ◌+◌, ◌-◌, zero, suc, nat_le, if◌then◌else◌, List, [], ◌∷◌, Option, None, Some}
use Rattle.machine_commands.specs.declared.answer.Answer.{Answer}
use Rattle.machine_commands.specs.declared.answer.Answer.TheVariants as answer
use Rattle.machine_commands.specs.declared.command.Command.{Command}
use Rattle.machine_commands.specs.declared.command.Command.TheVariants as command
use Rattle.room_alone.specs.declared.entry.Entry.{Entry}
use Rattle.room_alone.specs.declared.entry.SeatedCommand.{SeatedCommand}
use Rattle.room_alone.specs.Journal.{pair_of, pairs_of}
use Rattle.room_alone.specs.Replay.{pair}

-- how many instructions an answer reports: those that a run carried out
abbrev pub steps_in : Answer → ℕ
steps_in (answer.Ran steps why i) = steps
steps_in answer.Done = 0
steps_in (answer.Cells cells) = 0
steps_in (answer.Regs regs) = 0
steps_in (answer.Line line) = 0
steps_in (answer.Card card) = 0
steps_in (answer.Refused why) = 0

-- how many instructions the runs of a journal carried out
abbrev pub instructions_of : List Entry → ℕ
instructions_of [] = 0
instructions_of (entry ∷ entries) = steps_in entry.answer + instructions_of entries

-- what stays of a run that is cut after this many instructions: a shorter run, or nothing
abbrev pub part_of : ℕ → ℕ → List SeatedCommand
part_of seat zero = []
part_of seat (suc left) = pair seat (command.Run (suc left)) ∷ []

-- The commands that carry out the first instructions of a journal, this many. An entry stays whole if its instructions
-- are among them, and so does one without an instruction before the next one; the first that goes beyond is cut, and
-- all after it are gone.
abbrev pub first_of : ℕ → List Entry → List SeatedCommand
first_of left [] = []
first_of left (entry ∷ entries) =
    if nat_le (steps_in entry.answer) left
    then pair_of entry ∷ first_of (left - steps_in entry.answer) entries
    else part_of entry.seat left

-- how many entries stay whole then
abbrev pub whole_in : ℕ → List Entry → ℕ
whole_in left [] = 0
whole_in left (entry ∷ entries) =
    if nat_le (steps_in entry.answer) left then suc (whole_in (left - steps_in entry.answer) entries) else 0

-- and what stays of the next one
abbrev pub part_in : ℕ → List Entry → List SeatedCommand
part_in left [] = []
part_in left (entry ∷ entries) =
    if nat_le (steps_in entry.answer) left
    then part_in (left - steps_in entry.answer) entries
    else part_of entry.seat left

-- what is left to do of a command after this many of its instructions
abbrev pub rest_of : ℕ → Command → Command
rest_of left (command.Run limit) = command.Run (limit - left)
rest_of left (command.Deposit address cells) = command.Deposit address cells
rest_of left (command.Examine address count) = command.Examine address count
rest_of left command.Registers = command.Registers
rest_of left (command.SetI address) = command.SetI address
rest_of left (command.Switch n on) = command.Switch n on
rest_of left (command.Feed card) = command.Feed card
rest_of left command.LoadKey = command.LoadKey
rest_of left command.TakeLine = command.TakeLine
rest_of left command.TakeCard = command.TakeCard
rest_of left (command.Fit features) = command.Fit features

-- the commands that are gone: they lead from the first instructions of a journal to its end
abbrev pub gone_of : ℕ → List Entry → List SeatedCommand
gone_of left [] = []
gone_of left (entry ∷ entries) =
    if nat_le (steps_in entry.answer) left
    then gone_of (left - steps_in entry.answer) entries
    else pair entry.seat (rest_of left entry.command) ∷ pairs_of entries

-- the journal that is n instructions shorter, if there are as many
abbrev pub back_of : ℕ → List Entry → Option (List SeatedCommand)
back_of n journal =
    if nat_le n (instructions_of journal) then Some (first_of (instructions_of journal - n) journal) else None

-- and how many of its entries stay whole
abbrev pub whole_of : ℕ → List Entry → ℕ
whole_of n journal = whole_in (instructions_of journal - n) journal

-- the commands that are gone from it then
abbrev pub gone_from : ℕ → List Entry → List SeatedCommand
gone_from n journal = gone_of (instructions_of journal - n) journal
