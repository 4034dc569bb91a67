-- The journal: each command with its seat and its answer, oldest first (own).
use Rattle.std.specs.Prelude.{◌≡◌, ℕ, Bool, List, length, map, nat_le, if◌then◌else◌}
use Rattle.cpu_1401.specs.State.{State}
use Rattle.machine_commands.specs.declared.answer.Answer.{Answer}
use Rattle.machine_commands.specs.declared.command.Command.{Command}
use Rattle.room_alone.specs.declared.entry.Entry.{Entry}
use Rattle.room_alone.specs.declared.entry.SeatedCommand.{SeatedCommand}
use Rattle.machine_commands.specs.declared.fault.RoomFault.{RoomFault}
use Rattle.machine_commands.specs.declared.fault.RoomFault.TheVariants.{Memory, JournalFull}
use Rattle.room_alone.specs.Replay.{pair, replay, answers_of, reply_to}

-- an entry of the journal
abbrev pub entry : ℕ → Command → Answer → Entry
entry seat command answer = record { seat = seat; command = command; answer = answer }

-- what an entry asks, and who asks it
abbrev pub pair_of : Entry → SeatedCommand
pair_of entry = pair entry.seat entry.command

-- the answer that an entry records
abbrev pub answer_in : Entry → Answer
answer_in entry = entry.answer

-- the commands of a journal, each with its seat
abbrev pub pairs_of : List Entry → List SeatedCommand
pairs_of journal = map pair_of journal

-- the machine that a journal explains
abbrev pub state_of : ℕ → List Entry → State
state_of size journal = replay size (pairs_of journal)

-- each recorded answer is that of the sequential machine
abbrev pub IsLegal : ℕ → List Entry → Type 0
IsLegal size journal = map answer_in journal ≡ answers_of size (pairs_of journal)

-- what the sequential machine answers to a command after these entries
abbrev pub answer_to : ℕ → List Entry → Command → Answer
answer_to size journal command = reply_to size (pairs_of journal) command

-- the most entries that a journal has
abbrev pub most_entries : ℕ
most_entries = 100000

-- whether a journal takes no entry more
abbrev pub is_full : List Entry → Bool
is_full journal = nat_le most_entries (length journal)

-- why a journal takes no entry more: it is full, or else the memory for one was refused
abbrev pub refusal_of : List Entry → RoomFault
refusal_of journal = if is_full journal then JournalFull else Memory
