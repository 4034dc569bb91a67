-- What a line is answered at the console of a room, and what it leaves (own).
use Rattle.std.specs.Prelude.{◌≡◌, ℕ, ◌+◌, ◌<◌, ◌≤◌, Bool, false, All, List, [], ◌∷◌, ◌++◌, ◌||◌, length, take, map}
use Rattle.std.specs.Prelude.{nat_lt, if◌then◌else◌, Option, None, Some, Ok, Err}
use Rattle.machine_commands.specs.declared.command.Command.{Command}
use Rattle.room_alone.specs.declared.entry.Entry.{Entry}
use Rattle.machine_commands.specs.declared.fault.GlanceFault.TheVariants.{Range}
use Rattle.machine_commands.specs.declared.fault.RoomFault.TheVariants.{Memory, JournalFull}
use Rattle.room_alone.specs.Account.{Account}
use Rattle.room_alone.specs.Kept.{KeptAccount}
use Rattle.room_alone.specs.Journal.{entry, answer_to, is_full, pairs_of}
use Rattle.room_alone.specs.Replay.{cell_after}
use Rattle.console_text.specs.declared.line.Line.TheVariants as line
use Rattle.room_alone.specs.declared.reply.Reply.{Reply}
use Rattle.room_alone.specs.declared.reply.Reply.TheVariants as reply
use Rattle.console_text.specs.ConsoleLine.{Said}
use Rattle.room_alone.specs.ReplyText.{bytes_of}

-- a line, and whether memory for the journal was refused at it
pub record Turn : Type 0 where
  pub said : Said
  pub memory_refused : Bool

-- what a command is answered after these entries: a full journal comes before a want of memory
abbrev pub command_reply : ℕ → List Entry → Command → Bool → Reply
command_reply size journal command memory_refused =
    if is_full journal then reply.RoomFault JournalFull
    else (if memory_refused then reply.RoomFault Memory else reply.Answer (answer_to size journal command))

-- what a glance is answered after these entries: how many there are, and the cell at the address; or that
-- the address isn't in core
abbrev pub glance_reply : ℕ → List Entry → ℕ → Reply
glance_reply size journal address =
    if nat_lt address size
    then reply.Glance (record { after = length journal; cell = cell_after size (pairs_of journal) address })
    else reply.GlanceFault Range

-- what a line is answered after these entries: an empty one has no reply
abbrev pub reply_of : ℕ → List Entry → Said → Bool → Option Reply
reply_of size journal (Ok line.Empty) memory_refused = None
reply_of size journal (Ok (line.Command command)) memory_refused =
    Some (command_reply size journal command memory_refused)
reply_of size journal (Ok (line.Glance address)) memory_refused = Some (glance_reply size journal address)
reply_of size journal (Ok line.Quit) memory_refused = Some reply.Bye
reply_of size journal (Err fault) memory_refused = Some (reply.LineFault fault)

-- the journal after a line: a command that was carried out is recorded for seat 0, with its answer
abbrev pub journal_with : ℕ → List Entry → Said → Bool → List Entry
journal_with size journal (Ok (line.Command command)) memory_refused =
    if is_full journal || memory_refused then journal
    else journal ++ entry 0 command (answer_to size journal command) ∷ []
journal_with size journal (Ok line.Empty) memory_refused = journal
journal_with size journal (Ok (line.Glance address)) memory_refused = journal
journal_with size journal (Ok line.Quit) memory_refused = journal
journal_with size journal (Err fault) memory_refused = journal

-- the most spare entries that a line takes
abbrev pub entries_of : Said → ℕ
entries_of (Ok line.Empty) = 0
entries_of (Ok (line.Command command)) = 1
entries_of (Ok (line.Glance address)) = 0
entries_of (Ok line.Quit) = 0
entries_of (Err fault) = 0

-- One line was answered at a room, and memory for the journal was refused or wasn't: it never is while there are
-- spare entries.
pub record RoomResponds (before : Account) (said : Said) (reply : Option Reply) (after : Account) : Type 0 where
  pub memory_refused : Bool
  pub reserved : 0 < before.spare → memory_refused ≡ false
  pub spare_is : before.spare ≤ after.spare + entries_of said
  pub reply_is : reply ≡ reply_of before.size before.journal said memory_refused
  pub journal_is : after.journal ≡ journal_with before.size before.journal said memory_refused
  pub size_is : after.size ≡ before.size

-- one line was answered at a room that is kept: as at the room alone
abbrev pub KeptResponds : KeptAccount → Said → Option Reply → KeptAccount → Type 0
KeptResponds before said reply after = RoomResponds before.room said reply after.room

-- the commands among these lines
abbrev pub commands_in : List Turn → List Turn
commands_in [] = []
commands_in (turn ∷ turns) = take (entries_of turn.said) (turn ∷ []) ++ commands_in turns

-- memory was refused at none of these
abbrev pub NoneRefused : List Turn → Type 0
NoneRefused turns = All (λ (turn : Turn). turn.memory_refused ≡ false) turns

-- the journal after these lines
abbrev pub journal_after : ℕ → List Entry → List Turn → List Entry
journal_after size journal [] = journal
journal_after size journal (turn ∷ turns) =
    journal_after size (journal_with size journal turn.said turn.memory_refused) turns

-- the replies to these lines, joined
abbrev pub replies_to : ℕ → List Entry → List Turn → List ℕ
replies_to size journal [] = []
replies_to size journal (turn ∷ turns) =
    bytes_of (reply_of size journal turn.said turn.memory_refused)
    ++ replies_to size (journal_with size journal turn.said turn.memory_refused) turns

-- These lines were answered at a room, given those at which memory was refused, which are none of the first commands,
-- as many as there were spare entries: what was written, and the room afterwards.
pub record Answered (before : Account) (lines : List Said) (written : List ℕ) (after : Account) : Type 0 where
  pub turns : List Turn
  pub lines_are : map (λ (turn : Turn). turn.said) turns ≡ lines
  pub reserved : NoneRefused (take before.spare (commands_in turns))
  pub spare_is : before.spare ≤ after.spare + length (commands_in turns)
  pub written_is : written ≡ replies_to before.size before.journal turns
  pub journal_is : after.journal ≡ journal_after before.size before.journal turns
  pub size_is : after.size ≡ before.size

-- these lines were answered at a room that is kept: as at the room alone
abbrev pub AnsweredKept : KeptAccount → List Said → List ℕ → KeptAccount → Type 0
AnsweredKept before lines written after = Answered before.room lines written after.room
