-- What the lines of a console at a seat of a shared room were answered, and what the seat has seen then (own).
use Rattle.std.specs.Prelude.{◌≡◌, ℕ, ◌+◌, ◌<◌, List, [], ◌∷◌, ◌++◌, length, map, Option, None, Some, Ok, Err}
use Rattle.std.specs.List.{flat_map, zip}
use mathlib.Core.List.{IsPrefix}
use Rattle.machine_commands.specs.declared.answer.Answer.{Answer}
use Rattle.machine_commands.specs.declared.command.Command.{Command}
use Rattle.room_alone.specs.declared.entry.SeatedCommand.{SeatedCommand}
use Rattle.machine_commands.specs.declared.fault.RoomFault.{RoomFault}
use Rattle.machine_commands.specs.declared.fault.RoomFault.TheVariants.{Memory, JournalFull, NoReading, Unkept}
use Rattle.room_alone.specs.Journal.{most_entries}
use Rattle.room_alone.specs.Replay.{pair, reply_to, cell_after}
use Rattle.room_1401.specs.Seen.{SeatView}
use Rattle.console_text.specs.declared.line.Line.TheVariants as line
use Rattle.room_alone.specs.declared.reply.Reply.{Reply}
use Rattle.room_alone.specs.declared.reply.Reply.TheVariants as reply
use Rattle.console_text.specs.ConsoleLine.{Said}
use Rattle.room_alone.specs.ReplyText.{bytes_of}
use Rattle.console_1401.specs.SeatTurns.{GlanceRefused}

-- a line with its reply, which an empty one hasn't
pub record Replied : Type 0 where
  pub said : Said
  pub reply : Option Reply

-- the command that a line gives, if it gives one
abbrev pub command_in : Said → List Command
command_in (Ok line.Empty) = []
command_in (Ok (line.Command command)) = command ∷ []
command_in (Ok (line.Glance address)) = []
command_in (Ok line.Quit) = []
command_in (Err fault) = []

-- the machine's answer in a reply, if there is one; a fault of the room is none
abbrev pub answer_in : Option Reply → List Answer
answer_in None = []
answer_in (Some (reply.Answer answer)) = answer ∷ []
answer_in (Some (reply.RoomFault fault)) = []
answer_in (Some (reply.Glance glance)) = []
answer_in (Some (reply.GlanceFault fault)) = []
answer_in (Some (reply.LineFault fault)) = []
answer_in (Some reply.Bye) = []

-- the commands among these lines that the room didn't refuse, in order, each with its answer
abbrev pub carried_in : List Replied → List (Command × Answer)
carried_in lines = flat_map (λ (given : Replied). zip (command_in given.said) (answer_in given.reply)) lines

-- beyond a list, a longer one has these commands as those of a seat, in this order, each answered as the
-- sequential machine of this size answers it there
abbrev pub Stand : ℕ → ℕ → List SeatedCommand → List (Command × Answer) → List SeatedCommand → Type 0
Stand size seat before [] list = IsPrefix before list
Stand size seat before (carried ∷ more) list =
    (front : List SeatedCommand) × IsPrefix before front × (carried.1 ≡ reply_to size front carried.0)
    × Stand size seat (front ++ pair seat carried.0 ∷ []) more list

-- between two lists there is one of which this is so, which goes on from the first, and from which the second goes on
abbrev pub Between : List SeatedCommand → List SeatedCommand → (List SeatedCommand → Type 0) → Type 0
Between before after P = (list : List SeatedCommand) × IsPrefix before list × IsPrefix list after × P list

-- why the room took no command: if its journal was full, the seat has then seen all of its 100,000 and no more; if
-- memory was refused, it had seen fewer by then
abbrev pub RoomRefused : List SeatedCommand → List SeatedCommand → RoomFault → Type 0
RoomRefused before after Memory = Between before after (λ list. length list < most_entries)
RoomRefused before after JournalFull = length after ≡ most_entries
RoomRefused before after NoReading = Unit {0}
RoomRefused before after Unkept = Unit {0}

-- a command has an answer, which `Stand` speaks of, or a fault of the room
abbrev pub CommandReplied : List SeatedCommand → List SeatedCommand → Reply → Type 0
CommandReplied before after (reply.Answer answer) = Unit {0}
CommandReplied before after (reply.RoomFault fault) = RoomRefused before after fault
CommandReplied before after (reply.Glance glance) = ⊥
CommandReplied before after (reply.GlanceFault fault) = ⊥
CommandReplied before after (reply.LineFault fault) = ⊥
CommandReplied before after reply.Bye = ⊥

-- a glance shows the cell after the commands that the seat had then seen, and how many they were
abbrev pub GlanceReplied : ℕ → List SeatedCommand → List SeatedCommand → ℕ → Reply → Type 0
GlanceReplied size before after address (reply.Glance glance) =
    (address < size)
    × Between before after (λ list. (glance.after ≡ length list) × (glance.cell ≡ cell_after size list address))
GlanceReplied size before after address (reply.GlanceFault fault) = GlanceRefused size address fault
GlanceReplied size before after address (reply.Answer answer) = ⊥
GlanceReplied size before after address (reply.RoomFault fault) = ⊥
GlanceReplied size before after address (reply.LineFault fault) = ⊥
GlanceReplied size before after address reply.Bye = ⊥

-- what a line may be answered at a seat that had seen the first list before its console, and the second after it
abbrev pub LineReplied : ℕ → List SeatedCommand → List SeatedCommand → Said → Option Reply → Type 0
LineReplied size before after (Ok line.Empty) given = given ≡ None
LineReplied size before after (Ok (line.Command command)) None = ⊥
LineReplied size before after (Ok (line.Command command)) (Some given) = CommandReplied before after given
LineReplied size before after (Ok (line.Glance address)) None = ⊥
LineReplied size before after (Ok (line.Glance address)) (Some given) = GlanceReplied size before after address given
LineReplied size before after (Ok line.Quit) given = given ≡ Some reply.Bye
LineReplied size before after (Err fault) given = given ≡ Some (reply.LineFault fault)

-- each of these lines is answered so
abbrev pub AllReplied : ℕ → List SeatedCommand → List SeatedCommand → List Replied → Type 0
AllReplied size before after [] = Unit {0}
AllReplied size before after (given ∷ more) =
    LineReplied size before after given.said given.reply × AllReplied size before after more

-- The lines of a console at a seat were answered: what was written are their replies. The commands that the room
-- didn't refuse are, in order, the seat's own in the list that it has seen then, beyond the one that it had seen,
-- and each was answered as the machine answers it there; it made more by their number.
pub record Attended (size : ℕ) (before : SeatView) (lines : List Said) (written : List ℕ) (after : SeatView)
    : Type 0 where
  pub replied : List Replied
  pub lines_are : map (λ (given : Replied). given.said) replied ≡ lines
  pub written_is : written ≡ flat_map (λ (given : Replied). bytes_of given.reply) replied
  pub number_is : after.number ≡ before.number
  pub made_is : after.made ≡ before.made + length (carried_in replied)
  pub stand : Stand size before.number before.list (carried_in replied) after.list
  pub each : AllReplied size before.list after.list replied
