-- What a line is answered at a seat of a shared room, and what the seat has seen and made then (own).
use Rattle.std.specs.Prelude.{◌≡◌, ℕ, ◌+◌, ◌<◌, ◌≤◌, List, length, Option, None, Some, Ok, Err}
use mathlib.Core.List.{IsPrefix}
use Rattle.machine_commands.specs.declared.command.Command.{Command}
use Rattle.machine_commands.specs.declared.fault.GlanceFault.{GlanceFault}
use Rattle.machine_commands.specs.declared.fault.GlanceFault.TheVariants.{Range, Gone}
use Rattle.machine_commands.specs.declared.answer.Answer.{Answer}
use Rattle.machine_commands.specs.declared.fault.RoomFault.TheVariants.{Memory, JournalFull, Unkept}
use Rattle.room_alone.specs.declared.entry.SeatedCommand.{SeatedCommand}
use Rattle.room_alone.specs.Journal.{most_entries}
use Rattle.room_alone.specs.Replay.{cell_after}
use Rattle.room_1401.specs.Seen.{SeatView, Carries}
use Rattle.console_text.specs.declared.line.Line.TheVariants as line
use Rattle.room_alone.specs.declared.reply.Reply.{Reply}
use Rattle.room_alone.specs.declared.reply.Reply.TheVariants as reply
use Rattle.console_text.specs.ConsoleLine.{Said}
use Rattle.room_alone.specs.ReplyText.{bytes_of}

-- a command is carried out for the seat, and answered as the sequential machine answers it; or the room takes none, and
-- the seat has seen no less: a full journal, or one that isn't full if memory is the reason
abbrev pub CommandResponds : ℕ → SeatView → Command → Reply → SeatView → Type 0
CommandResponds size before command (reply.Answer answer) after =
    Carries size before.list after.list before.number command answer × (after.made ≡ before.made + 1)
CommandResponds size before command (reply.RoomFault fault) after =
    IsPrefix before.list after.list × (after.made ≡ before.made)
    × (fault ≡ JournalFull → length after.list ≡ most_entries)
    × (fault ≡ Memory → length after.list < most_entries)
CommandResponds size before command (reply.Glance glance) after = ⊥
CommandResponds size before command (reply.GlanceFault fault) after = ⊥
CommandResponds size before command (reply.LineFault fault) after = ⊥
CommandResponds size before command reply.Bye after = ⊥

-- why a glance shows nothing: the address isn't in core, or else nothing is published any more
abbrev pub GlanceRefused : ℕ → ℕ → GlanceFault → Type 0
GlanceRefused size address Range = size ≤ address
GlanceRefused size address Gone = address < size

-- a glance shows the cell after a list of commands that goes on from what the seat had seen, and how long that is
abbrev pub GlanceResponds : ℕ → SeatView → ℕ → Reply → SeatView → Type 0
GlanceResponds size before address (reply.Glance glance) after =
    (address < size) × IsPrefix before.list after.list × (glance.after ≡ length after.list)
    × (glance.cell ≡ cell_after size after.list address) × (after.made ≡ before.made)
GlanceResponds size before address (reply.GlanceFault fault) after =
    GlanceRefused size address fault × (after ≡ before)
GlanceResponds size before address (reply.Answer answer) after = ⊥
GlanceResponds size before address (reply.RoomFault fault) after = ⊥
GlanceResponds size before address (reply.LineFault fault) after = ⊥
GlanceResponds size before address reply.Bye after = ⊥

-- by what the line says: an empty one has no reply, and but for commands and glances nothing is seen or made
abbrev pub LineResponds : ℕ → SeatView → Said → Option Reply → SeatView → Type 0
LineResponds size before (Ok line.Empty) given after = (given ≡ None) × (after ≡ before)
LineResponds size before (Ok (line.Command command)) None after = ⊥
LineResponds size before (Ok (line.Command command)) (Some given) after =
    CommandResponds size before command given after
LineResponds size before (Ok (line.Glance address)) None after = ⊥
LineResponds size before (Ok (line.Glance address)) (Some given) after =
    GlanceResponds size before address given after
LineResponds size before (Ok line.Quit) given after = (given ≡ Some reply.Bye) × (after ≡ before)
LineResponds size before (Err fault) given after = (given ≡ Some (reply.LineFault fault)) × (after ≡ before)

-- One line was answered at a seat of a room of this size, whose number stays, and which has seen no more than a full
-- journal.
pub record SeatResponds (size : ℕ) (before : SeatView) (said : Said) (given : Option Reply) (after : SeatView)
    : Type 0 where
  pub number_is : after.number ≡ before.number
  pub bound : length after.list ≤ most_entries
  pub line : LineResponds size before said given after

-- what a command is replied once an entry of the room wasn't kept
abbrev pub unkept_reply : Option Reply
unkept_reply = Some (reply.RoomFault Unkept)

-- One line was answered at a seat of a room with a keeper: a command by the machine only if the keeper has kept all that
-- the seat has then seen, and as unkept only if the keeper has failed after these commands.
pub record KeptResponds (size : ℕ) (has_kept has_failed : List SeatedCommand → Type 0) (before : SeatView) (said : Said)
    (given : Option Reply) (after : SeatView) : Type 0 where
  pub responded : SeatResponds size before said given after
  pub kept : (answer : Answer) → given ≡ Some (reply.Answer answer) → has_kept after.list
  pub failed : given ≡ unkept_reply → has_failed after.list

-- One line was answered at a seat, and these bytes are its reply: none for an empty line.
pub record AnswersAtSeat (size : ℕ) (before : SeatView) (said : Said) (written : List ℕ) (after : SeatView)
    : Type 0 where
  pub reply : Option Reply
  pub responded : SeatResponds size before said reply after
  pub written_is : written ≡ bytes_of reply

-- One line was carried out at a seat, and has a reply that nobody is told.
pub record IsUnanswered (size : ℕ) (before : SeatView) (said : Said) (after : SeatView) : Type 0 where
  pub reply : Reply
  pub responded : SeatResponds size before said (Some reply) after
