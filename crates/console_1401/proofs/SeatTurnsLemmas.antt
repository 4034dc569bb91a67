-- What a seat has seen goes on with each line.
use Rattle.std.proofs.Common.{◌≡◌, ℕ, List, [], ◌∷◌, ◌++◌, Option, None, Some, sym, ap, ◌∙◌, append_assoc}
use Rattle.std.proofs.lemmas.List.{append-nil}
use Rattle.std.specs.Prelude.{Ok, Err}
use mathlib.Core.List.{IsPrefix}
use Rattle.machine_commands.specs.declared.command.Command.{Command}
use Rattle.room_alone.specs.declared.entry.SeatedCommand.{SeatedCommand}
use Rattle.room_alone.specs.Replay.{pair}
use Rattle.room_1401.specs.Seen.{SeatView}
use Rattle.console_text.specs.declared.line.Line.TheVariants as line
use Rattle.console_text.specs.ConsoleLine.{Said}
use Rattle.room_alone.specs.declared.reply.Reply.{Reply}
use Rattle.room_alone.specs.declared.reply.Reply.TheVariants as reply
use Rattle.console_1401.specs.SeatTurns.{CommandResponds, GlanceResponds, KeptResponds, LineResponds, SeatResponds}

same_list : (before after : SeatView) → after ≡ before → IsPrefix before.list after.list
same_list before after is = ([], append-nil before.list ∙ sym (ap (λ (seat : SeatView). seat.list) is))

command_grows : (size : ℕ) (before : SeatView) (command : Command) (given : Reply) (after : SeatView)
    → CommandResponds size before command given after → IsPrefix before.list after.list
command_grows size before command (reply.Answer answer) after r =
    let more : List SeatedCommand = r.0.begins.0 in
    let last : List SeatedCommand = pair before.number command ∷ [] in (
      more ++ last,
      sym (append_assoc before.list more last)
          ∙ ap (λ (list : List SeatedCommand). list ++ last) r.0.begins.1
          ∙ sym r.0.ends,
    )
command_grows size before command (reply.RoomFault fault) after r = r.0
command_grows size before command (reply.Glance glance) after r = absurd r
command_grows size before command (reply.GlanceFault fault) after r = absurd r
command_grows size before command (reply.LineFault fault) after r = absurd r
command_grows size before command reply.Bye after r = absurd r

glance_grows : (size : ℕ) (before : SeatView) (address : ℕ) (given : Reply) (after : SeatView)
    → GlanceResponds size before address given after → IsPrefix before.list after.list
glance_grows size before address (reply.Glance glance) after r = r.1
glance_grows size before address (reply.GlanceFault fault) after r = same_list before after r.1
glance_grows size before address (reply.Answer answer) after r = absurd r
glance_grows size before address (reply.RoomFault fault) after r = absurd r
glance_grows size before address (reply.LineFault fault) after r = absurd r
glance_grows size before address reply.Bye after r = absurd r

line_grows : (size : ℕ) (before : SeatView) (said : Said) (given : Option Reply) (after : SeatView)
    → LineResponds size before said given after → IsPrefix before.list after.list
line_grows size before (Ok line.Empty) given after r = same_list before after r.1
line_grows size before (Ok (line.Command command)) None after r = absurd r
line_grows size before (Ok (line.Command command)) (Some given) after r =
    command_grows size before command given after r
line_grows size before (Ok (line.Glance address)) None after r = absurd r
line_grows size before (Ok (line.Glance address)) (Some given) after r =
    glance_grows size before address given after r
line_grows size before (Ok line.Quit) given after r = same_list before after r.1
line_grows size before (Err fault) given after r = same_list before after r.1

seat_grows : (size : ℕ) (before : SeatView) (said : Said) (given : Option Reply) (after : SeatView)
    → SeatResponds size before said given after → IsPrefix before.list after.list
seat_grows size before said given after r = line_grows size before said given after r.line

pub kept_grows : (size : ℕ) (has_kept has_failed : List SeatedCommand → Type 0) (before : SeatView) (said : Said)
    (given : Option Reply) (after : SeatView)
    → KeptResponds size has_kept has_failed before said given after → IsPrefix before.list after.list
kept_grows size has_kept has_failed before said given after r = seat_grows size before said given after r.responded
