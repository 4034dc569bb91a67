-- What the console replies (own).
use Rattle.std.specs.Prelude.{ℕ, List, [], ◌∷◌, ◌++◌, Option, None, Some, codes}
use Rattle.console_text.specs.AnswerText.{answer_text, fault_text, glance_text}
use Rattle.machine_commands.specs.FaultText.{glance_fault_text, room_fault_text}
use Rattle.room_alone.specs.declared.reply.Reply.{Reply}
use Rattle.room_alone.specs.declared.reply.Reply.TheVariants as reply
use Rattle.machine_notation.specs.Bytes.{line_feed}

-- the text of a reply
unfoldable pub text_of_reply : Reply → List ℕ
text_of_reply (reply.Answer answer) = answer_text answer
text_of_reply (reply.RoomFault fault) = room_fault_text fault
text_of_reply (reply.Glance glance) = glance_text glance.after glance.cell
text_of_reply (reply.GlanceFault fault) = glance_fault_text fault
text_of_reply (reply.LineFault fault) = fault_text fault
text_of_reply reply.Bye = codes "BYE"

-- the bytes of a reply, if there is one: its text and a line feed
abbrev pub bytes_of : Option Reply → List ℕ
bytes_of None = []
bytes_of (Some given) = text_of_reply given ++ line_feed ∷ []
