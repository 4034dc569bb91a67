-- What a room that isn't opened, and the end of one that is, mean for a program (own).
use Rattle.std.specs.Prelude.{⊤, Bool, true, false, Option, None, Some, Result, Ok, Err}
use Rattle.room_1401.specs.declared.fault.StartFault.{StartFault}
use Rattle.room_1401.specs.declared.fault.StartFault.TheVariants as start
use Rattle.console_1401.specs.declared.serving.ServeFault.{ServeFault}
use Rattle.console_1401.specs.declared.serving.ServeFault.TheVariants as serve
use Rattle.machine_commands.specs.declared.fault.RoomFault.{RoomFault}
use Rattle.machine_commands.specs.declared.fault.RoomFault.TheVariants as room
use Rattle.serving_room.specs.declared.fault.SeatsFault.{SeatsFault}
use Rattle.serving_room.specs.declared.fault.SeatsFault.TheVariants as seats
use Rattle.serving_room.specs.declared.giving.GiveFault.{GiveFault}
use Rattle.serving_room.specs.declared.giving.GiveFault.TheVariants as give
use Rattle.room_alone.specs.declared.terminal_fault.SessionFault.TheVariants as session
use Rattle.program_rooms.specs.declared.session_fault.HoldFault.TheVariants as hold
use Rattle.program_rooms.specs.declared.fault.OpenFault.{OpenFault}
use Rattle.program_rooms.specs.declared.fault.OpenFault.TheVariants as fault

-- what a room that couldn't be opened is for the program: of seats that it can't have no reader has a place
abbrev pub start_fault : StartFault → OpenFault
start_fault start.Memory = fault.Hold hold.Memory
start_fault start.Size = fault.Hold hold.Size
start_fault start.Seats = fault.NoReader
start_fault start.NoReader = fault.NoReader

-- what the end of the service is for the program
abbrev pub service_outcome : Option ServeFault → Result ⊤ OpenFault
service_outcome None = Ok tt
service_outcome (Some serve.Accept) = Err fault.Accept
service_outcome (Some serve.Thread) = Err fault.Thread

-- what became of a room whose seats are taken again is for the program: a journal that wasn't kept comes first
abbrev pub seats_outcome : Bool → Option SeatsFault → Result ⊤ OpenFault
seats_outcome true why = Err (fault.Hold (hold.Session session.Unkept))
seats_outcome false None = Ok tt
seats_outcome false (Some why) = Err (fault.Seats why)

-- what a command that is refused before operators come is for the program
abbrev pub room_fault : RoomFault → OpenFault
room_fault room.Memory = fault.Hold hold.Memory
room_fault room.JournalFull = fault.Hold hold.JournalFull
room_fault room.NoReading = fault.Seats seats.Unreturned
room_fault room.Unkept = fault.Hold (hold.Session session.Unkept)

-- what it is for the program that the commands of a journal aren't all given again
abbrev pub give_fault : GiveFault → OpenFault
give_fault (give.NoSeat seat) = fault.NoSeat seat
give_fault (give.Refused why) = room_fault why
