-- What its file had before the journal is unknown.
use Rattle.std.proofs.Common.{None}
use Rattle.program_rooms.proofs.resuming.verify_room.Given as goal

abbrev pub ghosts-verify_journal : goal.ghosts-verify_journal
ghosts-verify_journal g a = record { first = None }
