-- The room's names are those of what was opened.
use Rattle.tests_library.proofs.kept.keep.Given as goal

abbrev pub ghosts-keep_named-J-Ledger : goal.ghosts-keep_named-J-Ledger
ghosts-keep_named-J-Ledger g a = record { name = a.opened.ledger; parts = a.opened.parts }

abbrev pub ghosts-keep_named-J-RoomId : goal.ghosts-keep_named-J-RoomId
ghosts-keep_named-J-RoomId g a = record { book = a.opened.book; size = a.size; seats = a.seats }
