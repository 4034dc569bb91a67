-- The room's names are those of what was opened.
use Rattle.tests_library.proofs.shared.share.Given as goal

abbrev pub ghosts-start-J-Ledger : goal.ghosts-start-J-Ledger
ghosts-start-J-Ledger g a = record { name = a.opened.ledger; parts = a.opened.parts }

abbrev pub ghosts-start-J-RoomId : goal.ghosts-start-J-RoomId
ghosts-start-J-RoomId g a = record { book = a.opened.book; size = a.size; seats = a.seats }
