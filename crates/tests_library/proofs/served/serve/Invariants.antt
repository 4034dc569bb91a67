-- The room's names are those of what was opened.
use Rattle.tests_library.proofs.served.serve.Given as goal

abbrev pub ghosts-serve_row-J-Ledger : goal.ghosts-serve_row-J-Ledger
ghosts-serve_row-J-Ledger g a = record { name = a.opened.ledger; parts = a.opened.parts }

abbrev pub ghosts-serve_row-J-RoomId : goal.ghosts-serve_row-J-RoomId
ghosts-serve_row-J-RoomId g a = record { book = a.opened.book; size = a.size; seats = a.seats }
