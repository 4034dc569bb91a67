-- That a served room is closed with all of its seats (own).
use Rattle.std.specs.Prelude.{ℕ, List}
use Rattle.room_alone.specs.declared.entry.Entry.{Entry}
use Rattle.room_1401.specs.Closing.{IsSettled}
use Rattle.room_1401.specs.Seen.{SeatView}
use Rattle.console_1401.specs.Served.{AreAllSeats}

-- The journal is settled with all seats of a room that has this number of them.
pub record IsAccounted (n : ℕ) (journal : List Entry) : Type 0 where
  pub seats : List SeatView
  pub all : AreAllSeats n seats
  pub settled : IsSettled journal seats
