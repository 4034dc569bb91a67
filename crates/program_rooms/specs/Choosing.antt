-- The room that is made of the commands chosen from a journal (own).
use Rattle.std.specs.Prelude.{◌≡◌, ℕ, List, length, Option, unwrap_or}
use Rattle.room_alone.specs.declared.entry.Entry.{Entry}
use Rattle.room_alone.specs.Account.{Account}
use Rattle.room_alone.specs.Journal.{IsLegal, pairs_of}
use Rattle.room_files.specs.Choice.{chosen}

-- The room's commands are those that are chosen of a legal journal: up to a number, or all, without some.
pub record HasChosen (until : Option ℕ) (without : List ℕ) (room : Account) : Type 0 where
  pub journal : List Entry
  pub legal : IsLegal room.size journal
  pub commands : pairs_of room.journal ≡ chosen (unwrap_or until (length journal)) without journal
