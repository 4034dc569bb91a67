-- What contracts see of a room (own).
use Rattle.std.specs.Prelude.{◌≡◌, ◌≤◌, ℕ, List, length}
use Rattle.cpu_1401.specs.State.{State}
use Rattle.room_alone.specs.declared.entry.Entry.{Entry}
use Rattle.room_alone.specs.Journal.{IsLegal, most_entries, state_of}

-- the size of core storage, the journal, and how many entries more fit without growth
pub record Account : Type 0 where
  pub size : ℕ
  pub journal : List Entry
  pub spare : ℕ

-- The journal is legal, and the machine is the one that it explains.
pub record IsExplained (machine : State) (journal : List Entry) : Type 0 where
  pub machine_is : machine ≡ state_of (length machine.storage) journal
  pub legal : IsLegal (length machine.storage) journal
  pub bound : length journal ≤ most_entries
