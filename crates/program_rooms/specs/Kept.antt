-- What a room that is served leaves of its journal (own).
use Rattle.std.specs.Prelude.{◌≡◌, ℕ, Bool, false, List, length, Option}
use Rattle.std.specs.Io.KnownBytes.{Appends}
use Rattle.room_alone.specs.declared.entry.Entry.{Entry}
use Rattle.room_alone.specs.Journal.{IsLegal}
use Rattle.room_alone.specs.Kept.{Form, kept_text}

-- A keeper whose writes never failed has the text of a legal journal with this number of entries.
pub record IsKeptWhole {S : Type 0} (has_failed : S → Bool) (kept : S → Option (List ℕ)) (first : Option (List ℕ))
    (form : Form) (size count : ℕ) : Type 0 where
  pub keeper : S
  pub good : has_failed keeper ≡ false
  pub journal : List Entry
  pub legal : IsLegal size journal
  pub count_is : length journal ≡ count
  pub text : Appends first (kept keeper) (kept_text form size journal)
