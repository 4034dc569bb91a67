-- What is kept of a room that ended well.
use Rattle.std.proofs.Common.{◌≡◌, ℕ, Bool, true, false, List, length, Option, refl, subst}
use Rattle.std.specs.Prelude.{Ok}
use Rattle.room_alone.specs.declared.entry.Entry.{Entry}
use Rattle.room_alone.specs.Journal.{IsLegal}
use Rattle.room_alone.specs.Kept.{Form, IsKeptAs}
use Rattle.serving_room.specs.declared.fault.SeatsFault.{SeatsFault}
use Rattle.program_rooms.specs.Kept.{IsKeptWhole}
use Rattle.program_rooms.specs.Outcome.{seats_outcome}

-- no write has failed where a room ended well
pub unfailed : (failed : Bool) (why : Option SeatsFault) → seats_outcome failed why ≡ Ok tt → failed ≡ false
unfailed false why is = refl
unfailed true why is = absurd (cc is)

-- so its keeper has all
pub kept_whole : {S : Type 0} (has_failed : S → Bool) (kept : S → Option (List ℕ)) (first : Option (List ℕ))
    (form : Form) (size count : ℕ) (keeper : S) (journal : List Entry) → has_failed keeper ≡ false
    → IsLegal size journal → length journal ≡ count
    → IsKeptAs form size journal (has_failed keeper) first (kept keeper)
    → IsKeptWhole has_failed kept first form size count
kept_whole has_failed kept first form size count keeper journal good legal many is = record {
  keeper = keeper;
  good = good;
  journal = journal;
  legal = legal;
  count_is = many;
  text = subst (λ (bad : Bool). IsKeptAs form size journal bad first (kept keeper)) good is;
}

-- and so has the keeper by which it keeps
pub kept_by : {S T : Type 0} (inner : T → S) (has_failed : S → Bool) (kept : S → Option (List ℕ))
    (first : Option (List ℕ)) (form : Form) (size count : ℕ)
    → IsKeptWhole (λ (keeper : T). has_failed (inner keeper)) (λ (keeper : T). kept (inner keeper)) first form size count
    → IsKeptWhole has_failed kept first form size count
kept_by inner has_failed kept first form size count it = record {
  keeper = inner it.keeper;
  good = it.good;
  journal = it.journal;
  legal = it.legal;
  count_is = it.count_is;
  text = it.text;
}
