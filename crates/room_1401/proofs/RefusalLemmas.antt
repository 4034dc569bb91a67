-- What is said of a refused command, and of a command that isn't refused.
use Rattle.std.proofs.Common.{◌≡◌, ◌↔◌, Bool, true, false, List, refl, ap, sym, ◌∙◌, true≢false}
use Rattle.std.specs.Prelude.{Result, Ok, Err, if◌then◌else◌}
use Rattle.machine_commands.specs.declared.fault.RoomFault.{RoomFault}
use Rattle.machine_commands.specs.declared.fault.RoomFault.TheVariants.{Memory, JournalFull, NoReading, Unkept}
use Rattle.room_alone.specs.declared.entry.Entry.{Entry}
use Rattle.room_alone.specs.Journal.{is_full, refusal_of}

unkept_if : (full : Bool) → (if full then JournalFull else Memory) ≡ Unkept → ⊥
unkept_if true is = absurd cc
unkept_if false is = absurd cc

-- a journal that takes no entry more has no failed write
pub not_unkept : (journal : List Entry) → refusal_of journal ≡ Unkept → ⊥
not_unkept journal is = unkept_if (is_full journal) is

-- a refusal by the journal, while no write has failed
pub refused : {A : Type 0} (result : Result A RoomFault) (fault : RoomFault) (journal : List Entry) (failed : Bool)
    → result ≡ Err fault → fault ≡ refusal_of journal → failed ≡ false
    → (result ≡ Err Unkept) ↔ (failed ≡ true)
refused result fault journal failed is why good = (
  λ unkept. let same : fault ≡ Unkept = cc (sym is ∙ unkept) in absurd (not_unkept journal (sym why ∙ same)),
  λ bad. absurd (true≢false (sym bad ∙ good)),
)

-- refused memory is why a journal that isn't full takes no entry more
pub memory_refused : {A : Type 0} (result : Result A RoomFault) (fault : RoomFault) (journal : List Entry)
    → result ≡ Err fault → result ≡ Err Memory → is_full journal ≡ false → fault ≡ refusal_of journal
memory_refused result fault journal is memory not_full =
    let same : fault ≡ Memory = cc (sym is ∙ memory) in
    same ∙ sym (ap (λ (full : Bool). if full then JournalFull else Memory) not_full)

-- a command that isn't refused
pub taken : {A : Type 0} (result : Result A RoomFault) (value : A) (failed : Bool)
    → result ≡ Ok value → failed ≡ false → (result ≡ Err Unkept) ↔ (failed ≡ true)
taken result value failed is good = (
  λ unkept. absurd (cc (sym is ∙ unkept)),
  λ bad. absurd (true≢false (sym bad ∙ good)),
)

-- the same of a refusal that is handed on
pub unkept_there : {A : Type 0} (result other : Result A RoomFault) (failed now : Bool)
    → result ≡ other → failed ≡ now → (other ≡ Err Unkept) ↔ (failed ≡ true) → (result ≡ Err Unkept) ↔ (now ≡ true)
unkept_there result other failed now is same iff =
    ((λ unkept. sym same ∙ iff.0 (sym is ∙ unkept)), (λ bad. is ∙ iff.1 (same ∙ bad)))

no_reading_if : (full : Bool) → (if full then JournalFull else Memory) ≡ NoReading → ⊥
no_reading_if true is = absurd cc
no_reading_if false is = absurd cc

-- the recorder reads all there is
pub reads : {A : Type 0} (result : Result A RoomFault) (fault : RoomFault) (journal : List Entry) (failed : Bool)
    → result ≡ Err fault → (result ≡ Err Unkept) ↔ (failed ≡ true) → (failed ≡ false → fault ≡ refusal_of journal)
    → result ≡ Err NoReading → ⊥
reads result fault journal true is iff why unread = absurd (cc (sym (iff.1 refl) ∙ unread))
reads result fault journal false is iff why unread =
    let same : fault ≡ NoReading = cc (sym is ∙ unread) in no_reading_if (is_full journal) (sym (why refl) ∙ same)

-- what is taken isn't refused
pub not_refused : {A : Type 0} (result : Result A RoomFault) (value : A) (fault : RoomFault)
    → result ≡ Ok value → result ≡ Err fault → ⊥
not_refused result value fault is other = absurd (cc (sym is ∙ other))

-- a refusal is for one reason
pub not_unread : {A : Type 0} (result : Result A RoomFault) (fault : RoomFault) → result ≡ Err NoReading
    → result ≡ Err fault → NoReading ≡ fault
not_unread result fault is other = cc (sym is ∙ other)

pub read_kept : NoReading ≡ Unkept → ⊥
read_kept is = absurd cc

pub read_full : NoReading ≡ JournalFull → ⊥
read_full is = absurd cc

pub read_memory : NoReading ≡ Memory → ⊥
read_memory is = absurd cc
