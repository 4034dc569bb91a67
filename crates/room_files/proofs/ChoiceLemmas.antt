-- Which commands of a journal are chosen, by their marks.
use Rattle.std.proofs.Common.{◌≡◌, ℕ, ◌+◌, ◌<◌, ◌≤◌, ◌==◌, nat_le, nat_lt, Bool, true, false, not, ◌&&◌, refl}
use Rattle.std.proofs.Common.{if◌then◌else◌, List, length, ap, arith, suc, ◌∙◌}
use Rattle.std.proofs.lemmas.Bool.Decides.{nat_tests}
use Rattle.std.specs.List.{list_any}
use Rattle.machine_commands.specs.declared.fault.RoomFault.{RoomFault}
use Rattle.machine_commands.specs.declared.fault.RoomFault.TheVariants as fault
use Rattle.room_alone.specs.declared.entry.Entry.{Entry}
use Rattle.room_alone.specs.declared.entry.SeatedCommand.{SeatedCommand}
use Rattle.room_alone.specs.Journal.{is_full, most_entries, refusal_of}
use Rattle.room_files.specs.Choice.{IsWhyNotCarried, is_chosen}

-- the command of an entry is chosen if its number is within the last one and isn't marked
pub chosen_by_mark : (until : ℕ) (without : List ℕ) (i : ℕ) (mark : Bool)
    → mark ≡ list_any (λ number. number == i + 1) without
    → (nat_lt i until && not mark) ≡ is_chosen until without (i + 1)
unfolding is_chosen
chosen_by_mark until without i mark is =
    let next : suc i ≡ i + 1 = omega arith in
    ap (λ m. nat_lt i until && not m) is
    ∙ ap (λ n. nat_le n until && not (list_any (λ number. number == i + 1) without)) next

-- why a command isn't carried out, by whether the journal is full
of_full : (full : Bool) (pairs : List SeatedCommand) (why : RoomFault)
    → why ≡ (if full then fault.JournalFull else fault.Memory) → (full ≡ true → most_entries < length pairs)
    → IsWhyNotCarried pairs why
of_full full pairs fault.Memory is more = tt
of_full true pairs fault.JournalFull is more = more refl
of_full false pairs fault.JournalFull is more = absurd cc
of_full true pairs fault.NoReading is more = absurd cc
of_full false pairs fault.NoReading is more = absurd cc
of_full true pairs fault.Unkept is more = absurd cc
of_full false pairs fault.Unkept is more = absurd cc

-- a room that refuses a command, of which fewer were carried out than are chosen
pub refused_so : (journal : List Entry) (pairs : List SeatedCommand) (why : RoomFault) → why ≡ refusal_of journal
    → length journal + 1 ≤ length pairs → IsWhyNotCarried pairs why
refused_so journal pairs why is more =
    of_full (is_full journal) pairs why is
    (λ full.
    let most : most_entries ≤ length journal = grind (arith, nat_tests) in omega (arith, most, more))
