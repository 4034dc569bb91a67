-- Which commands of a journal are carried out again (own): those up to a number, without some of them.
use Rattle.std.specs.Prelude.{ℕ, ◌<◌, nat_le, ◌==◌, Bool, not, ◌&&◌, if◌then◌else◌, List, [], ◌∷◌, length}
use Rattle.std.specs.List.{list_any}
use Rattle.machine_commands.specs.declared.fault.RoomFault.{RoomFault}
use Rattle.machine_commands.specs.declared.fault.RoomFault.TheVariants as fault
use Rattle.room_alone.specs.declared.entry.Entry.{Entry}
use Rattle.room_alone.specs.declared.entry.SeatedCommand.{SeatedCommand}
use Rattle.room_alone.specs.Journal.{most_entries, pair_of}
use Rattle.room_alone.specs.Kept.{lines_by}

-- whether the command of this number is chosen
unfoldable pub is_chosen : ℕ → List ℕ → ℕ → Bool
is_chosen until without number = nat_le number until && not (list_any (λ left_out. left_out == number) without)

-- what is chosen of an entry: its command, or nothing
abbrev pub if_chosen : Bool → Entry → List SeatedCommand
if_chosen is_so entry = if is_so then pair_of entry ∷ [] else []

abbrev pub chosen_of : ℕ → List ℕ → ℕ → Entry → List SeatedCommand
chosen_of until without number entry = if_chosen (is_chosen until without number) entry

-- the commands that are chosen, in their order
abbrev pub chosen : ℕ → List ℕ → List Entry → List SeatedCommand
chosen until without journal = lines_by (chosen_of until without) 1 journal

-- why commands that are chosen aren't carried out: memory was refused, or they are more than a journal has entries
abbrev pub IsWhyNotCarried : List SeatedCommand → RoomFault → Type 0
IsWhyNotCarried pairs fault.Memory = Unit {0}
IsWhyNotCarried pairs fault.JournalFull = most_entries < length pairs
IsWhyNotCarried pairs fault.NoReading = ⊥
IsWhyNotCarried pairs fault.Unkept = ⊥
