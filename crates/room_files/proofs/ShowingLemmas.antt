-- What was written of a text that is no journal's.
use Rattle.std.proofs.Common.{◌≡◌, ℕ, List, [], ◌∷◌, Option, arith}
use Rattle.std.specs.Prelude.{IfErr}
use Rattle.std.specs.Io.KnownBytes.{Appends}
use Rattle.room_alone.specs.declared.entry.Entry.{Entry}
use Rattle.room_files.specs.declared.journal_fault.Wrong.{Wrong}
use Rattle.room_files.specs.declared.journal_fault.Wrong.TheVariants as wrong
use Rattle.room_files.specs.declared.listing.View.{View}
use Rattle.room_files.specs.Reading.{IsCut, IsRefusedIn, IsTextOf}
use Rattle.room_files.specs.Reading.IsCut.{in_entry, in_header}
use Rattle.room_files.specs.Listing.{listing_text}
use Rattle.room_files.specs.Showing.{IsNotShown, IsRefusedShown, IsShownUpTo, unfinished}
use Rattle.room_files.specs.Showing.IsShownUpTo.{up_to_entry, up_to_header}

-- with the text of a journal, perhaps with an unfinished line after it, only memory can be refused
abbrev pub IsMemoryOf : List ℕ → Wrong → Type 0
IsMemoryOf text why =
    (size : ℕ) (journal : List Entry) (rest : List ℕ) → IsTextOf text size journal rest → why ≡ wrong.Memory

-- so the line in which a text is refused as unfinished is its first
cut_unwritten : (text : List ℕ) (view : View) (old new : Option (List ℕ)) (number : ℕ) → new ≡ old
    → IsCut text number → IsMemoryOf text wrong.Unfinished → IsShownUpTo text view old new number
cut_unwritten text view old new number same (in_header _ none) memory = up_to_header text view old new none same
cut_unwritten text view old new number same (in_entry _ size journal rest is left) memory =
    let both : wrong.Unfinished ≡ wrong.Memory = memory size journal rest is in absurd cc

pub refused_unwritten : (text : List ℕ) (view : View) (old new : Option (List ℕ)) (number : ℕ) (why : Wrong)
    → new ≡ old → IsRefusedIn text number why → IsMemoryOf text why → IsRefusedShown text view old new number why
refused_unwritten text view old new number wrong.Memory same is memory = (is, same)
refused_unwritten text view old new number wrong.Header same is memory = (is, same)
refused_unwritten text view old new number wrong.Number same is memory = (is, same)
refused_unwritten text view old new number wrong.Seat same is memory = (is, same)
refused_unwritten text view old new number wrong.Command same is memory = (is, same)
refused_unwritten text view old new number wrong.Answer same is memory = (is, same)
refused_unwritten text view old new number wrong.Full same is memory = (is, same)
refused_unwritten text view old new number wrong.Unfinished same is memory =
    cut_unwritten text view old new number same is memory

-- a text that goes on after its entries is shown up to what comes after them
pub shown_up_to : (text : List ℕ) (view : View) (old new : Option (List ℕ)) (size : ℕ) (journal : List Entry)
    (rest : List ℕ) → IsTextOf text size journal rest → Appends old new (listing_text view journal)
    → IfErr (unfinished journal rest) (IsNotShown text view old new)
shown_up_to text view old new size journal [] is written = tt
shown_up_to text view old new size journal (byte ∷ rest) is written =
    up_to_entry text view old new size journal (byte ∷ rest) is (omega arith) written
