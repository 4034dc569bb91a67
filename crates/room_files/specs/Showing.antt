-- What a call that shows a journal has written and reported, once the file is read (own).
use Rattle.std.specs.Prelude.{◌≡◌, ◌+◌, ◌<◌, ℕ, ⊤, false, List, [], ◌∷◌, length, Option, Result, Ok, Err}
use Rattle.std.specs.Io.KnownBytes.{Appends}
use Rattle.bytes_streams.specs.Sink.{AppendsPart}
use Rattle.room_alone.specs.declared.entry.Entry.{Entry}
use Rattle.room_files.specs.declared.journal_fault.Wrong.{Wrong}
use Rattle.room_files.specs.declared.journal_fault.Wrong.TheVariants as wrong
use Rattle.room_files.specs.declared.listing.View.{View}
use Rattle.room_files.specs.Listing.{listing_text}
use Rattle.room_files.specs.Reading.{IsRefusedIn, IsTextOf, has_line}
use Rattle.room_files.specs.declared.showing.ShowFault.{ShowFault}
use Rattle.room_files.specs.declared.showing.ShowFault.TheVariants as fault

-- The text is a journal's, and the entries of it that were asked for were written, and nothing else.
pub record IsShown (text : List ℕ) (view : View) (old new : Option (List ℕ)) : Type 0 where
  pub size : ℕ
  pub journal : List Entry
  pub text_is : IsTextOf text size journal []
  pub written : Appends old new (listing_text view journal)

-- The text is that of a journal of this many entries.
pub record IsOfEntries (text : List ℕ) (count : ℕ) : Type 0 where
  pub size : ℕ
  pub journal : List Entry
  pub text_is : IsTextOf text size journal []
  pub count_is : count ≡ length journal

-- The text is a journal's, perhaps with an unfinished line after it, and nothing of it was written.
pub record IsUnlisted (text : List ℕ) (old new : Option (List ℕ)) : Type 0 where
  pub size : ℕ
  pub journal : List Entry
  pub rest : List ℕ
  pub text_is : IsTextOf text size journal rest
  pub unwritten : new ≡ old

-- The text is a journal's, perhaps with an unfinished line after it, and a beginning of the entries of it that were
-- asked for was written, and nothing else.
pub record IsShownInPart (text : List ℕ) (view : View) (old new : Option (List ℕ)) : Type 0 where
  pub size : ℕ
  pub journal : List Entry
  pub rest : List ℕ
  pub text_is : IsTextOf text size journal rest
  pub written : AppendsPart old new (listing_text view journal)

-- The text ends in this line, before the line feed: nothing was written of an unfinished header, else the entries that
-- were asked for of those before the line.
pub data IsShownUpTo : List ℕ → View → Option (List ℕ) → Option (List ℕ) → ℕ → Type 0 where
  up_to_header : (text : List ℕ) (view : View) (old new : Option (List ℕ)) → has_line text ≡ false → new ≡ old
      → IsShownUpTo text view old new 1
  up_to_entry : (text : List ℕ) (view : View) (old new : Option (List ℕ)) (size : ℕ) (journal : List Entry)
      (rest : List ℕ) → IsTextOf text size journal rest → 0 < length rest
      → Appends old new (listing_text view journal) → IsShownUpTo text view old new (length journal + 2)

-- what was written of a text that is refused in a line: nothing, but for the entries before an unfinished one
abbrev pub IsRefusedShown : List ℕ → View → Option (List ℕ) → Option (List ℕ) → ℕ → Wrong → Type 0
IsRefusedShown text view old new number wrong.Memory = IsRefusedIn text number wrong.Memory × (new ≡ old)
IsRefusedShown text view old new number wrong.Header = IsRefusedIn text number wrong.Header × (new ≡ old)
IsRefusedShown text view old new number wrong.Number = IsRefusedIn text number wrong.Number × (new ≡ old)
IsRefusedShown text view old new number wrong.Seat = IsRefusedIn text number wrong.Seat × (new ≡ old)
IsRefusedShown text view old new number wrong.Command = IsRefusedIn text number wrong.Command × (new ≡ old)
IsRefusedShown text view old new number wrong.Answer = IsRefusedIn text number wrong.Answer × (new ≡ old)
IsRefusedShown text view old new number wrong.Full = IsRefusedIn text number wrong.Full × (new ≡ old)
IsRefusedShown text view old new number wrong.Unfinished = IsShownUpTo text view old new number

-- why a journal isn't shown, and what was written: the text's own fault; want of memory for the listing of a journal;
-- or a write of it that failed
abbrev pub IsNotShown : List ℕ → View → Option (List ℕ) → Option (List ℕ) → ShowFault → Type 0
IsNotShown text view old new fault.Memory = IsUnlisted text old new
IsNotShown text view old new (fault.Journal why) = IsRefusedShown text view old new why.line why.why
IsNotShown text view old new fault.Output = IsShownInPart text view old new

-- why the entries of a journal that were asked for aren't written, and what was
abbrev pub IsUnput : View → List Entry → Option (List ℕ) → Option (List ℕ) → ShowFault → Type 0
IsUnput view journal old new fault.Memory = new ≡ old
IsUnput view journal old new (fault.Journal why) = ⊥
IsUnput view journal old new fault.Output = AppendsPart old new (listing_text view journal)

-- the fault of a text that goes on after its entries
abbrev pub unfinished : List Entry → List ℕ → Result ⊤ ShowFault
unfinished journal [] = Ok tt
unfinished journal (byte ∷ rest) =
    Err (fault.Journal (record { line = length journal + 2; why = wrong.Unfinished }))
