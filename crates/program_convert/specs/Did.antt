-- What a call that lists a reel, or makes a deck of it, has written and reported, once the file is read (own).
use Rattle.std.specs.Prelude.{◌≡◌, ◌⊎◌, ⊤, Bool, IsTrue, ℕ, List, Option, Result, Ok, Err, IsOk, map, string_bytes}
use Rattle.std.specs.Io.KnownBytes.{Appends}
use Rattle.bcd_1401.specs.Graphics.{chain_of, theirs_of}
use Rattle.bcd_1401.specs.declared.graphics.Graphics.{Graphics}
use Rattle.bytes_streams.specs.Sink.{AppendsPart}
use Rattle.machine_tapes.specs.TapReading.{records_read}
use Rattle.program_arguments.specs.declared.call.Parity.{Parity}
use Rattle.program_convert.specs.Decks.{reel_deck_text}
use Rattle.program_convert.specs.ReelListing.{listing_text}
use Rattle.program_convert.specs.declared.reel_fault.ReelFault.{ReelFault}
use Rattle.program_convert.specs.declared.reel_fault.ReelFault.TheVariants as fault

-- why there is no reel of a text: its own fault, or memory was refused
abbrev pub IsWhyNoReel : List ℕ → ReelFault → Type 0
IsWhyNoReel text (fault.File name why) = ⊥
IsWhyNoReel text (fault.Reel why) = records_read text ≡ Err why
IsWhyNoReel text (fault.Record number) = ⊥
IsWhyNoReel text fault.Full = ⊥
IsWhyNoReel text fault.Memory = IsOk (records_read text)
IsWhyNoReel text fault.Output = ⊥
IsWhyNoReel text (fault.Unwritten name) = ⊥
IsWhyNoReel text (fault.OneFile first second) = ⊥

-- what an output received of a text: all of it, or a beginning if a write to it has failed
abbrev pub Wrote : List ℕ → Option (List ℕ) → Option (List ℕ) → Bool → Result ⊤ ReelFault → Type 0
Wrote text old new failed outcome =
    ((outcome ≡ Ok tt) × Appends old new text)
    ⊎ ((outcome ≡ Err fault.Output) × AppendsPart old new text × IsTrue failed)

-- Nothing was written.
pub record NotListed (text : List ℕ) (old new : Option (List ℕ)) (outcome : Result ⊤ ReelFault) : Type 0 where
  pub why : ReelFault
  pub reported : outcome ≡ Err why
  pub reason : IsWhyNoReel text why
  pub unwritten : new ≡ old

-- The listing of the reel was written, and nothing else.
pub record WroteListing (parity : Parity) (text : List ℕ) (old new : Option (List ℕ)) (failed : Bool)
    (outcome : Result ⊤ ReelFault) : Type 0 where
  pub records : List (List ℕ)
  pub read : records_read text ≡ Ok records
  pub written : Wrote (listing_text parity records) old new failed outcome

-- what a call that lists a reel did
abbrev pub ReelListed : Parity → List ℕ → Option (List ℕ) → Option (List ℕ) → Bool → Result ⊤ ReelFault → Type 0
ReelListed parity text old new failed outcome =
    NotListed text old new outcome ⊎ WroteListing parity text old new failed outcome

-- the deck is that of the reel whose text this is, in the graphics of the chain that is asked for
pub record IsDeckOf (asked : Option Graphics) (parity : Parity) (text deck : List ℕ) : Type 0 where
  pub records : List (List ℕ)
  pub ours : List ℕ
  pub read : records_read text ≡ Ok records
  pub ours_is : reel_deck_text parity records ≡ Ok ours
  pub deck_is : deck ≡ map (theirs_of (chain_of asked)) ours

-- the record of this number is the first that is longer than a card
pub record HasLongRecord (parity : Parity) (text : List ℕ) (number : ℕ) : Type 0 where
  pub records : List (List ℕ)
  pub read : records_read text ≡ Ok records
  pub long : reel_deck_text parity records ≡ Err number

-- why there is no deck of the records of a reel: one of them is longer than a card, or memory was refused
abbrev pub IsWhyNoCards : Parity → List (List ℕ) → ReelFault → Type 0
IsWhyNoCards parity records (fault.File name why) = ⊥
IsWhyNoCards parity records (fault.Reel why) = ⊥
IsWhyNoCards parity records (fault.Record number) = reel_deck_text parity records ≡ Err number
IsWhyNoCards parity records fault.Full = ⊥
IsWhyNoCards parity records fault.Memory = ⊤
IsWhyNoCards parity records fault.Output = ⊥
IsWhyNoCards parity records (fault.Unwritten name) = ⊥
IsWhyNoCards parity records (fault.OneFile first second) = ⊥

-- why there is no deck of the reel of a text: there is no reel, or no deck of its records
abbrev pub IsWhyNoDeck : Parity → List ℕ → ReelFault → Type 0
IsWhyNoDeck parity text (fault.File name why) = ⊥
IsWhyNoDeck parity text (fault.Reel why) = records_read text ≡ Err why
IsWhyNoDeck parity text (fault.Record number) = HasLongRecord parity text number
IsWhyNoDeck parity text fault.Full = ⊥
IsWhyNoDeck parity text fault.Memory = IsOk (records_read text)
IsWhyNoDeck parity text fault.Output = ⊥
IsWhyNoDeck parity text (fault.Unwritten name) = ⊥
IsWhyNoDeck parity text (fault.OneFile first second) = ⊥

-- the fault of two names that lead to one file
abbrev pub IsOneFileFault : List ℕ → List ℕ → ReelFault → Type 0
IsOneFileFault first second (fault.File name why) = ⊥
IsOneFileFault first second (fault.Reel why) = ⊥
IsOneFileFault first second (fault.Record number) = ⊥
IsOneFileFault first second fault.Full = ⊥
IsOneFileFault first second fault.Memory = ⊤
IsOneFileFault first second fault.Output = ⊥
IsOneFileFault first second (fault.Unwritten name) = ⊥
IsOneFileFault first second (fault.OneFile one other) = (string_bytes one ≡ first) × (string_bytes other ≡ second)
