-- What a call that assembles a source has written and told, once the file is read (own).
use Rattle.std.specs.Prelude.{◌≡◌, ◌⊎◌, ℕ, ⊤, Bool, IsTrue, if◌then◌else◌, List, [], ◌∷◌, ◌++◌, Option, Some, Result}
use Rattle.std.specs.Prelude.{Ok, Err, IsOk, codes}
use Rattle.std.specs.Io.KnownBytes.{Appends}
use Rattle.autocoder_symbols.specs.Fault.{IsMemory}
use Rattle.autocoder_symbols.specs.Reading.{lines_in}
use Rattle.autocoder_listing.specs.CrossReference.{references_text}
use Rattle.autocoder_listing.specs.Listing.{listing_text}
use Rattle.autocoder_listing.specs.SymbolTable.{symbols_text}
use Rattle.autocoder_1401.specs.Assembly.{assembly_in}
use Rattle.autocoder_1401.specs.declared.assembly.Assembly.{Assembly}
use Rattle.autocoder_deck.specs.Contents.{first_taken, storage_of}
use Rattle.autocoder_deck.specs.Deck.{deck_text}
use Rattle.autocoder_deck.specs.declared.fault.DeckFault.TheVariants.{Place}
use Rattle.autocoder_statements.specs.declared.language.Language.{Language}
use Rattle.bytes_streams.specs.Sink.{AppendsPart}
use Rattle.machine_image.specs.ImageText.{IsTextOf, written_text}
use Rattle.program_arguments.specs.declared.call.Product.{Product}
use Rattle.program_arguments.specs.declared.call.Product.TheVariants as product
use Rattle.program_arguments.specs.declared.call.Tables.{Tables}
use Rattle.program_convert.specs.declared.fault.AssembleFault.{AssembleFault}
use Rattle.program_convert.specs.declared.fault.AssembleFault.TheVariants as fault

-- a part of a text after those before it, with an empty line between them
abbrev pub with_part : List ℕ → List ℕ → List ℕ
with_part [] part = part
with_part (byte ∷ bytes) [] = byte ∷ bytes
with_part (byte ∷ bytes) (first ∷ more) = (byte ∷ bytes) ++ codes "\n" ++ first ∷ more

abbrev pub with_part_if : Bool → List ℕ → List ℕ → List ℕ
with_part_if asked text part = if asked then with_part text part else text

-- the listing, the symbol table and the cross-reference, so far as they are asked for
abbrev pub tables_text : Tables → List ℕ → List ℕ → List ℕ → List ℕ
tables_text asked listing symbols references =
    let listed = with_part_if asked.listing [] listing in
    with_part_if asked.references (with_part_if asked.symbols listed symbols) references

-- the text is what is written of a source and its assembly: that of its image in the newest version, its listing, or
-- tables
abbrev pub IsProduct : Language → Product → List ℕ → Assembly → List ℕ → Type 0
IsProduct language product.Image source assembly text =
    (text ≡ written_text assembly.image) × IsTextOf text assembly.image
IsProduct language product.Listing source assembly text = text ≡ listing_text assembly.listing
IsProduct language (product.Tables asked) source assembly text =
    text
    ≡ tables_text asked (listing_text assembly.listing) (symbols_text (lines_in language source))
    (references_text (lines_in language source))

-- why nothing was written: the source's own fault, or want of memory for it; or want of memory for the text
abbrev pub IsWhyNotAssembled : Language → ℕ → List ℕ → AssembleFault → Type 0
IsWhyNotAssembled language size source fault.Size = ⊥
IsWhyNotAssembled language size source (fault.Unread name) = ⊥
IsWhyNotAssembled language size source (fault.Source why) = IsMemory why ⊎ (assembly_in language size source ≡ Err why)
IsWhyNotAssembled language size source (fault.Faulty told) = ⊥
IsWhyNotAssembled language size source (fault.Deck why) = ⊥
IsWhyNotAssembled language size source (fault.Unloaded why) = ⊥
IsWhyNotAssembled language size source (fault.File name why) = ⊥
IsWhyNotAssembled language size source (fault.Image why) = ⊥
IsWhyNotAssembled language size source fault.Memory = IsOk (assembly_in language size source)
IsWhyNotAssembled language size source fault.Output = ⊥
IsWhyNotAssembled language size source (fault.Unwritten name) = ⊥
IsWhyNotAssembled language size source (fault.OneFile first second) = ⊥

-- the text is that of the deck of what the source stands for
pub record IsDeckOf (language : Language) (size : ℕ) (source text : List ℕ) : Type 0 where
  pub assembly : Assembly
  pub stands_for : assembly_in language size source ≡ Ok assembly
  pub text_is : text ≡ deck_text assembly.image

-- the source is assembled, and its image has something in the places where the cards of a deck are read
pub record HasNoDeck (language : Language) (size : ℕ) (source : List ℕ) (told : AssembleFault) : Type 0 where
  pub assembly : Assembly
  pub stands_for : assembly_in language size source ≡ Ok assembly
  pub place : ℕ
  pub told_is : told ≡ fault.Deck (Place place)
  pub taken : first_taken (storage_of assembly.image) ≡ Some place

-- why no deck was made: as for an image, or its own reason
abbrev pub IsWhyNoDeckOf : Language → ℕ → List ℕ → AssembleFault → Type 0
IsWhyNoDeckOf language size source told =
    IsWhyNotAssembled language size source told ⊎ HasNoDeck language size source told

-- what an output received of a text: all of it, or a beginning if a write to it has failed
abbrev pub Wrote : List ℕ → Option (List ℕ) → Option (List ℕ) → Bool → Result ⊤ AssembleFault → Type 0
Wrote text old new failed outcome =
    ((outcome ≡ Ok tt) × Appends old new text)
    ⊎ ((outcome ≡ Err fault.Output) × AppendsPart old new text × IsTrue failed)

-- the text is what is written of what the source stands for
pub record IsProductOf (language : Language) (size : ℕ) (source : List ℕ) (product : Product) (text : List ℕ)
    : Type 0 where
  pub assembly : Assembly
  pub stands_for : assembly_in language size source ≡ Ok assembly
  pub text_is : IsProduct language product source assembly text

-- Nothing was written.
pub record NotAssembled (language : Language) (size : ℕ) (source : List ℕ) (old new : Option (List ℕ))
    (outcome : Result ⊤ AssembleFault) : Type 0 where
  pub why : AssembleFault
  pub told : outcome ≡ Err why
  pub reason : IsWhyNotAssembled language size source why
  pub unwritten : new ≡ old

-- What the source stands for was written, and nothing else.
pub record WroteAssembly (language : Language) (size : ℕ) (source : List ℕ) (product : Product)
    (old new : Option (List ℕ)) (failed : Bool) (outcome : Result ⊤ AssembleFault) : Type 0 where
  pub text : List ℕ
  pub text_is : IsProductOf language size source product text
  pub written : Wrote text old new failed outcome

-- what a call did
abbrev pub AssembleDid : Language → ℕ → List ℕ → Product → Option (List ℕ) → Option (List ℕ) → Bool → Result ⊤ AssembleFault
    → Type 0
AssembleDid language size source product old new failed outcome =
    NotAssembled language size source old new outcome
    ⊎ WroteAssembly language size source product old new failed outcome
