-- What a call that lists an image or a deck has written and told, once the file is read (own).
use Rattle.std.specs.Prelude.{◌≡◌, ◌⊎◌, ℕ, ⊤, Bool, List, Option, Result, Err}
use Rattle.cpu_1401.specs.State.{power_on}
use Rattle.autocoder_deck.specs.Entry.{AtEntry, IsWhyUnloaded, loaded_deck}
use Rattle.autocoder_deck.specs.LoadedCore.{IsLoadedDeck}
use Rattle.autocoder_deck.specs.declared.entry.LoadFault.{LoadFault}
use Rattle.autocoder_deck.specs.declared.loaded_core.LoadedDeck.{LoadedDeck}
use Rattle.devices_1401.specs.declared.card.Card.{Card}
use Rattle.autocoder_deck.specs.ImageListing.{listing_text, marked_text}
use Rattle.job_runner.specs.Unattended.{with_deck}
use Rattle.machine_image.specs.declared.image.Image.{Image}
use Rattle.machine_image.specs.ImageText.{IsTextOf}
use Rattle.machine_image.specs.Refusal.{IsRefused}
use Rattle.program_convert.specs.Assemble.{Wrote}
use Rattle.program_convert.specs.declared.fault.AssembleFault.{AssembleFault}
use Rattle.program_convert.specs.declared.fault.AssembleFault.TheVariants as fault

-- the listing of the image whose text this is
pub record IsListingOf (text listing : List ℕ) : Type 0 where
  pub image : Image
  pub text_is : IsTextOf text image
  pub listing_is : listing ≡ listing_text image

-- why nothing was written: the text's own fault, or want of memory
abbrev pub IsWhyNotListed : List ℕ → AssembleFault → Type 0
IsWhyNotListed text fault.Size = ⊥
IsWhyNotListed text (fault.Unread name) = ⊥
IsWhyNotListed text (fault.Source why) = ⊥
IsWhyNotListed text (fault.Faulty told) = ⊥
IsWhyNotListed text (fault.Deck why) = ⊥
IsWhyNotListed text (fault.Unloaded why) = ⊥
IsWhyNotListed text (fault.File name why) = ⊥
IsWhyNotListed text (fault.Image why) = IsRefused text why
IsWhyNotListed text fault.Memory = (image : Image) × IsTextOf text image
IsWhyNotListed text fault.Output = ⊥
IsWhyNotListed text (fault.Unwritten name) = ⊥
IsWhyNotListed text (fault.OneFile first second) = ⊥

-- Nothing was written.
pub record NotListed (text : List ℕ) (old new : Option (List ℕ)) (outcome : Result ⊤ AssembleFault) : Type 0 where
  pub why : AssembleFault
  pub told : outcome ≡ Err why
  pub reason : IsWhyNotListed text why
  pub unwritten : new ≡ old

-- The listing of the image was written, and nothing else.
pub record WroteListing (text : List ℕ) (old new : Option (List ℕ)) (failed : Bool) (outcome : Result ⊤ AssembleFault)
    : Type 0 where
  pub listing : List ℕ
  pub listing_is : IsListingOf text listing
  pub written : Wrote listing old new failed outcome

-- what a call did
abbrev pub DisassembleDid : List ℕ → Option (List ℕ) → Option (List ℕ) → Bool → Result ⊤ AssembleFault → Type 0
DisassembleDid text old new failed outcome =
    NotListed text old new outcome ⊎ WroteListing text old new failed outcome

-- the most instructions that a deck may take to load itself
abbrev pub most_steps : ℕ
most_steps = 1000000

-- these cards, taken by the load key of a machine at power-on up to the entry of their program
abbrev pub loaded_on : ℕ → List Card → Result AtEntry LoadFault
loaded_on size cards = loaded_deck most_steps (with_deck cards (power_on size))

-- the listing of what these cards load, with the signs of what was carried out
pub record IsListingOfDeck (size : ℕ) (cards : List Card) (listing : List ℕ) : Type 0 where
  pub loaded : LoadedDeck
  pub loads : IsLoadedDeck (loaded_on size cards) loaded
  pub listing_is : listing ≡ marked_text loaded.carried loaded.image

-- why nothing was written: the machine stopped before the entry, or memory was refused
abbrev pub IsWhyUnlisted : ℕ → List Card → AssembleFault → Type 0
IsWhyUnlisted size cards fault.Size = ⊥
IsWhyUnlisted size cards (fault.Unread name) = ⊥
IsWhyUnlisted size cards (fault.Source why) = ⊥
IsWhyUnlisted size cards (fault.Faulty told) = ⊥
IsWhyUnlisted size cards (fault.Deck why) = ⊥
IsWhyUnlisted size cards (fault.Unloaded why) = IsWhyUnloaded (loaded_on size cards) why
IsWhyUnlisted size cards (fault.File name why) = ⊥
IsWhyUnlisted size cards (fault.Image why) = ⊥
IsWhyUnlisted size cards fault.Memory = ⊤
IsWhyUnlisted size cards fault.Output = ⊥
IsWhyUnlisted size cards (fault.Unwritten name) = ⊥
IsWhyUnlisted size cards (fault.OneFile first second) = ⊥

-- Nothing was written of a deck.
pub record DeckUnlisted (size : ℕ) (cards : List Card) (old new : Option (List ℕ)) (outcome : Result ⊤ AssembleFault)
    : Type 0 where
  pub why : AssembleFault
  pub told : outcome ≡ Err why
  pub reason : IsWhyUnlisted size cards why
  pub unwritten : new ≡ old

-- The listing of a deck was written, and nothing else.
pub record WroteDeckListing (size : ℕ) (cards : List Card) (old new : Option (List ℕ)) (failed : Bool)
    (outcome : Result ⊤ AssembleFault) : Type 0 where
  pub listing : List ℕ
  pub listing_is : IsListingOfDeck size cards listing
  pub written : Wrote listing old new failed outcome

-- what a call of a deck did
abbrev pub DisassembledDeck : ℕ → List Card → Option (List ℕ) → Option (List ℕ) → Bool → Result ⊤ AssembleFault → Type 0
DisassembledDeck size cards old new failed outcome =
    DeckUnlisted size cards old new outcome ⊎ WroteDeckListing size cards old new failed outcome
