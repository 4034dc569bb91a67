-- What a run begins with, by what its files were read as.
use Rattle.std.proofs.Common.{◌≡◌, ℕ, true, false, List, [], ◌++◌, Option, None, Some, Result, Ok, refl, sym, subst}
use Rattle.std.proofs.lemmas.Bool.{and_parts}
use Rattle.std.proofs.lemmas.List.{append-nil}
use Rattle.std.specs.Prelude.{unwrap_or}
use Rattle.program_arguments.specs.declared.call.Start.{Start}
use Rattle.program_arguments.specs.SourceSize.{size_for}
use Rattle.cpu_1401.specs.State.{State, power_on}
use Rattle.devices_1401.specs.declared.card.Card.{Card}
use Rattle.job_runner.specs.DeckText.{deck_of}
use Rattle.job_runner.specs.declared.deck_text.DeckTextFault.{DeckTextFault}
use Rattle.autocoder_statements.specs.declared.language.Language.{Language}
use Rattle.core_1401.specs.Storage.{is_core_size}
use Rattle.machine_image.specs.Image.{IsInCore}
use Rattle.machine_image.specs.Version.{has_size}
use Rattle.machine_image.specs.declared.version.Version.{Version}
use Rattle.machine_image.specs.declared.version.Version.TheVariants.{One, Two}
use Rattle.machine_image.specs.ImageText.{IsTextOf}
use Rattle.machine_image.specs.declared.image.Image.{Image}
use Rattle.program_run.specs.Program.{IsAssembled, IsImageMachine, is_meant_as_image, with_image}
use Rattle.program_run.specs.RunJob.{HasFile, HasLoader, HasProgram, IsBegun, IsDeckText}

-- the cards of a text
pub is_deck_text : (text : List ℕ) (cards : List Card)
    → ◌≡◌ {A = Result (List Card) DeckTextFault} (deck_of text) (Ok cards) → IsDeckText cards
is_deck_text text cards is = (text, is)

-- an image of a version has the size of a core storage
core_size : (version : Version) (size : ℕ) → has_size version size ≡ true → is_core_size size ≡ true
core_size One size has = (and_parts (is_core_size size) _ has).0
core_size Two size has = has

-- all of the image of a text is in core
pub in_core : (text : List ℕ) (image : Image) → IsTextOf text image → IsInCore image
in_core text image is = record {
  size = core_size is.version image.size is.has_text.size;
  segments = is.has_text.segments;
  start = is.has_text.start;
}

-- the program of an image's text, and no cards
pub has_image : (language : Language) (size : Option ℕ) (text : List ℕ) (machine : State) (cards : List Card)
    → is_meant_as_image text ≡ true → IsImageMachine text machine → cards ≡ []
    → HasProgram language size machine cards
has_image language size text machine cards meant is none = record {
  text = text;
  image = is.0;
  program_of = record { of_image = λ _. is.1; of_source = λ source. absurd cc };
  machine_is = is.2;
  cards_are = none;
}

-- the program of a source, and no cards
pub has_source : (language : Language) (size : Option ℕ) (text : List ℕ) (image : Image) (machine : State)
    (cards : List Card) → is_meant_as_image text ≡ false
    → IsAssembled language (size_for size language text) text (Ok image)
    → machine ≡ with_image image → cards ≡ [] → HasProgram language size machine cards
has_source language size text image machine cards source is machine_is none = record {
  text = text;
  image = image;
  program_of = record { of_image = λ meant. absurd cc; of_source = λ _. is };
  machine_is = machine_is;
  cards_are = none;
}

-- the cards of a text, and a machine at power-on
pub has_loader : (size : Option ℕ) (machine : State) (cards : List Card) → IsDeckText cards
    → machine ≡ power_on (unwrap_or size 4000) → HasLoader size machine cards
has_loader size machine cards is machine_is =
    record { text = is.0; deck = is.1; machine_is = machine_is }

-- without a deck
pub begun_alone : (how : Start) (language : Language) (size : Option ℕ) (machine : State) (cards : List Card)
    → HasFile how language size machine cards → IsBegun how language size None machine cards
begun_alone how language size machine cards is = record {
  own = cards;
  beyond = [];
  file = is;
  those = refl;
  cards_are = sym (append-nil cards);
}

-- with the cards of one
pub begun_with : (how : Start) (language : Language) (size : Option ℕ) (name : List ℕ) (machine after : State)
    (own beyond cards : List Card) → HasFile how language size machine own → IsDeckText beyond → after ≡ machine
    → cards ≡ own ++ beyond → IsBegun how language size (Some name) after cards
begun_with how language size name machine after own beyond cards is those same cards_are = record {
  own = own;
  beyond = beyond;
  file = subst (λ (s : State). HasFile how language size s own) (sym same) is;
  those = those;
  cards_are = cards_are;
}
