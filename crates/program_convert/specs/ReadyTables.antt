-- What is written of a source, ready: its image, its listing, or its tables (own).
use Rattle.std.specs.Prelude.{ℕ, Bool, true, false, ◌&&◌, if◌then◌else◌, List, [], ◌∷◌, Option, None, Some, IfSome, codes}
use Rattle.autocoder_image.specs.ReadyImage.{text_of, HasPages}
use Rattle.autocoder_listing.specs.Writing.{IsReadyFor, text_for}
use Rattle.autocoder_listing.specs.declared.writing.ReadyListing.{ReadyListing}
use Rattle.program_convert.specs.Assemble.{with_part}
use Rattle.program_convert.specs.declared.assembling.ReadyProduct.{ReadyProduct}
use Rattle.program_convert.specs.declared.assembling.ReadyProduct.TheVariants as product
use Rattle.program_convert.specs.declared.assembling.ReadyTables.{ReadyTables}

-- whether a list has something
abbrev pub has_some : {X : Type 0} → List X → Bool
has_some [] = false
has_some (x ∷ xs) = true

-- what parts the listing of a source that may have lines from tables that may be empty
abbrev pub separator : Bool → List ℕ → List ℕ
separator has_lines rest = if has_lines && has_some rest then codes "\n" else []

abbrev pub listing_in : List ℕ → Option ReadyListing → List ℕ
listing_in source None = []
listing_in source (Some ready) = text_for source ready

-- what is written of tables that are ready
abbrev pub ready_text : List ℕ → ReadyTables → List ℕ
ready_text source tables = with_part (listing_in source tables.listing) tables.rest.items

abbrev pub AreReadyFor : List ℕ → ReadyTables → Type 0
AreReadyFor source tables = IfSome tables.listing (IsReadyFor source)

-- what is written of a source
abbrev pub product_text : List ℕ → ReadyProduct → List ℕ
product_text source (product.Image ready) = text_of ready
product_text source (product.Listing ready) = text_for source ready
product_text source (product.Tables tables) = ready_text source tables

abbrev pub IsReady : List ℕ → ReadyProduct → Type 0
IsReady source (product.Image ready) = HasPages ready
IsReady source (product.Listing ready) = IsReadyFor source ready
IsReady source (product.Tables tables) = AreReadyFor source tables
