-- The characters of a line; the last of rows is the last of them and of those after them.
use Rattle.std.proofs.Common.{◌≡◌, ℕ, List, [], ◌∷◌, ◌++◌, Option, Some, cond, refl}
use Rattle.std.specs.Prelude.{slice_index_or}
use Rattle.bcd_1401.specs.Graphic.{graphics}
use Rattle.bcd_1401.specs.declared.cell.Cell.{Cell}
use Rattle.autocoder_listing.specs.Listing.{blank, characters_text, graphic_of}
use Rattle.autocoder_listing.specs.Rows.{is_at, last_at}
use Rattle.autocoder_listing.specs.declared.rows.Row.{Row}

abbrev graphic_at : List Cell → ℕ → ℕ
graphic_at cells place = graphic_of (slice_index_or cells place blank)

-- cell by cell
pub first_eight : (cells : List Cell) → graphic_at cells 0 ∷ graphic_at cells 1 ∷ graphic_at cells 2 ∷ graphic_at cells 3
    ∷ graphic_at cells 4 ∷ graphic_at cells 5 ∷ graphic_at cells 6 ∷ graphic_at cells 7 ∷ [] ≡ characters_text cells
unfolding characters_text graphics
first_eight [] = refl
first_eight (a ∷ []) = refl
first_eight (a ∷ b ∷ []) = refl
first_eight (a ∷ b ∷ c ∷ []) = refl
first_eight (a ∷ b ∷ c ∷ d ∷ []) = refl
first_eight (a ∷ b ∷ c ∷ d ∷ e ∷ []) = refl
first_eight (a ∷ b ∷ c ∷ d ∷ e ∷ f ∷ []) = refl
first_eight (a ∷ b ∷ c ∷ d ∷ e ∷ f ∷ g ∷ []) = refl
first_eight (a ∷ b ∷ c ∷ d ∷ e ∷ f ∷ g ∷ h ∷ more) = refl

pub last_of_more : (at : ℕ) (characters : List ℕ) (found : Option ℕ) (rows more : List Row)
    → last_at at characters found (rows ++ more) ≡ last_at at characters (last_at at characters found rows) more
last_of_more at characters found [] more = refl
last_of_more at characters found (row ∷ rows) more =
    last_of_more at characters (cond (is_at at characters row) (Some row.number) found) rows more
