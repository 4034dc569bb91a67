-- Places that two lines fill, and phases that are overwritten before they are entered (own).
use Rattle.std.specs.Prelude.{ℕ, zero, suc, ◌+◌, ◌-◌, ◌==◌, Bool, true, false, if◌then◌else◌, List, [], ◌∷◌, drop, take}
use Rattle.std.specs.Prelude.{replicate, slice_index_or, slice_set, Option, None, Some}
use Rattle.std.specs.Option.{option_map, option_map_or}
use Rattle.autocoder_statements.specs.Description.{describe}
use Rattle.autocoder_statements.specs.declared.description.Addressing.{Addressing}
use Rattle.autocoder_statements.specs.declared.description.Addressing.TheVariants as addressing
use Rattle.autocoder_statements.specs.declared.statement.Line.{Line}
use Rattle.autocoder_statements.specs.declared.statement.Statement.{Statement}
use Rattle.autocoder_placing.specs.Filling.{filled_places}
use Rattle.autocoder_placing.specs.declared.filling.FilledPlaces.{FilledPlaces}
use Rattle.autocoder_warnings.specs.declared.overlap.Overlap.{Overlap}

-- The lines that fill the places of core storage, by their numbers: 0 for a place that no line fills.

-- the first of this many places from one on that a line fills
abbrev pub first_filled : List ℕ → ℕ → ℕ → Option ℕ
first_filled fillers at zero = None
first_filled fillers at (suc n) =
    if slice_index_or fillers at 0 == 0 then first_filled fillers (at + 1) n else Some at

-- with this many places from one on filled by the line of this number
abbrev pub with_filler : ℕ → ℕ → ℕ → List ℕ → List ℕ
with_filler number at zero fillers = fillers
with_filler number at (suc n) fillers = with_filler number (at + 1) n (slice_set fillers at number)

-- EX and XFR, which would enter a phase
abbrev pub enters_phase : Addressing → Bool
enters_phase addressing.Nothing = false
enters_phase (addressing.Addresses of) = false
enters_phase (addressing.EarlierValue of) = false
enters_phase (addressing.Equal of) = false
enters_phase (addressing.Value of) = true
enters_phase (addressing.Entry of) = false

abbrev pub is_entry_line : Line → Bool
is_entry_line line =
    option_map_or (λ (statement : Statement). enters_phase (describe statement.body).addressing) line.statement false

-- the number of the first of these lines that would enter a phase, counting them from this one
abbrev pub entry_from : ℕ → List Line → Option ℕ
entry_from number [] = None
entry_from number (line ∷ lines) = if is_entry_line line then Some number else entry_from (number + 1) lines

-- the overlap at a place, for a line below these: the line that fills it, and the entry of its phase
abbrev pub overlap_at : List ℕ → List Line → ℕ → Overlap
overlap_at fillers above place =
    let line = slice_index_or fillers place 0 in
    record { place = place; line = line; entered = entry_from line (drop (line - 1) above) }

-- the first overlap of a line that fills these places, below these lines
abbrev pub first_overlap : List ℕ → List Line → FilledPlaces → Option Overlap
first_overlap fillers above places =
    option_map (overlap_at fillers above) (first_filled fillers places.first places.count)

-- the overlaps of the lines that fill these places, with this many above them
abbrev pub overlaps_from : List Line → List ℕ → ℕ → List FilledPlaces → List (Option Overlap)
overlaps_from lines fillers n [] = []
overlaps_from lines fillers n (places ∷ more) =
    first_overlap fillers (take n lines) places
    ∷ overlaps_from lines (with_filler (n + 1) places.first places.count fillers) (n + 1) more

-- the overlap of each line in core storage of this size
abbrev pub overlaps_of : ℕ → List Line → List (Option Overlap)
overlaps_of size lines = overlaps_from lines (replicate size 0) 0 (filled_places lines)
