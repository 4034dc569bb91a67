-- What features make of instructions: the table (A24-1403, "Special Features", from memory; that these lengths belong to
-- a feature is own).
use Rattle.std.specs.Prelude.{ℕ, ◌==◌, ◌&&◌, Bool, true, false, List, [], ◌∷◌, Option, codes, find, slice_index}
use Rattle.std.specs.List.{list_any}
use Rattle.std.specs.Option.{option_map, option_map_or}
use Rattle.machine_tables.specs.Features.{has_feature}
use Rattle.machine_tables.specs.declared.features.Feature.{Feature}
use Rattle.machine_tables.specs.declared.features.Feature.TheVariants.{Multiply, MoveRecord, ModifyAddress, BitTest}
use Rattle.machine_tables.specs.declared.features.Feature.TheVariants.{Lengths, ReadPunchRelease, Tapes}
use Rattle.machine_tables.specs.declared.features.Features.{Features}
use Rattle.machine_tables.specs.Operation.{is_fitted}
use Rattle.machine_tables.specs.declared.fitted.Fitted.{Fitted}
use Rattle.machine_tables.specs.declared.fitted.Fitted.TheVariants.{OnCell, OnBits, CharacterAgain, CellAgain, BitsAgain}
use Rattle.machine_tables.specs.declared.fitted.Fitted.TheVariants.{StoreA, StoreB, StoreSecond, Halt, Feed, NoLength}
use Rattle.machine_tables.specs.declared.fitted.Fitted.TheVariants as fitted
use Rattle.machine_tables.specs.declared.fitted.FittedLengths.{FittedLengths}
use Rattle.machine_tables.specs.declared.fitted.FittedLengths.TheVariants.{One, OneFourSeven, Five, Seven, Eight}
use Rattle.machine_tables.specs.declared.fitted.FittedLengths.TheVariants.{NotOneOrFour, Any}

-- the lengths of a row
abbrev pub fitted_lengths : FittedLengths → List ℕ
fitted_lengths One = 1 ∷ []
fitted_lengths OneFourSeven = 1 ∷ 4 ∷ 7 ∷ []
fitted_lengths Five = 5 ∷ []
fitted_lengths Seven = 7 ∷ []
fitted_lengths Eight = 8 ∷ []
fitted_lengths NotOneOrFour = 2 ∷ 3 ∷ 5 ∷ 6 ∷ 7 ∷ 8 ∷ []
fitted_lengths Any = 1 ∷ 2 ∷ 3 ∷ 4 ∷ 5 ∷ 6 ∷ 7 ∷ 8 ∷ []

-- a row: a graphic, the lengths, the feature that they belong to, and what it makes of them
abbrev pub FittedRow : Type 0
FittedRow = ℕ × FittedLengths × Feature × Fitted

abbrev pub fitted_row : List ℕ → FittedLengths → Feature → Fitted → FittedRow
fitted_row graphic lengths feature fitted = (slice_index graphic 0, lengths, feature, fitted)

-- The table. The first row that claims an instruction says what is made of it: so a row of any length, the last of its
-- graphic, refuses the others.
abbrev pub fitted_rows : List FittedRow
fitted_rows =
    fitted_row (codes "B") Eight Lengths OnCell
    ∷ fitted_row (codes "B") One Lengths CharacterAgain
    ∷ fitted_row (codes "V") Eight Lengths OnCell
    ∷ fitted_row (codes "V") One Lengths CellAgain
    ∷ fitted_row (codes "W") Eight BitTest OnBits
    ∷ fitted_row (codes "W") One BitTest BitsAgain
    ∷ fitted_row (codes "W") Any BitTest NoLength
    ∷ fitted_row (codes "Q") One Lengths StoreA
    ∷ fitted_row (codes "H") One Lengths StoreB
    ∷ fitted_row (codes "H") Seven Lengths StoreSecond
    ∷ fitted_row (codes ".") NotOneOrFour Lengths Halt
    ∷ fitted_row (codes "8") One ReadPunchRelease Feed
    ∷ fitted_row (codes "8") Any ReadPunchRelease NoLength
    ∷ fitted_row (codes "9") One ReadPunchRelease Feed
    ∷ fitted_row (codes "9") Any ReadPunchRelease NoLength
    ∷ fitted_row (codes "@") OneFourSeven Multiply fitted.Multiply
    ∷ fitted_row (codes "@") Any Multiply NoLength
    ∷ fitted_row (codes "%") OneFourSeven Multiply fitted.Divide
    ∷ fitted_row (codes "%") Any Multiply NoLength
    ∷ fitted_row (codes "P") OneFourSeven MoveRecord fitted.MoveRecord
    ∷ fitted_row (codes "P") Any MoveRecord NoLength
    ∷ fitted_row (codes "#") OneFourSeven ModifyAddress fitted.ModifyAddress
    ∷ fitted_row (codes "#") Any ModifyAddress NoLength
    ∷ fitted_row (codes "M") Eight Tapes fitted.MoveTape
    ∷ fitted_row (codes "L") Eight Tapes fitted.LoadTape
    ∷ fitted_row (codes "U") Five Tapes fitted.ControlTape
    ∷ fitted_row (codes "U") Any Tapes NoLength
    ∷ []

-- whether a row claims an instruction with this graphic and this length, on a machine with these features
abbrev pub claims : Features → ℕ → ℕ → FittedRow → Bool
claims features graphic len row =
    (row.0 == graphic)
    && list_any (λ each. each == len) (fitted_lengths row.1)
    && has_feature features row.2

-- what these features make of it, if one of them claims it
abbrev pub fitted_in : Features → ℕ → ℕ → Option Fitted
fitted_in features graphic len =
    option_map (λ (row : FittedRow). row.3) (find (claims features graphic len) fitted_rows)

-- whether what a feature makes of an instruction is carried out: a branch by bits has one character only on a machine with
-- the lengths
abbrev pub is_operation : Features → Fitted → Bool
is_operation features OnCell = true
is_operation features OnBits = true
is_operation features CharacterAgain = true
is_operation features CellAgain = true
is_operation features BitsAgain = features.lengths
is_operation features StoreA = true
is_operation features StoreB = true
is_operation features StoreSecond = true
is_operation features Halt = true
is_operation features Feed = true
is_operation features fitted.Multiply = true
is_operation features fitted.Divide = true
is_operation features fitted.MoveRecord = true
is_operation features fitted.ModifyAddress = true
is_operation features fitted.MoveTape = true
is_operation features fitted.LoadTape = true
is_operation features fitted.ControlTape = true
is_operation features NoLength = false

-- whether what a feature makes of an instruction is for a tape unit
abbrev pub is_for_tape : Fitted → Bool
is_for_tape OnCell = false
is_for_tape OnBits = false
is_for_tape CharacterAgain = false
is_for_tape CellAgain = false
is_for_tape BitsAgain = false
is_for_tape StoreA = false
is_for_tape StoreB = false
is_for_tape StoreSecond = false
is_for_tape Halt = false
is_for_tape Feed = false
is_for_tape fitted.Multiply = false
is_for_tape fitted.Divide = false
is_for_tape fitted.MoveRecord = false
is_for_tape fitted.ModifyAddress = false
is_for_tape fitted.MoveTape = true
is_for_tape fitted.LoadTape = true
is_for_tape fitted.ControlTape = true
is_for_tape NoLength = false

-- a machine with these features carries out an instruction of the operation with this graphic and this length
abbrev pub is_fitted_with : Features → ℕ → ℕ → Bool
is_fitted_with features graphic len =
    option_map_or (is_operation features) (fitted_in features graphic len) (is_fitted graphic len)
