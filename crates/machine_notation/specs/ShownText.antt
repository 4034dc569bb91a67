-- An instruction as it is shown to a person: as Autocoder writes it, with the tape unit that it names where others have
-- an address (own).
use Rattle.std.specs.Prelude.{ℕ, ◌+◌, ◌==◌, ◌&&◌, Bool, false, if◌then◌else◌, List, [], ◌∷◌, ◌++◌, length}
use Rattle.std.specs.Prelude.{Option, None, Some, is_some}
use Rattle.bcd_1401.specs.declared.cell.Cell.{Cell}
use Rattle.machine_tables.specs.Features.{no_features, with_feature}
use Rattle.machine_tables.specs.declared.features.Feature.TheVariants.{Tapes}
use Rattle.machine_tables.specs.Fitted.{fitted_in, is_for_tape}
use Rattle.machine_tables.specs.TapeUnit.{unit_named}
use Rattle.machine_tables.specs.declared.fitted.Fitted.{Fitted}
use Rattle.machine_notation.specs.InstructionText.{graphic_of, instruction_text, operands_text}
use Rattle.machine_notation.specs.Mnemonic.{columns_of}

abbrev pub is_tape_work : Option Fitted → Bool
is_tape_work None = false
is_tape_work (Some fitted) = is_for_tape fitted

-- whether an operation, by its graphic, with this number of characters is for a tape unit on a machine that has units
abbrev pub is_for_unit : ℕ → ℕ → Bool
is_for_unit operation len = is_tape_work (fitted_in (with_feature no_features Tapes) operation len)

-- whether the instruction of these cells and this number more names a unit
abbrev pub names_unit : Cell → Cell → Cell → Cell → ℕ → Bool
names_unit operation h t u more =
    is_for_unit (graphic_of operation) (4 + more)
    && is_some (unit_named (graphic_of h) (graphic_of t) (graphic_of u))

-- a unit, and what is written after it
abbrev pub unit_text : Cell → Cell → Cell → List Cell → List ℕ
unit_text h t u beyond =
    graphic_of h ∷ graphic_of t ∷ graphic_of u
    ∷ (if length beyond == 0 then [] else 44 ∷ operands_text beyond)

-- the columns 16 to 20, and what follows from column 21 on
abbrev pub shown_text : List Cell → List ℕ
shown_text [] = []
shown_text (operation ∷ []) = instruction_text (operation ∷ [])
shown_text (operation ∷ h ∷ []) = instruction_text (operation ∷ h ∷ [])
shown_text (operation ∷ h ∷ t ∷ []) = instruction_text (operation ∷ h ∷ t ∷ [])
shown_text (operation ∷ h ∷ t ∷ u ∷ beyond) =
    if names_unit operation h t u (length beyond) then columns_of (graphic_of operation) ++ unit_text h t u beyond
    else instruction_text (operation ∷ h ∷ t ∷ u ∷ beyond)
