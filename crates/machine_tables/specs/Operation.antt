-- The operations by their characters, and what their instructions look like (A24-1403, "Instruction Format", "Address
-- Registers"; the choice of lengths is own).
use Rattle.std.specs.Prelude.{ℕ, ◌==◌, Bool, true, false, List, [], ◌∷◌, Option, codes}
use Rattle.std.specs.Prelude.{slice_index, if◌then◌else◌}
use Rattle.std.specs.List.{list_any}
use Rattle.std.specs.Option.{option_map, option_map_or, option_or}
use Rattle.bcd_1401.specs.Graphic.{graphics}
use Rattle.machine_tables.specs.declared.operation.Operation.{Operation}
use Rattle.machine_tables.specs.declared.operation.Operation.TheVariants.{Add, Subtract, ZeroAdd, ZeroSubtract}
use Rattle.machine_tables.specs.declared.operation.Operation.TheVariants.{Move, Load, MoveDigit, MoveZone}
use Rattle.machine_tables.specs.declared.operation.Operation.TheVariants.{SetWordMark, ClearWordMark, ClearStorage}
use Rattle.machine_tables.specs.declared.operation.Operation.TheVariants.{Compare, ZeroSuppress, Edit, Branch}
use Rattle.machine_tables.specs.declared.operation.Operation.TheVariants.{BranchOnCell, StoreA, StoreB, NoOperation}
use Rattle.machine_tables.specs.declared.operation.Operation.TheVariants.{Halt, SelectStacker, ReadCard, WriteLine}
use Rattle.machine_tables.specs.declared.operation.Operation.TheVariants.{WriteAndRead, PunchCard, ReadAndPunch}
use Rattle.machine_tables.specs.declared.operation.Operation.TheVariants.{WriteAndPunch, WriteReadAndPunch}
use Rattle.machine_tables.specs.declared.operation.Operation.TheVariants.{ControlCarriage}
use Rattle.machine_tables.specs.Rows.{meaning_in, row}

-- the operations, each by its graphic
abbrev pub operations : List (ℕ × Operation)
operations =
    row (codes "A") Add
    ∷ row (codes "S") Subtract
    ∷ row (codes "?") ZeroAdd
    ∷ row (codes "!") ZeroSubtract
    ∷ row (codes "M") Move
    ∷ row (codes "L") Load
    ∷ row (codes "D") MoveDigit
    ∷ row (codes "Y") MoveZone
    ∷ row (codes ",") SetWordMark
    ∷ row (codes ")") ClearWordMark
    ∷ row (codes "/") ClearStorage
    ∷ row (codes "C") Compare
    ∷ row (codes "Z") ZeroSuppress
    ∷ row (codes "E") Edit
    ∷ row (codes "B") Branch
    ∷ row (codes "V") BranchOnCell
    ∷ row (codes "Q") StoreA
    ∷ row (codes "H") StoreB
    ∷ row (codes "N") NoOperation
    ∷ row (codes ".") Halt
    ∷ row (codes "K") SelectStacker
    ∷ row (codes "1") ReadCard
    ∷ row (codes "2") WriteLine
    ∷ row (codes "3") WriteAndRead
    ∷ row (codes "4") PunchCard
    ∷ row (codes "5") ReadAndPunch
    ∷ row (codes "6") WriteAndPunch
    ∷ row (codes "7") WriteReadAndPunch
    ∷ row (codes "F") ControlCarriage
    ∷ []

-- the operation of a graphic
abbrev pub meaning_of : ℕ → Option Operation
meaning_of graphic = meaning_in operations graphic

-- the operation of a character
abbrev pub operation_of : ℕ → Option Operation
operation_of char = meaning_in operations (slice_index graphics char)

-- the operations that belong to features that this machine hasn't got: their graphics and their mnemonics (Autocoder,
-- the index of operations)
abbrev pub unfitted_rows : List (ℕ × List ℕ)
unfitted_rows =
    row (codes "@") (codes "M    ")
    ∷ row (codes "%") (codes "D    ")
    ∷ row (codes "U") (codes "CU   ")
    ∷ row (codes "8") (codes "SRF  ")
    ∷ row (codes "9") (codes "SPF  ")
    ∷ row (codes "P") (codes "MCM  ")
    ∷ row (codes "X") (codes "MIZ  ")
    ∷ row (codes "W") (codes "BBE  ")
    ∷ row (codes "#") (codes "MA   ")
    ∷ []

-- their graphics
abbrev pub unfitted_operations : List ℕ
unfitted_operations = codes "@%U89PXW#"

-- whether a character is such an operation
abbrev pub is_unfitted : ℕ → Bool
is_unfitted char = list_any (λ each. each == slice_index graphics char) unfitted_operations

-- What the instructions of an operation look like: the lengths that they may have; the lengths that belong to features
-- that this machine hasn't got; how many characters are looked at, by the fifth; and whether their one address goes
-- into both registers, or into the A register alone.
pub record Form : Type 0 where
  pub lengths : List ℕ
  pub unfitted_lengths : List ℕ
  pub longest : ℕ → ℕ
  pub loads_both : Bool

abbrev pub form : List ℕ → List ℕ → (ℕ → ℕ) → Bool → Form
form lengths unfitted_lengths longest loads_both =
    record {
      lengths = lengths;
      unfitted_lengths = unfitted_lengths;
      longest = longest;
      loads_both = loads_both;
    }

abbrev pub eight : ℕ → ℕ
eight fifth = 8

abbrev pub seven : ℕ → ℕ
seven fifth = 7

abbrev pub four_before_a_blank : ℕ → ℕ
four_before_a_blank fifth = if fifth == 0 then 4 else 8

-- Instructions of 1, 4 and 7 characters have no address, one and two; those of 2, 5 and 8 have a d-character as well.
abbrev pub form_of : Operation → Form
form_of Add = form (1 ∷ 4 ∷ 7 ∷ []) [] eight true
form_of Subtract = form (1 ∷ 4 ∷ 7 ∷ []) [] eight true
form_of ZeroAdd = form (1 ∷ 4 ∷ 7 ∷ []) [] eight true
form_of ZeroSubtract = form (1 ∷ 4 ∷ 7 ∷ []) [] eight true
form_of Move = form (1 ∷ 4 ∷ 7 ∷ []) (8 ∷ []) eight false
form_of Load = form (1 ∷ 4 ∷ 7 ∷ []) (8 ∷ []) eight false
form_of MoveDigit = form (1 ∷ 4 ∷ 7 ∷ []) [] eight true
form_of MoveZone = form (1 ∷ 4 ∷ 7 ∷ []) [] eight true
form_of SetWordMark = form (1 ∷ 4 ∷ 7 ∷ []) [] seven true
form_of ClearWordMark = form (1 ∷ 4 ∷ 7 ∷ []) [] eight true
form_of ClearStorage = form (1 ∷ 4 ∷ 7 ∷ []) [] seven true
form_of Compare = form (1 ∷ 4 ∷ 7 ∷ []) [] eight true
form_of ZeroSuppress = form (1 ∷ 4 ∷ 7 ∷ []) [] eight true
form_of Edit = form (1 ∷ 4 ∷ 7 ∷ []) [] eight true
form_of Branch = form (4 ∷ 5 ∷ 8 ∷ []) [] four_before_a_blank false
form_of BranchOnCell = form (8 ∷ []) [] eight false
form_of StoreA = form (4 ∷ []) [] eight false
form_of StoreB = form (4 ∷ []) [] eight false
form_of NoOperation = form (1 ∷ 2 ∷ 3 ∷ 4 ∷ 5 ∷ 6 ∷ 7 ∷ 8 ∷ []) [] eight false
form_of Halt = form (1 ∷ 4 ∷ []) [] eight false
form_of SelectStacker = form (2 ∷ 5 ∷ []) [] eight false
form_of ReadCard = form (1 ∷ 4 ∷ []) (2 ∷ 5 ∷ []) eight false
form_of WriteLine = form (1 ∷ 2 ∷ 4 ∷ 5 ∷ []) [] eight false
form_of WriteAndRead = form (1 ∷ 4 ∷ []) (2 ∷ 5 ∷ []) eight false
form_of PunchCard = form (1 ∷ 4 ∷ []) (2 ∷ 5 ∷ []) eight false
form_of ReadAndPunch = form (1 ∷ 4 ∷ []) (2 ∷ 5 ∷ []) eight false
form_of WriteAndPunch = form (1 ∷ 4 ∷ []) (2 ∷ 5 ∷ []) eight false
form_of WriteReadAndPunch = form (1 ∷ 4 ∷ []) (2 ∷ 5 ∷ []) eight false
form_of ControlCarriage = form (2 ∷ 5 ∷ []) [] eight false

-- whether an instruction may have this length
abbrev pub has_length : Operation → ℕ → Bool
has_length operation len = list_any (λ each. each == len) (form_of operation).lengths

-- how many characters of an instruction of the operation with this graphic are looked at, by the fifth; eight if there
-- is no such operation
abbrev pub longest_at : ℕ → ℕ → ℕ
longest_at graphic fifth =
    option_map_or (λ (operation : Operation). (form_of operation).longest fifth) (meaning_of graphic) 8

-- the machine carries out an instruction of the operation with this graphic and this length
abbrev pub is_fitted : ℕ → ℕ → Bool
is_fitted graphic len = option_map_or (λ (operation : Operation). has_length operation len) (meaning_of graphic) false

-- whether this length belongs to a feature that this machine hasn't got
abbrev pub is_unfitted_length : Operation → ℕ → Bool
is_unfitted_length operation len = list_any (λ each. each == len) (form_of operation).unfitted_lengths

-- the operations that look first of all whether both of their addresses are those of places: if one isn't, they stop as
-- ADDRESS (own)
abbrev pub needs_places : Operation → Bool
needs_places Add = true
needs_places Subtract = true
needs_places ZeroAdd = true
needs_places ZeroSubtract = true
needs_places Move = true
needs_places Load = false
needs_places MoveDigit = true
needs_places MoveZone = true
needs_places SetWordMark = true
needs_places ClearWordMark = true
needs_places ClearStorage = false
needs_places Compare = true
needs_places ZeroSuppress = false
needs_places Edit = false
needs_places Branch = false
needs_places BranchOnCell = false
needs_places StoreA = false
needs_places StoreB = false
needs_places NoOperation = false
needs_places Halt = false
needs_places SelectStacker = false
needs_places ReadCard = false
needs_places WriteLine = false
needs_places WriteAndRead = false
needs_places PunchCard = false
needs_places ReadAndPunch = false
needs_places WriteAndPunch = false
needs_places WriteReadAndPunch = false
needs_places ControlCarriage = false

-- the mnemonics, as columns 16 to 20 of a source line have them (Autocoder, "Operation")
abbrev pub mnemonic_of : Operation → List ℕ
mnemonic_of Add = codes "A    "
mnemonic_of Subtract = codes "S    "
mnemonic_of ZeroAdd = codes "ZA   "
mnemonic_of ZeroSubtract = codes "ZS   "
mnemonic_of Move = codes "MCW  "
mnemonic_of Load = codes "LCA  "
mnemonic_of MoveDigit = codes "MN   "
mnemonic_of MoveZone = codes "MZ   "
mnemonic_of SetWordMark = codes "SW   "
mnemonic_of ClearWordMark = codes "CW   "
mnemonic_of ClearStorage = codes "CS   "
mnemonic_of Compare = codes "C    "
mnemonic_of ZeroSuppress = codes "MCS  "
mnemonic_of Edit = codes "MCE  "
mnemonic_of Branch = codes "B    "
mnemonic_of BranchOnCell = codes "BWZ  "
mnemonic_of StoreA = codes "SAR  "
mnemonic_of StoreB = codes "SBR  "
mnemonic_of NoOperation = codes "NOP  "
mnemonic_of Halt = codes "H    "
mnemonic_of SelectStacker = codes "SS   "
mnemonic_of ReadCard = codes "R    "
mnemonic_of WriteLine = codes "W    "
mnemonic_of WriteAndRead = codes "WR   "
mnemonic_of PunchCard = codes "P    "
mnemonic_of ReadAndPunch = codes "RP   "
mnemonic_of WriteAndPunch = codes "WP   "
mnemonic_of WriteReadAndPunch = codes "WRP  "
mnemonic_of ControlCarriage = codes "CC   "

-- the mnemonic of an operation by its graphic, whether or not this machine has it
abbrev pub mnemonic_at : ℕ → Option (List ℕ)
mnemonic_at graphic = option_or (option_map mnemonic_of (meaning_of graphic)) (meaning_in unfitted_rows graphic)

-- the place of an operation's row in the table (own)
abbrev pub place_of : Operation → ℕ
place_of Add = 0
place_of Subtract = 1
place_of ZeroAdd = 2
place_of ZeroSubtract = 3
place_of Move = 4
place_of Load = 5
place_of MoveDigit = 6
place_of MoveZone = 7
place_of SetWordMark = 8
place_of ClearWordMark = 9
place_of ClearStorage = 10
place_of Compare = 11
place_of ZeroSuppress = 12
place_of Edit = 13
place_of Branch = 14
place_of BranchOnCell = 15
place_of StoreA = 16
place_of StoreB = 17
place_of NoOperation = 18
place_of Halt = 19
place_of SelectStacker = 20
place_of ReadCard = 21
place_of WriteLine = 22
place_of WriteAndRead = 23
place_of PunchCard = 24
place_of ReadAndPunch = 25
place_of WriteAndPunch = 26
place_of WriteReadAndPunch = 27
place_of ControlCarriage = 28
