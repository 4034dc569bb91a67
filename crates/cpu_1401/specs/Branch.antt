-- Branches and what they look at (A24-1403, "Branch", "Branch if Indicator On", "Branch if Character Equal", "Branch if
-- Word Mark and/or Zone", "Halt and Branch"; what the registers hold afterwards, and the channel tests, are own).
use Rattle.std.specs.Prelude.{ℕ, ◌==◌, ◌&&◌, ◌||◌, not, Bool, true, false, List, [], ◌∷◌, Option, None, Some, codes}
use Rattle.std.specs.Prelude.{length, slice_index, slice_index_or, if◌then◌else◌}
use Rattle.bcd_1401.specs.Character.{zone_of}
use Rattle.bcd_1401.specs.Graphic.{graphics}
use Rattle.bcd_1401.specs.declared.cell.Cell.{Cell}
use Rattle.core_1401.specs.Storage.{is_in_core, cell_at}
use Rattle.devices_1401.specs.Carriage.{is_at_channel}
use Rattle.fields_1401.specs.Outcome.{below_by}
use Rattle.cpu_1401.specs.declared.condition.Condition.{Condition}
use Rattle.cpu_1401.specs.declared.condition.Condition.TheVariants.{Unequal, Equal, Low, High, Overflow, LastCard}
use Rattle.cpu_1401.specs.declared.condition.Condition.TheVariants.{SwitchOn, ChannelNine, ChannelTwelve}
use Rattle.cpu_1401.specs.declared.instruction.Instruction.{Instruction}
use Rattle.machine_tables.specs.declared.stop.Stop.TheVariants as stop
use Rattle.machine_tables.specs.declared.switch_name.SwitchName.TheVariants.{B, C, D, E, F, G}
use Rattle.machine_tables.specs.Rows.{meaning_in, row}
use Rattle.cpu_1401.specs.State.{State}
use Rattle.cpu_1401.specs.Stepped.{Stepped, step_to, stopped}
use Rattle.machine_tables.specs.SwitchName.{switch_number}

-- a branch that is taken: its address goes into the A register, and the next instruction's place into the B register
abbrev pub branch_to : Instruction → State → State
branch_to this s = record s { i = this.a; a = this.a; b = this.next }

-- a branch that isn't taken: its address goes into the A register all the same
abbrev pub pass_by : ℕ → Instruction → State → State
pass_by b this s = record s { i = this.next; a = this.a; b = b }

-- a branch that is taken or isn't, with what the B register holds in that case
abbrev pub branch_if : Bool → ℕ → Instruction → State → State
branch_if true b this s = branch_to this s
branch_if false b this s = pass_by b this s

-- an operation that goes on at its address if it has one, and else at the next instruction
abbrev pub go_on : Bool → Instruction → State → State
go_on true this s = branch_to this s
go_on false this s = record s { i = this.next }

-- what a branch of five characters looks at, by the graphic of its d-character
abbrev pub conditions : List (ℕ × Condition)
conditions =
    row (codes "/") Unequal
    ∷ row (codes "S") Equal
    ∷ row (codes "T") Low
    ∷ row (codes "U") High
    ∷ row (codes "Z") Overflow
    ∷ row (codes "A") LastCard
    ∷ row (codes "B") (SwitchOn B)
    ∷ row (codes "C") (SwitchOn C)
    ∷ row (codes "D") (SwitchOn D)
    ∷ row (codes "E") (SwitchOn E)
    ∷ row (codes "F") (SwitchOn F)
    ∷ row (codes "G") (SwitchOn G)
    ∷ row (codes "9") ChannelNine
    ∷ row (codes "@") ChannelTwelve
    ∷ []

-- the same for a d-character; none if it looks at nothing
abbrev pub condition_of : ℕ → Option Condition
condition_of d = meaning_in conditions (slice_index graphics d)

-- whether it is so
abbrev pub is_so : State → Condition → Bool
is_so s Unequal = s.unequal
is_so s Equal = not s.unequal
is_so s Low = s.low
is_so s High = s.high
is_so s Overflow = s.overflow
is_so s LastCard = slice_index_or s.switches 0 false && (length s.devices.hopper == 0)
is_so s (SwitchOn name) = slice_index_or s.switches (switch_number name) false
is_so s ChannelNine = is_at_channel s.devices.carriage 9
is_so s ChannelTwelve = is_at_channel s.devices.carriage 12

-- what looking leaves: the overflow indicator is turned off by its test
abbrev pub after_look : State → Condition → State
after_look s Unequal = s
after_look s Equal = s
after_look s Low = s
after_look s High = s
after_look s Overflow = record s { overflow = false }
after_look s LastCard = s
after_look s (SwitchOn name) = s
after_look s ChannelNine = s
after_look s ChannelTwelve = s

-- a branch of five characters: one that looks at nothing is never taken
abbrev pub branch_on : Option Condition → Instruction → State → State
branch_on None this s = pass_by this.b this s
branch_on (Some condition) this s = branch_if (is_so s condition) this.b this (after_look s condition)

-- a branch by the cell at b
abbrev pub branch_on_cell : (Cell → Bool) → Instruction → State → Stepped
branch_on_cell test this s =
    if is_in_core s.storage this.b then step_to (branch_if (test (cell_at s.storage this.b)) (below_by this.b 1) this s)
    else stopped stop.Address s

-- whether a cell has this character
abbrev pub has_char : ℕ → Cell → Bool
has_char char cell = cell.char == char

-- a branch: of four characters always, of five on a condition, of eight if the character at b is the d-character
abbrev pub after_branch : Instruction → State → Stepped
after_branch this s =
    if this.len == 4 then step_to (branch_to this s)
    else (
    if this.len == 5 then step_to (branch_on (condition_of this.d) this s)
    else branch_on_cell (has_char this.d) this s
    )

abbrev has_mark : Cell → Bool
has_mark cell = cell.mark

abbrev has_zone : ℕ → Cell → Bool
has_zone zone cell = zone_of cell.char == zone

abbrev has_mark_or_zone : ℕ → Cell → Bool
has_mark_or_zone zone cell = cell.mark || (zone_of cell.char == zone)

-- what a branch by word mark or zone looks for, by the graphic of its d-character: a word mark, no zone, the zones BA,
-- B and A, and each zone or a word mark
abbrev pub cell_tests : List (ℕ × (Cell → Bool))
cell_tests =
    row (codes "1") has_mark
    ∷ row (codes "2") (has_zone 0)
    ∷ row (codes "B") (has_zone 3)
    ∷ row (codes "K") (has_zone 2)
    ∷ row (codes "S") (has_zone 1)
    ∷ row (codes "3") (has_mark_or_zone 0)
    ∷ row (codes "C") (has_mark_or_zone 3)
    ∷ row (codes "L") (has_mark_or_zone 2)
    ∷ row (codes "T") (has_mark_or_zone 1)
    ∷ []

-- whether a cell is what is looked for, if anything is
abbrev pub is_met : Cell → Option (Cell → Bool) → Bool
is_met cell None = false
is_met cell (Some test) = test cell

-- whether a cell is what the d-character looks for
abbrev pub passes : ℕ → Cell → Bool
passes d cell = is_met cell (meaning_in cell_tests (slice_index graphics d))
