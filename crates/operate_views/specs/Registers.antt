-- The registers, the indicators and the devices in words (own).
use Rattle.std.specs.Prelude.{ℕ, ◌+◌, ◌==◌, ◌&&◌, Bool, if◌then◌else◌, List, [], ◌∷◌, ◌++◌, codes, Option, None, Some}
use Rattle.std.specs.List.{concat}
use Rattle.core_1401.specs.Address.{index_register, value_at}
use Rattle.core_1401.specs.Storage.{Storage, cell_at}
use Rattle.cpu_1401.specs.State.{State, regs_of}
use Rattle.devices_1401.specs.Control.{Control, Space, Skip}
use Rattle.machine_notation.specs.Cells.{cell_text}
use Rattle.machine_notation.specs.Digits.{digits_in}
use Rattle.machine_tables.specs.declared.regs.Regs.{Regs}

-- an address in four digits, and what is there, if anything is known of it
unfoldable pub place_text : ℕ → List ℕ → List ℕ
place_text at [] = digits_in 4 at
place_text at (first ∷ more) = digits_in 4 at ++ concat (codes " (" ∷ (first ∷ more) ∷ codes ")" ∷ [])

-- an address in four digits, and its label if it has one
unfoldable pub labelled_text : ℕ → List ℕ → List ℕ
labelled_text at [] = digits_in 4 at
labelled_text at (first ∷ more) = digits_in 4 at ++ codes " " ++ (first ∷ more)

-- what the last compare found
unfoldable pub comparison_text : Regs → List ℕ
comparison_text regs =
    if regs.unequal
    then (if regs.low then codes "unequal, B low" else (if regs.high then codes "unequal, B high" else codes "unequal"))
    else codes "equal"

-- what the last compare found, and whether there was an overflow
unfoldable pub indicators_text : Regs → List ℕ
indicators_text regs =
    codes "last comparison: " ++ comparison_text regs
    ++ (if regs.overflow then codes "; overflow: yes\n" else codes "; overflow: no\n")

-- the letters of the switches that are on, the first switch having this one
abbrev pub letters_on : ℕ → List Bool → List ℕ
letters_on letter [] = []
letters_on letter (on ∷ switches) =
    if on then letter ∷ letters_on (letter + 1) switches else letters_on (letter + 1) switches

abbrev pub or_none : List ℕ → List ℕ
or_none [] = codes "none"
or_none (letter ∷ letters) = letter ∷ letters

unfoldable pub switches_text : List Bool → List ℕ
switches_text switches = codes "switches on: " ++ or_none (letters_on 65 switches) ++ codes "\n"

-- whether the three characters from a place on are blank
abbrev pub is_blank_at : Storage → ℕ → Bool
is_blank_at storage at =
    ((cell_at storage at).char == 0) && ((cell_at storage (at + 1)).char == 0) && ((cell_at storage (at + 2)).char == 0)

-- an index register by its number and its first place: its places, its cells and its value; nothing if it is blank
unfoldable pub index_at : Storage → ℕ → ℕ → List ℕ
index_at storage number at =
    if is_blank_at storage at then []
    else concat (codes "X" ∷ digits_in 1 number ∷ codes " " ∷ digits_in 5 at ∷ codes "-" ∷ digits_in 5 (at + 2)
    ∷ codes "  " ∷ cell_text (cell_at storage at) ∷ cell_text (cell_at storage (at + 1))
    ∷ cell_text (cell_at storage (at + 2)) ∷ codes " = " ∷ digits_in 1 (value_at storage at) ∷ codes "\n" ∷ [])

unfoldable pub index_text : Storage → List ℕ
index_text storage =
    index_at storage 1 (index_register 1) ++ index_at storage 2 (index_register 2) ++ index_at storage 3
    (index_register 3)

-- what the carriage does after the next print, if it isn't one space
unfoldable pub pending_text : Option Control → List ℕ
pending_text None = []
pending_text (Some (Space lines)) = codes "; after the next print it spaces " ++ digits_in 1 lines
pending_text (Some (Skip line)) = codes "; after the next print it skips to line " ++ digits_in 1 line

-- how many cards and lines are in the devices, and where the carriage is
unfoldable pub devices_text : Regs → Option Control → List ℕ
devices_text regs pending =
    concat (codes "hopper " ∷ digits_in 1 regs.hopper ∷ codes ", stacker " ∷ digits_in 1 regs.stacker ∷ codes ", paper "
    ∷ digits_in 1 regs.paper ∷ codes "; the carriage is at line " ∷ digits_in 1 regs.line ∷ codes " of form "
    ∷ digits_in 1 regs.form ∷ [])
    ++ pending_text pending ++ codes "\n"

-- the I register with what is there, A and B with their labels
unfoldable pub addresses_text : Regs → List ℕ → List ℕ → List ℕ → List ℕ
addresses_text regs there a_label b_label =
    codes "I  " ++ place_text regs.i there ++ codes "\nA  " ++ labelled_text regs.a a_label ++ codes ", B  "
    ++ labelled_text regs.b b_label
    ++ codes "\n"

-- all of it, with what is known of the places in I, A and B
unfoldable pub registers_text : State → List ℕ → List ℕ → List ℕ → List ℕ
registers_text s there a_label b_label =
    addresses_text (regs_of s) there a_label b_label ++ indicators_text (regs_of s)
    ++ switches_text s.switches
    ++ index_text s.storage
    ++ devices_text (regs_of s) s.devices.carriage.pending
