-- A row of the table (own).
use Rattle.std.specs.Prelude.{ℕ, Bool, List, [], ◌∷◌}
use Rattle.machine_tables.specs.Operation.{Form, eight, form, four_before_a_blank, seven}
use Rattle.machine_tables.specs.declared.lengths.Lengths.{Lengths}
use Rattle.machine_tables.specs.declared.lengths.Lengths.TheVariants as lengths
use Rattle.machine_tables.specs.declared.lengths.Looked.{Looked}
use Rattle.machine_tables.specs.declared.lengths.Looked.TheVariants as looked

-- the numbers that lengths stand for
abbrev pub lengths_in : Lengths → List ℕ
lengths_in lengths.NoLength = []
lengths_in lengths.ToOne = 1 ∷ 4 ∷ []
lengths_in lengths.ToTwo = 1 ∷ 4 ∷ 7 ∷ []
lengths_in lengths.One = 4 ∷ []
lengths_in lengths.OneOrD = 4 ∷ 5 ∷ 8 ∷ []
lengths_in lengths.WithD = 2 ∷ 5 ∷ []
lengths_in lengths.MayHaveD = 1 ∷ 2 ∷ 4 ∷ 5 ∷ []
lengths_in lengths.TwoAndD = 8 ∷ []
lengths_in lengths.ToEight = 1 ∷ 2 ∷ 3 ∷ 4 ∷ 5 ∷ 6 ∷ 7 ∷ 8 ∷ []

-- how many characters are looked at, by the fifth
abbrev pub looked_at : Looked → ℕ → ℕ
looked_at looked.Eight = eight
looked_at looked.Seven = seven
looked_at looked.ByFifth = four_before_a_blank

-- the graphic, the mnemonic, the lengths, those that aren't fitted, how many characters are looked at, whether one
-- address goes into both registers, and whether both have to be those of places
abbrev pub ARow : Type 0
ARow = ℕ × List ℕ × Lengths × Lengths × Looked × Bool × Bool

-- what a row says of the form of instructions
abbrev pub form_in : ARow → Form
form_in row = form (lengths_in row.2) (lengths_in row.3) (looked_at row.4) row.5
