-- An address in decimal (Autocoder, "Operand", "Indexing"; at least three digits: own).
use Rattle.std.specs.Prelude.{ℕ, ◌+◌, ◌%◌, ◌==◌, if◌then◌else◌, List, [], ◌∷◌, ◌++◌, codes}
use Rattle.bcd_1401.specs.Character.{zone_of}
use Rattle.core_1401.specs.Address.{value_of}
use Rattle.machine_notation.specs.Digits.{digits_in}

-- the index register with this number, and nothing for none
abbrev pub index_text : ℕ → List ℕ
index_text index = if index == 0 then [] else codes "+X" ++ (48 + index) ∷ []

-- the number of the index register, which is the zone over the tens
abbrev pub register_in : ℕ → ℕ
register_in t = zone_of t % 4

-- the value that three characters spell before indexing, and the index register
abbrev pub address_text : ℕ → ℕ → ℕ → List ℕ
address_text h t u = digits_in 3 (value_of h t u) ++ index_text (register_in t)
