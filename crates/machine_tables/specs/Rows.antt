-- Tables by graphic (own).
use Rattle.std.specs.Prelude.{ℕ, ◌==◌, List, Option, find, slice_index}
use Rattle.std.specs.Option.{option_map}

-- a row of a table: a graphic, and what it stands for
abbrev pub row : {A : Type 0} → List ℕ → A → ℕ × A
row graphic meaning = (slice_index graphic 0, meaning)

-- what a graphic stands for in a table, if it has a row there
abbrev pub meaning_in : {A : Type 0} → List (ℕ × A) → ℕ → Option A
meaning_in {A} table graphic = option_map (λ (entry : ℕ × A). entry.1) (find (λ entry. entry.0 == graphic) table)
