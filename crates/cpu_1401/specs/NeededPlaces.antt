-- Operations that look first of all whether both of their addresses are those of places: if one isn't, they stop as
-- ADDRESS (own).
use Rattle.std.specs.Prelude.{◌≡◌, ℕ, ◌<◌, true}
use Rattle.machine_tables.specs.Operation.{needs_places}
use Rattle.machine_tables.specs.declared.operation.Operation.{Operation}

-- these addresses are those of places of core storage of this size, if the operation needs that
abbrev pub HasPlaces : Operation → ℕ → ℕ → ℕ → Type 0
HasPlaces operation a b size = needs_places operation ≡ true → (a < size) × (b < size)
