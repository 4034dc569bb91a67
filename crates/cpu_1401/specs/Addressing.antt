-- Which register an only address is for (own).
use Rattle.std.specs.Prelude.{ℕ, ◌&&◌, ◌||◌, nat_le, Bool}
use Rattle.machine_tables.specs.declared.operation.Operation.{Operation}
use Rattle.machine_tables.specs.Operation.{form_of}

-- whether an instruction of this length has an address for the B register: a second one, or an only one for both
-- registers
abbrev pub has_b : Operation → ℕ → Bool
has_b operation len = nat_le 7 len || (nat_le 4 len && (form_of operation).loads_both)
