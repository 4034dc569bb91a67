-- Breaks at the address of an instruction (own).
use Rattle.std.specs.Prelude.{ℕ, ◌-◌, ◌==◌, ◌&&◌, Bool, true, Option, None, Some}
use Rattle.cpu_1401.specs.State.{State}

-- whether the next instruction is the one at this address, where the condition holds
abbrev pub arrives : ℕ → Bool → State → Bool
arrives address is_so s = (s.i == address) && is_so

-- whether an arrival meets the break: each does, or the one whose turn it is
abbrev pub is_met_at : Option ℕ → Bool
is_met_at None = true
is_met_at (Some next) = next == 1

-- which of the arrivals meets the break after one more
abbrev pub only_after : Option ℕ → Option ℕ
only_after None = None
only_after (Some next) = Some (next - 1)
