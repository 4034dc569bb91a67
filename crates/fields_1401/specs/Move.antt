-- Fields moved (A24-1403, "Move Characters to A or B Word Mark").
use Rattle.std.specs.Prelude.{ℕ, ◌-◌, ◌%◌, Option, Some, None, Ok, Err, nat_lt, if◌then◌else◌}
use Rattle.core_1401.specs.Storage.{Storage, cell_at}
use Rattle.core_1401.specs.Field.{pair_len_of}
use Rattle.fields_1401.specs.declared.done.FieldStop.TheVariants.{Address}
use Rattle.fields_1401.specs.Outcome.{Outcome, below_by, registers_of}
use Rattle.fields_1401.specs.Places.{with_chars}

-- The place whose character comes to the i-th place of the B field, where each character is moved after the one to its
-- right. If the B field begins p places below the A field, what is moved from p places on was moved there before: so
-- the first p characters repeat. The first p themselves stay where they are, since i % p is i below p.
abbrev pub source_of : ℕ → ℕ → ℕ → ℕ
source_of a b i = if nat_lt b a then a - i % (a - b) else a - i

-- n characters moved
unfoldable pub moved : Storage → ℕ → ℕ → ℕ → Storage
moved storage a b n = with_chars storage b n (λ i. (cell_at storage (source_of a b i)).char)

-- the same with the registers after both fields, if they have a length
abbrev pub move_by : Storage → ℕ → ℕ → Option ℕ → Outcome
move_by storage a b None = Err Address
move_by storage a b (Some n) = Ok (moved storage a b n, registers_of (below_by a n) (below_by b n))

-- the A field moved to the B field, down to the first word mark in either
unfoldable pub move_at : Storage → ℕ → ℕ → Outcome
move_at storage a b = move_by storage a b (pair_len_of storage a b)
