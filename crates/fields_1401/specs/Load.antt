-- Fields loaded (A24-1403, "Load Characters to A Word Mark"; the refusals are own).
use Rattle.std.specs.Prelude.{ℕ, ◌+◌, ◌-◌, ◌&&◌, Bool, not, Option, Some, None, Ok, Err, nat_le, nat_lt, if◌then◌else◌}
use Rattle.core_1401.specs.Field.{field_len_of}
use Rattle.core_1401.specs.Storage.{Storage, is_in_core, cell_at}
use Rattle.fields_1401.specs.declared.done.FieldStop.TheVariants.{Address}
use Rattle.fields_1401.specs.Outcome.{Outcome, below_by, registers_of}
use Rattle.fields_1401.specs.Places.{is_within, with_cells}

-- n cells loaded
unfoldable pub loaded : Storage → ℕ → ℕ → ℕ → Storage
loaded storage a b n = with_cells storage b n (λ i. cell_at storage (a - i))

-- whether the n places from an address down are all in core
abbrev pub has_places : Storage → ℕ → ℕ → Bool
has_places storage at n = is_in_core storage at && nat_le n (at + 1)

-- whether the n cells of the A field are written over before the word mark among them is met: b is then one of their
-- places, and not the first
abbrev pub is_overwritten : ℕ → ℕ → ℕ → Bool
is_overwritten a b n = is_within a n b && nat_lt b a

-- the same with the registers after both fields, if the A field has a length and can be loaded
abbrev pub load_by : Storage → ℕ → ℕ → Option ℕ → Outcome
load_by storage a b None = Err Address
load_by storage a b (Some n) =
    if has_places storage b n && not (is_overwritten a b n) then Ok
    (loaded storage a b n, registers_of (below_by a n) (below_by b n)) else Err Address

-- the A field loaded to b and the places below it, with its word mark
unfoldable pub load_at : Storage → ℕ → ℕ → Outcome
load_at storage a b = load_by storage a b (field_len_of storage a)
