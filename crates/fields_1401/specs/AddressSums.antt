-- Addresses of three characters added (A24-1403, "Modify Address", from memory; the refusals, the spelling of the sum and
-- the registers afterwards are own).
use Rattle.std.specs.Prelude.{ℕ, ◌+◌, ◌-◌, ◌%◌, ◌&&◌, Ok, Err, slice_index, if◌then◌else◌}
use Rattle.bcd_1401.specs.Character.{zone_of, with_zone_of}
use Rattle.core_1401.specs.Address.{addresses, spelling_of, value_at}
use Rattle.core_1401.specs.Storage.{Storage, cell_at, with_char}
use Rattle.fields_1401.specs.declared.done.FieldStop.TheVariants.{Address}
use Rattle.fields_1401.specs.Load.{has_places}
use Rattle.fields_1401.specs.Outcome.{Outcome, below_by, registers_of}

-- the value of the three characters that end at a place: the zone over the tens counts for nothing
abbrev pub value_down : Storage → ℕ → ℕ
value_down storage at = value_at storage (at - 2)

-- the sum of two addresses, modulo 16,000
abbrev pub address_sum : Storage → ℕ → ℕ → ℕ
address_sum storage a b = (value_down storage a + value_down storage b) % addresses

-- an address put in the three places that end at one: the word marks there stay, and so does the zone over the tens
abbrev pub with_address : Storage → ℕ → ℕ → Storage
with_address storage at address =
    let tens = with_zone_of (slice_index (spelling_of address) 1) (zone_of (cell_at storage (at - 1)).char) in
    with_char
    (with_char (with_char storage (at - 2) (slice_index (spelling_of address) 0)) (at - 1) tens)
    at
    (slice_index (spelling_of address) 2)

-- the address at a added to the address at b
unfoldable pub address_sum_at : Storage → ℕ → ℕ → Outcome
address_sum_at storage a b =
    if has_places storage a 3 && has_places storage b 3 then Ok (
      with_address storage b (address_sum storage a b),
      registers_of (below_by a 3) (below_by b 3),
    )
    else Err Address
