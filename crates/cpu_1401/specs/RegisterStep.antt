-- Address registers stored (A24-1403, "Store A-Address Register", "Store B-Address Register"; what the registers hold
-- afterwards is own).
use Rattle.std.specs.Prelude.{ℕ, ◌-◌, slice_index, if◌then◌else◌}
use Rattle.bcd_1401.specs.Character.{zone_of, with_zone_of}
use Rattle.core_1401.specs.Address.{spelling_of}
use Rattle.core_1401.specs.Storage.{Storage, cell_at, with_char}
use Rattle.fields_1401.specs.Load.{has_places}
use Rattle.fields_1401.specs.Outcome.{below_by}
use Rattle.cpu_1401.specs.declared.instruction.Instruction.{Instruction}
use Rattle.machine_tables.specs.declared.stop.Stop.TheVariants as stop
use Rattle.cpu_1401.specs.State.{State}
use Rattle.cpu_1401.specs.Stepped.{Stepped, step_to, stopped}

-- an address put in the three places that end at one: the word marks there stay, and so does the zone over the tens
abbrev pub stored : Storage → ℕ → ℕ → Storage
stored storage at address =
    let tens = with_zone_of (slice_index (spelling_of address) 1) (zone_of (cell_at storage (at - 1)).char) in
    with_char
    (with_char (with_char storage (at - 2) (slice_index (spelling_of address) 0)) (at - 1) tens)
    at
    (slice_index (spelling_of address) 2)

-- a register stored at the A address: the B register stays
abbrev pub after_store : ℕ → Instruction → State → Stepped
after_store address this s =
    if has_places s.storage this.a 3
    then step_to (record s { storage = stored s.storage this.a address; i = this.next; a = below_by this.a 3 })
    else stopped stop.Address s
