-- What an operation on fields leaves (A24-1403, "Address Registers"; the registers after each operation are own).
use Rattle.std.specs.Prelude.{ℕ, ◌+◌, ◌-◌, ◌%◌, ◌<◌, ◌≡◌, false, length, Result, Ok, Err, IfOk, IfErr, OnErr}
use Rattle.core_1401.specs.Address.{addresses}
use Rattle.core_1401.specs.Storage.{Storage}
use Rattle.fields_1401.specs.declared.done.Done.{Done}
use Rattle.fields_1401.specs.declared.done.FieldStop.{FieldStop}
use Rattle.fields_1401.specs.declared.done.FieldStop.TheVariants as field
use Rattle.machine_tables.specs.declared.stop.Stop.{Stop}
use Rattle.machine_tables.specs.declared.stop.Stop.TheVariants as stop

-- the core and what goes with it afterwards, or why the operation can't be carried out
abbrev pub Outcome : Type 0
Outcome = Result (Storage × Done) FieldStop

-- the address that many places below, modulo 16,000
abbrev pub below_by : ℕ → ℕ → ℕ
below_by at by = (at + addresses - by) % addresses

-- the registers afterwards, and no indicator
abbrev pub registers_of : ℕ → ℕ → Done
registers_of a b = record { a = a; b = b; overflow = false; unequal = false; low = false; high = false }

-- A call that found the core old, left it new and gave this result has carried out the operation that has this outcome;
-- or the operation can't be carried out, and the core is as it was. Both registers hold addresses, and the core keeps
-- its size.
pub record CarriesOut (outcome : Outcome) (old new : Storage) (result : Result Done FieldStop) : Type 0 where
  pub done : IfOk result (λ done. outcome ≡ Ok (new, done))
  pub stop : IfErr result (λ stop. outcome ≡ Err stop)
  pub unchanged : OnErr result (new ≡ old)
  pub a_range : IfOk result (λ done. done.a < addresses)
  pub b_range : IfOk result (λ done. done.b < addresses)
  pub size : length new ≡ length old

-- the stop of an operation on fields that can't be carried out: the one of the same name
abbrev pub stop_of : FieldStop → Stop
stop_of field.Address = stop.Address
stop_of field.Overlap = stop.Overlap

-- the number of such a stop among those of fields (own)
abbrev pub field_stop_number : FieldStop → ℕ
field_stop_number field.Address = 1
field_stop_number field.Overlap = 2
