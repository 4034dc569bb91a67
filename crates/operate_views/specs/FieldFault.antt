-- Why no field ends at an address (own).
use Rattle.std.specs.Prelude.{◌≡◌, ℕ, false, length, None}
use Rattle.core_1401.specs.Field.{field_len_of}
use Rattle.core_1401.specs.Storage.{Storage, is_in_core}
use Rattle.operate_views.specs.declared.fault.FieldFault.{FieldFault}
use Rattle.operate_views.specs.declared.fault.FieldFault.TheVariants.{Memory, NoMark, NotInCore}

-- the fault is so: the address isn't in core, which has this size, or there is no word mark from it down
abbrev pub IsFieldFault : Storage → ℕ → FieldFault → Type 0
IsFieldFault storage at (NotInCore named size) =
    (named ≡ at) × (size ≡ length storage) × (is_in_core storage at ≡ false)
IsFieldFault storage at (NoMark named) = (named ≡ at) × (field_len_of storage at ≡ None)
IsFieldFault storage at Memory = Unit {0}
