-- Why an operation on fields can't be carried out, with the places (own).
use Rattle.std.specs.Prelude.{ℕ, ◌≡◌, ◌+◌, ◌-◌, ◌<◌, ◌≤◌, true, false, Some, None, option_map}
use Rattle.core_1401.specs.Field.{field_at, field_len_of, pair_len_of}
use Rattle.core_1401.specs.Storage.{Storage, is_in_core}
use Rattle.fields_1401.specs.declared.done.FieldStop.{FieldStop}
use Rattle.fields_1401.specs.declared.done.FieldStop.TheVariants as stop
use Rattle.fields_1401.specs.Number.{places_down}
use Rattle.fields_1401.specs.Products.{factors_at, product_len, share_places}
use Rattle.fields_1401.specs.Quotients.{dividend_at, dividend_len_of, figures_of, quotient_places, terms_at}
use Rattle.fields_1401.specs.Records.{record_len_of}
use Rattle.job_steps.specs.declared.field_reason.Operand.{Operand}
use Rattle.job_steps.specs.declared.field_reason.Operand.TheVariants as operand
use Rattle.job_steps.specs.declared.field_reason.Span.{Span}
use Rattle.job_steps.specs.declared.field_reason.FieldReason.{FieldReason}
use Rattle.job_steps.specs.declared.field_reason.FieldReason.TheVariants as reason

-- the address of one of two operands
abbrev pub address_of : Operand → ℕ → ℕ → ℕ
address_of operand.A a b = a
address_of operand.B a b = b

-- the stop that a reason is reported as
abbrev pub field_stop : FieldReason → FieldStop
field_stop (reason.NotInCore which at) = stop.Address
field_stop (reason.NoFieldMark which at) = stop.Address
field_stop (reason.NoPairMark a b) = stop.Address
field_stop (reason.TooFewPlaces at needed) = stop.Address
field_stop (reason.NoAddressPlaces which at) = stop.Address
field_stop (reason.MarkOverwritten field at) = stop.Address
field_stop (reason.Overlap field other) = stop.Overlap
field_stop (reason.NoMultiplier at len) = stop.Address
field_stop (reason.NoMultiplierMark at) = stop.Address
field_stop (reason.ProductOverlap field product) = stop.Overlap
field_stop (reason.NoDividendEnd at) = stop.Address
field_stop (reason.NoQuotientPlaces at needed) = stop.Address
field_stop (reason.QuotientOverlap field places) = stop.Overlap
field_stop (reason.NoRecordEnd a b) = stop.Address

-- how many places an address of three characters takes
abbrev pub address_places : ℕ
address_places = 3

-- how many places these are
abbrev pub places_in : Span → ℕ
places_in span = span.from + 1 - span.to

-- how many places the multiplicand has, and how many its product with a multiplier
abbrev pub product_places : ℕ × ℕ → ℕ × ℕ
product_places (n, k) = (n, product_len n k)

-- the units of a dividend, and how many places a division takes from there down: as many as the divisor has, one, and
-- those of the quotient
abbrev pub division_places : Storage → ℕ → ℕ → ℕ × ℕ → ℕ × ℕ
division_places storage a b (n, r) =
    (dividend_at b r, n + quotient_places r (figures_of (places_down storage a n)) + 1)

-- what a reason says of the operands at a and b is so
abbrev pub IsFieldSo : Storage → ℕ → ℕ → FieldReason → Type 0
IsFieldSo storage a b (reason.NotInCore which at) =
    (at ≡ address_of which a b) × (is_in_core storage at ≡ false)
IsFieldSo storage a b (reason.NoFieldMark which at) =
    (at ≡ address_of which a b) × (is_in_core storage at ≡ true) × (field_at storage at ≡ None)
IsFieldSo storage a b (reason.NoPairMark a_at b_at) =
    (a_at ≡ a) × (b_at ≡ b) × (is_in_core storage a ≡ true) × (is_in_core storage b ≡ true)
    × (pair_len_of storage a b ≡ None)
IsFieldSo storage a b (reason.TooFewPlaces at needed) =
    (at ≡ b) × (field_len_of storage a ≡ Some needed) × (b + 1 < needed)
IsFieldSo storage a b (reason.NoAddressPlaces which at) =
    (at ≡ address_of which a b) × (is_in_core storage at ≡ true) × (at + 1 < address_places)
IsFieldSo storage a b (reason.MarkOverwritten field at) =
    (at ≡ b) × (field.from ≡ a) × (field_len_of storage a ≡ Some (a + 1 - field.to)) × (field.to ≤ b) × (b < a)
IsFieldSo storage a b (reason.Overlap field other) =
    (field.from ≡ a) × (other.from ≡ b) × (field.to ≤ a) × (other.to ≤ b) × (field.to ≤ b) × (other.to ≤ a)
IsFieldSo storage a b (reason.NoMultiplier at len) =
    (at ≡ b) × (is_in_core storage b ≡ true) × (field_len_of storage a ≡ Some len) × (b ≤ len)
IsFieldSo storage a b (reason.NoMultiplierMark at) =
    (at < b) × (field_len_of storage a ≡ Some (b - at - 1)) × (is_in_core storage at ≡ true)
    × (field_at storage at ≡ None)
IsFieldSo storage a b (reason.ProductOverlap field product) =
    (field.from ≡ a) × (product.from ≡ b)
    × (option_map product_places (factors_at storage a b) ≡ Some (places_in field, places_in product))
    × (share_places a (places_in field) b (places_in product) ≡ true)
IsFieldSo storage a b (reason.NoDividendEnd at) =
    (at ≡ b) × (is_in_core storage b ≡ true) × (dividend_len_of storage b ≡ None)
IsFieldSo storage a b (reason.NoQuotientPlaces at needed) =
    (option_map (division_places storage a b) (terms_at storage a b) ≡ Some (at, needed)) × (at + 1 < needed)
IsFieldSo storage a b (reason.QuotientOverlap field places) =
    (field.from ≡ a) × (field_len_of storage a ≡ Some (places_in field))
    × (option_map (division_places storage a b) (terms_at storage a b) ≡ Some (places.from, places_in places))
    × (share_places a (places_in field) places.from (places_in places) ≡ true)
IsFieldSo storage a b (reason.NoRecordEnd a_at b_at) =
    (a_at ≡ a) × (b_at ≡ b) × (is_in_core storage a ≡ true) × (is_in_core storage b ≡ true)
    × (record_len_of storage a b ≡ None)
