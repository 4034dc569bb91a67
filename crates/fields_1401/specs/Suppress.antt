-- Zeros suppressed (A24-1403, "Move Characters and Suppress Zeros"; what stops the suppression, and the refusals, are
-- own).
use Rattle.std.specs.Prelude.{ℕ, ◌+◌, ◌%◌, ◌==◌, ◌||◌, not, Bool, List, ◌++◌, replicate, drop, Option, Some, None, Ok}
use Rattle.std.specs.Prelude.{Err, if◌then◌else◌}
use Rattle.std.specs.List.{position_or_len}
use Rattle.core_1401.specs.Address.{addresses}
use Rattle.core_1401.specs.Field.{field_len_of}
use Rattle.core_1401.specs.Storage.{Storage}
use Rattle.fields_1401.specs.Across.{chars_across, units_unzoned, with_across}
use Rattle.fields_1401.specs.Load.{has_places}
use Rattle.fields_1401.specs.Outcome.{Outcome, below_by, registers_of}
use Rattle.fields_1401.specs.Refusal.{is_overlap}
use Rattle.fields_1401.specs.declared.done.Done.{Done}
use Rattle.fields_1401.specs.declared.done.FieldStop.TheVariants.{Address, Overlap}

-- the codes of a blank, of a zero and of a comma
abbrev pub blank_char : ℕ
blank_char = 0

abbrev pub zero_char : ℕ
zero_char = 10

abbrev pub comma_char : ℕ
comma_char = 27

-- whether a character stops the suppression: it is none of zero, blank and comma
abbrev pub is_figure : ℕ → Bool
is_figure char = not (char == zero_char || (char == blank_char || char == comma_char))

-- how many characters are to the left of the first that stops the suppression: all, if none does
abbrev pub before_figures : List ℕ → ℕ
before_figures chars = position_or_len is_figure chars

-- blanks in place of those; they are zeros, blanks and commas
unfoldable pub suppressed : List ℕ → List ℕ
suppressed chars = replicate (before_figures chars) blank_char ++ drop (before_figures chars) chars

-- the address above, modulo 16,000
abbrev pub above : ℕ → ℕ
above at = (at + 1) % addresses

-- the storage with the n places of A, without the zone over their units and zeros suppressed, at b; and the registers
unfoldable pub with_suppressed : Storage → ℕ → ℕ → ℕ → Storage × Done
with_suppressed storage a b n = (
  with_across storage b (suppressed (units_unzoned (chars_across storage a n))),
  registers_of (below_by a n) (above b),
)

-- the same if the A field has a length: a missing place is refused before an overlap
abbrev pub suppress_by : Storage → ℕ → ℕ → Option ℕ → Outcome
suppress_by storage a b None = Err Address
suppress_by storage a b (Some n) =
    if not (has_places storage b n) then Err Address
    else (if is_overlap a n b n then Err Overlap else Ok (with_suppressed storage a b n))

-- the A field moved to b and the places below it, with its zeros on the left suppressed
unfoldable pub suppress_at : Storage → ℕ → ℕ → Outcome
suppress_at storage a b = suppress_by storage a b (field_len_of storage a)
