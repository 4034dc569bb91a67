-- A field edited by the control word in the B field (A24-1403, "Move Characters and Edit"; the order of the rules,
-- where a comma or a sign becomes blank, and the refusals are own). The control word and the characters of A are lists
-- from left to right, and their places are counted from the left.
use Rattle.std.specs.Prelude.{ℕ, ◌≡◌, ◌<◌, ◌≤◌, ◌++◌, ◌+◌, ◌-◌, ◌==◌, ◌&&◌, ◌||◌, not, nat_le, nat_lt, max, Bool, true}
use Rattle.std.specs.Prelude.{false, List, length, map, drop, replicate, slice_index, Option, Some, None, Result, Ok}
use Rattle.std.specs.Prelude.{Err, option_map, option_and_then, if◌then◌else◌}
use Rattle.std.specs.List.{count_by, position_or_len, suffix_len, range_with_len}
use Rattle.bcd_1401.specs.Character.{zone_of}
use Rattle.core_1401.specs.Field.{field_len_of}
use Rattle.core_1401.specs.Storage.{Storage, cell_at}
use Rattle.fields_1401.specs.Across.{chars_across, units_unzoned, unzoned_down, with_across}
use Rattle.fields_1401.specs.Number.{sign_under}
use Rattle.fields_1401.specs.Outcome.{Outcome, below_by, registers_of}
use Rattle.fields_1401.specs.Refusal.{used_len_of, on_lengths}
use Rattle.fields_1401.specs.Suppress.{blank_char, zero_char, comma_char}
use Rattle.fields_1401.specs.declared.done.Done.{Done}
use Rattle.fields_1401.specs.declared.done.FieldStop.{FieldStop}
use Rattle.fields_1401.specs.declared.done.FieldStop.TheVariants.{Address, Overlap}
use Rattle.fields_1401.specs.declared.editing.Rules.{Rules}
use Rattle.fields_1401.specs.declared.sign.Sign.{Sign}
use Rattle.fields_1401.specs.declared.sign.Sign.TheVariants.{Plus, Minus}

-- the codes of an ampersand, of a minus sign, and of the letters C and R
abbrev pub ampersand_char : ℕ
ampersand_char = 48

abbrev pub minus_char : ℕ
minus_char = 32

abbrev pub c_char : ℕ
c_char = 51

abbrev pub r_char : ℕ
r_char = 41

-- whether a character of the control word may be replaced by one of A: a blank or a zero
abbrev pub is_replaceable : ℕ → Bool
is_replaceable char = char == blank_char || char == zero_char

-- whether a character of the control word is part of a sign
abbrev pub is_sign_char : ℕ → Bool
is_sign_char char = char == c_char || (char == r_char || char == minus_char)

-- how many replaceable places the control word has
abbrev pub replaceable_in : List ℕ → ℕ
replaceable_in word = count_by is_replaceable word

-- how many of them are to the right of place i
abbrev pub replaceable_beyond : List ℕ → ℕ → ℕ
replaceable_beyond word i = count_by is_replaceable (drop (i + 1) word)

-- What a place of the control word takes of A, by how many replaceable places are to its right: of the replaceable
-- places the last takes the last character, the one before it the one before that, and so on; none takes one that isn't
-- there.
abbrev pub taken_from : List ℕ → ℕ → ℕ → Option ℕ
taken_from digits char beyond =
    if is_replaceable char && nat_lt beyond (length digits) then Some (slice_index digits (length digits - 1 - beyond))
    else None

-- the same of a list of characters by address, where those of t places from an address down are taken
abbrev pub taken_down : List ℕ → ℕ → ℕ → ℕ → ℕ → Option ℕ
taken_down chars a t char beyond =
    if is_replaceable char && nat_lt beyond t then Some (unzoned_down chars a beyond) else None

-- what place i takes
abbrev pub taken_by : List ℕ → List ℕ → ℕ → Option ℕ
taken_by word digits i = taken_from digits (slice_index word i) (replaceable_beyond word i)

-- whether a place is significant: it took a character other than zero and blank
abbrev pub is_significant : Option ℕ → Bool
is_significant (Some char) = not (char == zero_char || char == blank_char)
is_significant None = false

-- how many places are to the left of the first significant one: all, if there is none
unfoldable pub before_significant : List ℕ → List ℕ → ℕ
before_significant word digits =
    position_or_len is_significant (map (taken_by word digits) (range_with_len 0 (length word)))

-- how many places there are up to and including the last zero of the control word: none, if it has no zero
unfoldable pub limit_of : List ℕ → ℕ
limit_of word = length word - suffix_len (λ char. not (char == zero_char)) word

-- whether zeros and commas are suppressed at place i: left of the first significant place, and not right of the last
-- zero
abbrev pub is_suppressed : List ℕ → List ℕ → ℕ → Bool
is_suppressed word digits i = nat_lt i (before_significant word digits) && nat_lt i (limit_of word)

-- a character that was taken: a zero may be suppressed
abbrev pub taken_char : Bool → ℕ → ℕ
taken_char suppressed char = if char == zero_char && suppressed then blank_char else char

-- a place of the control word: its character, how many replaceable places are to its right, and whether zeros and
-- commas are suppressed there
pub record Place : Type 0 where
  pub char : ℕ
  pub beyond : ℕ
  pub suppressed : Bool

-- place i, and the same before zeros and commas are suppressed
abbrev pub place_at : List ℕ → List ℕ → ℕ → Place
place_at word digits i = record {
  char = slice_index word i;
  beyond = replaceable_beyond word i;
  suppressed = is_suppressed word digits i;
}

abbrev pub unsuppressed_place : ℕ → ℕ → Place
unsuppressed_place char beyond = record { char = char; beyond = beyond; suppressed = false }

-- what the rules go by at each place: how many characters of A are taken and A's sign, and how many places of the
-- control word are replaceable
abbrev pub rules_of : List ℕ → List ℕ → Sign → Rules
rules_of word digits sign = record { taken = length digits; replaceable = replaceable_in word; sign = sign }

-- whether a place is left over: the characters of A were too few for the replaceable places, and as many of these as
-- took one, or more, are to the right of it
abbrev pub is_left_over : Rules → ℕ → Bool
is_left_over rules beyond = nat_lt rules.taken rules.replaceable && nat_le rules.taken beyond

-- whether no replaceable place is to the right of a place
abbrev pub is_beyond_all : ℕ → Bool
is_beyond_all beyond = beyond == 0

-- a comma goes with what is left over, after all replaceable places, and if zeros are suppressed
abbrev pub is_comma_blanked : Rules → Place → Bool
is_comma_blanked rules place =
    is_left_over rules place.beyond || (is_beyond_all place.beyond || place.suppressed)

-- a part of a sign goes after all replaceable places, unless A is minus
abbrev pub is_sign_blanked : Sign → ℕ → Bool
is_sign_blanked Plus beyond = is_beyond_all beyond
is_sign_blanked Minus beyond = false

-- whether a character of the control word becomes blank: what took none though it is replaceable, each ampersand, some
-- commas and some parts of a sign
abbrev pub is_blanked : Rules → Place → Bool
is_blanked rules place =
    is_replaceable place.char || (place.char == ampersand_char
    || ((place.char == comma_char && is_comma_blanked rules place)
    || (is_sign_char place.char && is_sign_blanked rules.sign place.beyond)))

-- a character of the control word that took none of A
abbrev pub kept_char : Rules → Place → ℕ
kept_char rules place = if is_blanked rules place then blank_char else place.char

-- what a place shows, by what it took
abbrev pub shown : Rules → Place → Option ℕ → ℕ
shown rules place (Some char) = taken_char place.suppressed char
shown rules place None = kept_char rules place

-- what place i shows
abbrev pub shown_at : List ℕ → List ℕ → Sign → ℕ → ℕ
shown_at word digits sign i = shown (rules_of word digits sign) (place_at word digits i) (taken_by word digits i)

-- what place i shows before zeros and commas are suppressed, and all places from left to right
abbrev pub unsuppressed_at : List ℕ → List ℕ → Sign → ℕ → ℕ
unsuppressed_at word digits sign i =
    shown (rules_of word digits sign) (unsuppressed_place (slice_index word i) (replaceable_beyond word i))
    (taken_by word digits i)

unfoldable pub unsuppressed : List ℕ → List ℕ → Sign → List ℕ
unsuppressed word digits sign = map (unsuppressed_at word digits sign) (range_with_len 0 (length word))

-- what a suppressed place shows of such a character: no zero and no comma
abbrev pub without_zero : ℕ → ℕ
without_zero char = if char == zero_char || char == comma_char then blank_char else char

-- what the i-th of n places from the units shows, if this many from the left are suppressed
abbrev pub suppressed_to : (ℕ → ℕ) → ℕ → ℕ → ℕ → ℕ
suppressed_to char_of n count i = if nat_lt (n - 1 - i) count then without_zero (char_of i) else char_of i

-- the control word edited with the characters of A that it takes, the units without their zone, under A's sign
unfoldable pub edited : List ℕ → List ℕ → Sign → List ℕ
edited word digits sign = map (shown_at word digits sign) (range_with_len 0 (length word))

-- how many characters of A are taken, and how many places the control word has; none if a place that is needed isn't
-- in core
abbrev pub taken_at : Storage → ℕ → ℕ → Option (ℕ × ℕ)
taken_at storage a b =
    option_and_then (λ m. option_map (λ t. (t, m)) (used_len_of storage a (replaceable_in (chars_across storage b m))))
    (field_len_of storage b)

-- how many places from a down are read: that of the sign alone, if none is taken
abbrev pub read_of : ℕ → ℕ
read_of t = max t 1

-- whether one of the places that are read is one of the m from b down
abbrev pub is_shared : ℕ → ℕ → ℕ → ℕ → Bool
is_shared a t b m = nat_lt a (b + read_of t) && nat_lt b (a + m)

-- a missing place is refused before an overlap
abbrev pub refuse_shared : ℕ → ℕ → Option (ℕ × ℕ) → Result (ℕ × ℕ) FieldStop
refuse_shared a b None = Err Address
refuse_shared a b (Some (t, m)) = if is_shared a t b m then Err Overlap else Ok (t, m)

-- how many characters of A are taken, and how many places the control word has, or why the edit can't be carried out
unfoldable pub edit_lengths_at : Storage → ℕ → ℕ → Result (ℕ × ℕ) FieldStop
edit_lengths_at storage a b = refuse_shared a b (taken_at storage a b)

-- the sign of the character at an address
abbrev pub sign_at : Storage → ℕ → Sign
sign_at storage a = sign_under (zone_of (cell_at storage a).char)

-- the storage with the control word of m places edited with t characters of A, without word marks; and the registers
unfoldable pub with_edited : Storage → ℕ → ℕ → ℕ → ℕ → Storage × Done
with_edited storage a t b m = (
  with_across storage b
      (edited (chars_across storage b m) (units_unzoned (chars_across storage a t)) (sign_at storage a)),
  registers_of (below_by a t) (below_by b m),
)

-- the A field edited by the control word at b
unfoldable pub edit_at : Storage → ℕ → ℕ → Outcome
edit_at storage a b = on_lengths (edit_lengths_at storage a b) (λ t m. with_edited storage a t b m)

-- whether each place of a control word is replaceable
abbrev pub IsPlain : List ℕ → Type 0
IsPlain word = (i : ℕ) → i < length word → is_replaceable (slice_index word i) ≡ true

-- These characters are those of A with blanks in front. The hidden ones, which are the first, aren't shown: each of
-- them is a zero or a blank.
pub record ShowsWithBlanks (shown digits : List ℕ) : Type 0 where
  pub hidden : ℕ
  pub fewer : hidden ≤ length digits
  pub shows : shown ≡ replicate (length shown - (length digits - hidden)) blank_char ++ drop hidden digits
  pub zeros : (k : ℕ) → k < hidden → is_replaceable (slice_index digits k) ≡ true
