-- Breaks and watches in words (own).
use Rattle.std.specs.Prelude.{ℕ, ◌==◌, ◌&&◌, not, if◌then◌else◌, List, [], ◌∷◌, ◌++◌, codes, Option, None, Some}
use Rattle.core_1401.specs.Storage.{Storage, cell_at, is_in_core}
use Rattle.machine_notation.specs.Digits.{digits_in}
use Rattle.operate_orders.specs.declared.orders.Watched.{Watched}
use Rattle.operate_orders.specs.declared.orders.Watched.TheVariants.{Places, Paper, Reader, Punch}
use Rattle.operate_orders.specs.declared.values.Condition.{Condition}
use Rattle.operate_answers.specs.Counted.{count_text}
use Rattle.operate_answers.specs.Stops.{is_break_at}
use Rattle.operate_answers.specs.Typed.{condition_text, quoted_text, range_text}
use Rattle.operate_answers.specs.declared.stops.NumberedStop.{NumberedStop}
use Rattle.operate_answers.specs.declared.stops.Said.{Said}
use Rattle.operate_answers.specs.declared.stops.Said.TheVariants as said

-- at which visit a break stops, if not at each
abbrev pub nth_text : Option ℕ → List ℕ
nth_text None = []
nth_text (Some nth) = codes " after " ++ digits_in 1 nth

-- where it stops, if not always
abbrev pub if_text : Option Condition → List ℕ
if_text None = []
if_text (Some condition) = codes " if " ++ condition_text condition

abbrev pub terms_text : Option ℕ → Option Condition → List ℕ
terms_text nth condition = nth_text nth ++ if_text condition

-- a printed line, with a text if there is one
unfoldable pub printed_with_text : List ℕ → List ℕ
printed_with_text text = codes "a printed line with " ++ quoted_text text

abbrev pub printed_text : Option (List ℕ) → List ℕ
printed_text None = codes "a printed line"
printed_text (Some text) = printed_with_text text

-- what is watched
abbrev pub watched_text : Watched → List ℕ
watched_text (Places range) = range_text range
watched_text (Paper printed) = printed_text printed
watched_text Reader = codes "a card that is read"
watched_text Punch = codes "a card that is punched"

-- its kind, and its number
abbrev pub kind_text : Said → List ℕ
kind_text (said.Break nth condition) = codes "break "
kind_text (said.Watch watched) = codes "watch "

abbrev pub name_text : NumberedStop → List ℕ
name_text stop = kind_text stop.said ++ digits_in 1 stop.number

-- how often it ended a run
unfoldable pub often_text : ℕ → List ℕ
often_text times = codes ", met " ++ count_text times (codes "time") ++ codes "\n"

unfoldable pub times_text : ℕ → List ℕ
times_text times =
    if times == 0 then codes ", never met\n" else (if times == 1 then codes ", met once\n" else often_text times)

-- that no instruction begins at an address, if there is no word mark
unfoldable pub no_instruction_text : Storage → ℕ → List ℕ
no_instruction_text storage at =
    if is_in_core storage at && (cell_at storage at).mark then [] else codes "; no instruction begins there now"

-- another break at the same address
unfoldable pub there_too_text : ℕ → List ℕ
there_too_text number = codes "; break " ++ digits_in 1 number ++ codes " is there too"

abbrev pub other_text : ℕ → ℕ → NumberedStop → List ℕ
other_text number at stop =
    if not (stop.number == number) && is_break_at at stop then there_too_text stop.number else []

-- all other breaks there
abbrev pub others_text : ℕ → ℕ → List NumberedStop → List ℕ
others_text number at [] = []
others_text number at (stop ∷ stops) = other_text number at stop ++ others_text number at stops
