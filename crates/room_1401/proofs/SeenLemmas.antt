-- How many of a list's commands are a seat's own, and what a seat has seen when it sees more.
use Rattle.std.proofs.Common.{◌≡◌, ℕ, ◌+◌, ◌≤◌, ◌<◌, ◌==◌, cond, Bool, true, false, ltb, List, [], ◌∷◌, ◌++◌, length}
use Rattle.std.proofs.Common.{refl, ap, sym, arith}
use Rattle.std.specs.Prelude.{if◌then◌else◌}
use Rattle.std.proofs.lemmas.Bool.Decides.{nat_tests}
use mathlib.Core.List.{IsPrefix}
use Rattle.machine_commands.specs.declared.command.Command.{Command}
use Rattle.room_alone.specs.declared.entry.SeatedCommand.{SeatedCommand}
use Rattle.room_alone.specs.Replay.{pair}
use Rattle.room_1401.specs.Seen.{own}
use Rattle.room_1401.proofs.PrefixLemmas.{prefix_whole, prefix_shorter}

own-append : (seat : ℕ) (pairs more : List SeatedCommand) → own seat (pairs ++ more) ≡ own seat pairs + own seat more
own-append seat [] more = omega arith
own-append seat (first ∷ pairs) more = omega (arith, own-append seat pairs more)

pub own_prefix : (seat : ℕ) (pairs more : List SeatedCommand) → IsPrefix pairs more → own seat pairs ≤ own seat more
own_prefix seat pairs more begins = omega (arith, ap (own seat) begins.1, own-append seat pairs begins.0)

abbrev pub one_if : Bool → ℕ
one_if test = cond test 1 0

pub at_most_one : (test : Bool) → cond test 1 0 ≤ 1
at_most_one true = omega arith
at_most_one false = omega arith

pub own_length : (seat : ℕ) (pairs : List SeatedCommand) → own seat pairs ≤ length pairs
own_length seat [] = omega arith
own_length seat (first ∷ pairs) = omega (arith, own_length seat pairs, at_most_one (first.seat == seat))

same_seat : (seat : ℕ) → (seat == seat) ≡ true
same_seat seat = grind (arith, nat_tests)

-- a command of the seat is one more
pub own_pushed : (seat : ℕ) (command : Command) (pairs : List SeatedCommand)
    → own seat (pairs ++ pair seat command ∷ []) ≡ own seat pairs + 1
own_pushed seat command pairs =
    omega (arith, own-append seat pairs (pair seat command ∷ []), ap one_if (same_seat seat))

either_is : (test : Bool) (seen front after : List SeatedCommand)
    → ltb (length seen) (length front) ≡ test → after ≡ (if test then front else seen)
    → length seen ≤ length front → IsPrefix front after → after ≡ front
either_is true seen front after less is le begins = is
either_is false seen front after less is le begins =
    let lower : length front ≤ length seen = grind (arith, nat_tests) in
    let len : length after ≤ length front = omega (arith, ap length is) in
    sym (prefix_whole front after begins len)

-- the longer of two is the second, if the first is no longer
pub caught_up : (seen front after : List SeatedCommand)
    → after ≡ (if ltb (length seen) (length front) then front else seen)
    → length seen ≤ length front → IsPrefix front after → after ≡ front
caught_up seen front after is le begins =
    either_is (ltb (length seen) (length front)) seen front after refl is le begins

-- the longer of two is the first, if it is longer than the second
stays_if : (test : Bool) (seen front after : List SeatedCommand)
    → ltb (length seen) (length front) ≡ test → after ≡ (if test then front else seen)
    → length front < length after → after ≡ seen
stays_if true seen front after less is longer = absurd (omega (arith, ap length is))
stays_if false seen front after less is longer = is

pub stays : (seen front after : List SeatedCommand)
    → after ≡ (if ltb (length seen) (length front) then front else seen)
    → length front < length after → after ≡ seen
stays seen front after is longer = stays_if (ltb (length seen) (length front)) seen front after refl is longer

-- of two beginnings of one list the shorter begins the other, and has no more own commands
pub fit_list : (seat made : ℕ) (seen front both : List SeatedCommand)
    → made ≤ own seat seen → length seen ≤ length front → IsPrefix seen both → IsPrefix front both
    → IsPrefix seen front × (made ≤ own seat front)
fit_list seat made seen front both few le this that =
    let fits : IsPrefix seen front = prefix_shorter seen front both this that le in
    let more : own seat seen ≤ own seat front = own_prefix seat seen front fits in
    (fits, omega arith)

-- what was made is still among a longer list's own commands
pub own_longer : (seat made : ℕ) (pairs more : List SeatedCommand)
    → made ≤ own seat pairs → IsPrefix pairs more → made ≤ own seat more
own_longer seat made pairs more few begins = omega (arith, own_prefix seat pairs more begins)
