-- What was done, as it is shown afterwards (own): cards, and journals in files.
use Rattle.std.specs.Prelude.{ℕ, ◌==◌, if◌then◌else◌, List, [], ◌++◌, codes, length}
use Rattle.cpu_1401.specs.State.{State}
use Rattle.machine_notation.specs.Digits.{digits_in}
use Rattle.operate_answers.specs.Counted.{count_text}

-- cards in hand, if some are
abbrev pub hand_text : ℕ → List ℕ
hand_text hand = if hand == 0 then [] else codes "; in hand: " ++ digits_in 1 hand

-- how many cards are in the hopper, and in hand
unfoldable pub fed_text : State → ℕ → List ℕ
fed_text s hand = codes "hopper: " ++ digits_in 1 (length s.devices.hopper) ++ hand_text hand ++ codes "\n"

-- a deck of so many cards
unfoldable pub deck_text : List ℕ → ℕ → State → ℕ → List ℕ
deck_text name cards s hand = name ++ codes ": " ++ count_text cards (codes "card") ++ codes "; " ++ fed_text s hand

-- cards in hand that are gone, if some were
abbrev gone_text : ℕ → List ℕ
gone_text hand = if hand == 1 then codes "is gone\n" else codes "are gone\n"

unfoldable pub dropped_text : ℕ → List ℕ
dropped_text hand =
    if hand == 0 then []
    else count_text hand (codes "card") ++ codes " in hand, in no journal, " ++ gone_text hand
