-- The load key without a card.
use Rattle.std.proofs.Common.{◌≡◌, ◌==◌, false, not, List, [], ◌∷◌, length, Option, None, refl, ap, arith}
use Rattle.std.proofs.lemmas.Bool.Decides.{nat_tests}
use Rattle.std.specs.Prelude.{slice_get}
use Rattle.devices_1401.specs.declared.card.Card.{Card}
use Rattle.cpu_1401.specs.CardsAndPrinter.{load, load_card}
use Rattle.cpu_1401.specs.State.{State}

first_of_none : (xs : List Card) → false ≡ not (length xs == 0) → slice_get xs 0 ≡ None
first_of_none [] none = refl
first_of_none (x ∷ xs) none = absurd (grind (arith, nat_tests))

-- it does nothing
pub nothing_loaded : (s : State) → false ≡ not (length s.devices.hopper == 0) → load s ≡ s
nothing_loaded s none = ap (λ (card : Option Card). load_card card s) (first_of_none s.devices.hopper none)
