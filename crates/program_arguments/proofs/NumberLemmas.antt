-- Texts that are read as numbers.
use Rattle.std.proofs.Common.{ℕ, ◌≢◌, refl, eqb, List, [], ◌∷◌, ◌++◌, map}
use Rattle.std.specs.Prelude.{Some}
use Rattle.std.specs.List.{slice_split}
use Rattle.program_arguments.specs.Options.{AreNumbersOf, AreReadAs, IsReadAs}
use denote.Ref.{Bor}

-- one number more
pub number_more : (words : List (Bor (List ℕ))) (word : Bor (List ℕ)) (numbers : List ℕ) (number : ℕ)
    → AreReadAs (map (λ (each : Bor (List ℕ)). each.now) words) numbers → IsReadAs 32 word.now (Some number)
    → AreReadAs (map (λ (each : Bor (List ℕ)). each.now) (words ++ word ∷ [])) (numbers ++ number ∷ [])
number_more [] word [] number all last = (last, tt)
number_more [] word (next ∷ numbers) number all last = absurd all
number_more (first ∷ words) word [] number all last = absurd all
number_more (first ∷ words) word (next ∷ numbers) number all last =
    (all.0, number_more words word numbers number all.1 last)

-- the numbers of a text that isn't empty
pub numbers_are : (text numbers : List ℕ) → text ≢ [] → AreReadAs (slice_split (λ b. eqb b 44) text) numbers
    → AreNumbersOf text numbers
numbers_are [] numbers some are = absurd (some refl)
numbers_are (byte ∷ text) numbers some are = are
