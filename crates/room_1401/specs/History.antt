-- The history of a shared room's commands (own). It exists in proofs alone: what threads share is a word, its length.
use Rattle.std.specs.Prelude.{ℕ, ◌≡◌, ◌==◌, true, List, [], ◌∷◌, ◌++◌, length, MatchBool}
use Rattle.logbook.specs.Pages.{Cell, Step, View, Book, Named}
use Rattle.room_alone.specs.declared.entry.SeatedCommand.{SeatedCommand}

-- The first word is the length of the history. A book has two words, of which this one leaves the second at 0.
abbrev pub IsKept : List Cell → List SeatedCommand → Type 0
IsKept words history = words ≡ (length history, true) ∷ (0, true) ∷ []

-- the word that has the length
abbrev pub head_of : Book → Named
head_of book = record { tracked = true; key = 0; book = book }

-- The command was added to all that had been seen; or the history was longer, and was seen.
abbrev pub Adds : Step SeatedCommand → View SeatedCommand ℕ → ℕ → View SeatedCommand ℕ → Type 0
Adds step before found after =
    MatchBool (found == step.old) (after.0 ≡ before.0 ++ step.ask ∷ []) (length after.0 ≡ found)
