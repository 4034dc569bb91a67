-- The files of a job's reels that were read (own). Nothing is said of what other files have.
use Rattle.std.specs.Prelude.{◌≡◌, ℕ, ⊤, List, [], ◌∷◌, ◌++◌, Option, None, Some}

-- a file that was read: its name, and its text
pub record GivenReel : Type 0 where
  pub name : List ℕ
  pub text : List ℕ

abbrev pub given_reel : List ℕ → List ℕ → GivenReel
given_reel name text = record { name = name; text = text }

-- after the files that were read before, if they are known, the one of this name was, and had this text
abbrev pub IsGiven : Option (List GivenReel) → Option (List GivenReel) → List ℕ → List ℕ → Type 0
IsGiven None new name text = ⊤
IsGiven (Some before) None name text = ⊥
IsGiven (Some before) (Some after) name text = after ≡ before ++ given_reel name text ∷ []
