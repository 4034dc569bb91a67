-- A text that keeps its first failure (own).
use Rattle.std.specs.Prelude.{ℕ, List, ◌++◌, Bool, IsTrue, ◌≡◌}

-- what was written, and whether that is all of it
pub record Written : Type 0 where
  pub items : List ℕ
  pub is_whole : Bool

-- if the text is whole now, it was whole, and has these bytes more
abbrev pub Adds : Written → Written → List ℕ → Type 0
Adds old new more = IsTrue new.is_whole → IsTrue old.is_whole × (new.items ≡ old.items ++ more)

-- the same with all but the last of them, which are left to be added
abbrev pub AddsBut : Written → Written → List ℕ → List ℕ → Type 0
AddsBut old new left all = IsTrue new.is_whole → IsTrue old.is_whole × (new.items ++ left ≡ old.items ++ all)
