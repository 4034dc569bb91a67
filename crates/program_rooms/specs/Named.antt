-- The names of journals that follow each other (own).
use Rattle.std.specs.Prelude.{◌≡◌, ◌≤◌, ℕ, List, ◌∷◌, ◌++◌, true, false, nat_eq, string_bytes, if◌then◌else◌}
use Rattle.std.specs.Fmt.{decimal}
use Rattle.program_arguments.specs.declared.call.Resuming.{Resuming}

-- the name with this number: the first has none
abbrev pub name_at : List ℕ → ℕ → List ℕ
name_at name number = if nat_eq number 1 then name else name ++ 46 ∷ decimal number

-- A name is that of a journal or of one that follows it.
pub record Follows (before file : List ℕ) : Type 0 where
  pub name : List ℕ
  pub first : ℕ
  pub number : ℕ
  pub before_is : before ≡ name_at name first
  pub file_is : file ≡ name_at name number
  pub later : first ≤ number

-- What is taken up is as it was asked for; if the last one was asked for, it is a journal that follows.
pub record IsTaken (asked taken : Resuming) : Type 0 where
  pub same : asked.last ≡ false → taken ≡ asked
  pub file : asked.last ≡ true → Follows (string_bytes asked.file) (string_bytes taken.file)
  pub until : taken.until ≡ asked.until
  pub without : taken.without ≡ asked.without
  pub sync : taken.sync ≡ asked.sync
