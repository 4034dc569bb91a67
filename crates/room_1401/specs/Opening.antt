-- What names one shared room (own).
use Rattle.std.specs.Prelude.{ℕ}
use Rattle.logbook.specs.Pages.{Book}

-- the history's book, the ledger, and how many parts that ledger has
pub record Opening : Type 0 where
  pub book : Book
  pub ledger : ℕ
  pub parts : ℕ
