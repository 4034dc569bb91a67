-- A text that is written a page after the other, and keeps its first failure (own).
use Rattle.std.specs.Prelude.{◌≡◌, ℕ, List, ◌++◌, Bool, false, IsTrue, Option}
use Rattle.bytes_streams.specs.Page.{Sent}
use Rattle.bytes_streams.specs.Sink.{AppendsPart}

-- what the sink has received, if that is known, whether a write has failed, and what isn't written yet
pub record Paged : Type 0 where
  pub received : Option (List ℕ)
  pub has_failed : Bool
  pub page : List ℕ

-- if no write has failed, the sink and the page have this text more; if one has, the sink has a beginning of it, and
-- after that it receives nothing
pub record Puts (old new : Paged) (text : List ℕ) : Type 0 where
  pub whole : new.has_failed ≡ false
      → (old.has_failed ≡ false) × Sent old.received new.received (old.page ++ text) new.page
  pub part : IsTrue new.has_failed → AppendsPart old.received new.received (old.page ++ text)
  pub stays : IsTrue old.has_failed → IsTrue new.has_failed × (new.received ≡ old.received)
