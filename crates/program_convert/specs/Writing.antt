-- A listing as it is written, a page after the other (own).
use Rattle.std.specs.Prelude.{⊤, Bool, IsTrue, ℕ, List, Option, Result, Ok, Err}
use Rattle.bytes_streams.specs.Page.{Sent}
use Rattle.bytes_streams.specs.Sink.{AppendsPart}
use Rattle.bytes_streams.specs.declared.failure.Failed.{Failed}

-- what a call that puts a text into a page has done: this is left of the text in the page; or a write has failed
abbrev pub Puts : Option (List ℕ) → Option (List ℕ) → Bool → List ℕ → List ℕ → Result ⊤ Failed → Type 0
Puts old new failed text left (Ok _) = Sent old new text left
Puts old new failed text left (Err _) = AppendsPart old new text × IsTrue failed
