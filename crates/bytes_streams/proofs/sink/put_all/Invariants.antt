-- What was received so far, and what is left, make the whole, and no write of these has failed.
use Rattle.std.proofs.Common.{◌≡◌, ℕ, Bool, false, List, length, ◌++◌, Option}
use Rattle.std.specs.Io.KnownBytes.{Appends}
use Rattle.bytes_streams.proofs.sink.put_all.Given as goal

-- of these bytes a part was received, and the rest is left
pub record PutSoFar (old new : Option (List ℕ)) (failed_old failed_new : Bool) (bytes rest : List ℕ) : Type 0 where
  pub part : List ℕ
  pub whole : bytes ≡ part ++ rest
  pub appended : Appends old new part
  pub good : failed_new ≡ failed_old
  pub working : failed_new ≡ false

abbrev pub invariant-loop-rest : goal.invariant-loop-rest
invariant-loop-rest g l =
    PutSoFar (g.W.Sink.received l.initial.writer) (g.W.Sink.received l.writer) (g.W.Sink.has_failed l.initial.writer)
    (g.W.Sink.has_failed l.writer) l.bytes l.rest

abbrev pub decreases-loop-rest : goal.decreases-loop-rest
decreases-loop-rest g l = length l.rest
