-- Before each byte every finished line is answered, and nothing has failed since the first.
use Rattle.std.proofs.Common.{◌≡◌, Bool, false}
use Rattle.room_alone.proofs.ReadingLemmas.{SoFar, moment}
use Rattle.room_alone.proofs.answering.answer_lines.Given as goal

-- what was answered so far, that all of it is kept, and that neither a read nor a write has failed by it
pub record NoneFailed (Answered Good : Type 0) (read_new write_old write_new : Bool) : Type 0 where
  pub answered : Answered
  pub kept : Good
  pub good_read : read_new ≡ false
  pub good_write : write_new ≡ write_old

abbrev pub invariant-loop-read : goal.invariant-loop-read
invariant-loop-read g l =
    NoneFailed
    (SoFar g.T.Responder.responds
    (moment (g.R.Source.left l.initial.reader) (g.W.Sink.received l.initial.writer) l.initial.responder)
    (moment (g.R.Source.left l.reader) (g.W.Sink.received l.writer) l.responder) l._read l.line)
    (g.T.Responder.is_good l.responder)
    (g.R.Source.has_failed l.reader) (g.W.Sink.has_failed l.initial.writer) (g.W.Sink.has_failed l.writer)
