-- Each byte keeps the invariant, or ends the session.
use Rattle.std.proofs.Common.{◌≡◌, ◌==◌, [], ◌∷◌, Some, None, Ok, rules, refl, sym, ◌∙◌, ap}
use Rattle.std.specs.Io.KnownBytes.{Consumes}
use Rattle.room_alone.specs.declared.session_end.SessionEnd.TheVariants as end
use Rattle.room_alone.proofs.ReadingLemmas.{moment, nothing_yet, nothing_read, goes_on, ends_here, ended_at_end}
use Rattle.room_alone.proofs.answering.answer_lines.Goals as goal

pub returns-then-has_failed-clause-session : goal.returns-then-has_failed-clause-session
returns-then-has_failed-clause-session g c =
    nothing_read g.T.Responder.responds
    (moment (g.R.Source.left c.args.reader.now) (g.W.Sink.received c.args.writer.now) c.args.responder.now)

pub loop-read-init : goal.loop-read-init
loop-read-init g c = record {
  answered =
      rw c.new-line.ensures (nothing_yet g.T.Responder.responds
      (moment (g.R.Source.left c.args.reader.now) (g.W.Sink.received c.args.writer.now) c.args.responder.now));
  kept = c.requires;
  good_read = sym c.has_failed.ensures ∙ c.if-has_failed.false;
  good_write = refl;
}

pub loop-read-preserved : goal.loop-read-preserved
loop-read-preserved g c =
    let byte = c.in-Ok-Some.byte in
    let given : Consumes (g.R.Source.left c.loop-read.reader) (g.R.Source.left c.next_byte.new.self) (byte ∷ []) =
    rw c.in-Ok-Some.field-0-is at c.in-Ok-Some.ensures.byte in
    record {
      answered =
          goes_on g.T.Responder.responds (byte == 10)
          (moment (g.R.Source.left c.args.reader.now) (g.W.Sink.received c.args.writer.now) c.args.responder.now)
          (moment (g.R.Source.left c.loop-read.reader) (g.W.Sink.received c.loop-read.writer) c.loop-read.responder)
          (moment (g.R.Source.left c.next_byte.new.self) (g.W.Sink.received c.enter_byte.new.writer)
          c.enter_byte.new.responder)
          c.loop-read._read
          byte
          c.loop-read.line
          c.enter_byte.new.line
          refl
          c.loop-read.invariant.answered
          given
          c.in_default.ensures.byte;
      kept = c.in_default.ensures.kept (λ (is : None ≡ Some end.Unkept). search (is, rules));
      good_read = c.in-Ok-Some.ensures.good;
      good_write =
          c.in_default.ensures.good (λ (is : None ≡ Some end.Write). search (is, rules))
          ∙ c.loop-read.invariant.good_write;
    }

pub returns-in-Some-clause-session : goal.returns-in-Some-clause-session
returns-in-Some-clause-session g c =
    let byte = c.in-Ok-Some.byte in
    let given : Consumes (g.R.Source.left c.loop-read.reader) (g.R.Source.left c.next_byte.new.self) (byte ∷ []) =
    rw c.in-Ok-Some.field-0-is at c.in-Ok-Some.ensures.byte in
    ends_here g.T.Responder.responds (byte == 10) c.in-Some.end
    (moment (g.R.Source.left c.args.reader.now) (g.W.Sink.received c.args.writer.now) c.args.responder.now)
    (moment (g.R.Source.left c.loop-read.reader) (g.W.Sink.received c.loop-read.writer) c.loop-read.responder)
    (moment (g.R.Source.left c.next_byte.new.self) (g.W.Sink.received c.enter_byte.new.writer)
    c.enter_byte.new.responder)
    c.loop-read._read
    byte
    c.loop-read.line
    c.enter_byte.new.line
    refl
    c.loop-read.invariant.answered
    c.loop-read-test.true
    given
    c.in-Some.ensures.byte

pub returns-in-Ok-None-clause-session : goal.returns-in-Ok-None-clause-session
returns-in-Ok-None-clause-session g c =
    let none : Consumes (g.R.Source.left c.loop-read.reader) (g.R.Source.left c.next_byte.new.self) [] =
    rw c.in-Ok-None.field-0-is at c.in-Ok-None.ensures.byte in
    ended_at_end g.T.Responder.responds c.loop-read.line c.answer_last.result
    (moment (g.R.Source.left c.args.reader.now) (g.W.Sink.received c.args.writer.now) c.args.responder.now)
    (moment (g.R.Source.left c.loop-read.reader) (g.W.Sink.received c.loop-read.writer) c.loop-read.responder)
    (moment (g.R.Source.left c.next_byte.new.self) (g.W.Sink.received c.answer_last.new.writer)
    c.answer_last.new.responder)
    c.loop-read._read
    c.loop-read.invariant.answered
    c.loop-read-test.true
    none
    (c.next_byte.ensures.end (c.in-Ok-None.is ∙ ap Ok c.in-Ok-None.field-0-is))
    c.answer_last.ensures.line
