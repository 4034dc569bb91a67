-- A byte more of the line, or a line more.
use Rattle.std.proofs.Common.{◌≡◌, ◌==◌, false, Some, ap, sym, arith, ◌∙◌}
use Rattle.std.proofs.lemmas.Bool.Decides.{nat_tests}
use Rattle.serving_room.proofs.InputLemmas.{line_ended, line_grown, none_read, nothing_read, quit_read}
use Rattle.serving_room.proofs.input.read_to_quit.Goals as goal

pub returns-then-has_failed-clause-other : goal.returns-then-has_failed-clause-other
returns-then-has_failed-clause-other g c = λ _. none_read (g.S.Source.left c.args.input.now)

pub loop-init : goal.loop-init
loop-init g c = record {
  good = sym c.has_failed.ensures ∙ c.if-has_failed.false;
  read = nothing_read (g.S.Source.left c.args.input.now);
}

pub loop-preserved-in-Ok-Some-eq10 : goal.loop-preserved-in-Ok-Some-eq10
loop-preserved-in-Ok-Some-eq10 g c =
    let left = g.S.Source.left in
    let byte = c.in-Ok-Some-eq10 in
    record {
      good = byte.ensures.good;
      read = line_ended c.loop.matched (left c.args.input.now) (left c.loop.input) (left c.next_byte.new.self) byte.field-0
          c.loop.invariant.read (sym c.is_quit.ensures ∙ c.if-is_quit.false)
          (byte.field-0-is ∙ ap Some byte.field-0-0-test) byte.ensures.byte;
    }

pub loop-preserved : goal.loop-preserved
loop-preserved g c =
    let left = g.S.Source.left in
    let some = c.in-Ok-Some in
    let other : (some.byte == 10) ≡ false = let test = some.byte-test in grind (arith, nat_tests) in
    record {
      good = some.ensures.good;
      read = line_grown c.loop.matched c.match_more-matched.result (left c.args.input.now) (left c.loop.input)
          (left c.next_byte.new.self) some.field-0 some.byte c.loop.invariant.read some.field-0-is other
          some.ensures.byte c.match_more-matched.ensures;
    }

pub returns-then-is_quit-clause-quit : goal.returns-then-is_quit-clause-quit
returns-then-is_quit-clause-quit g c = λ _.
    let left = g.S.Source.left in
    let byte = c.in-Ok-Some-eq10 in
    quit_read c.loop.matched (left c.args.input.now) (left c.loop.input) (left c.next_byte.new.self) byte.field-0
    c.loop.invariant.read (sym c.is_quit.ensures ∙ c.if-is_quit.true)
    (byte.field-0-is ∙ ap Some byte.field-0-0-test) byte.ensures.byte
