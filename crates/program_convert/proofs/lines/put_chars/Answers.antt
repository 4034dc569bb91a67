-- One character more, or no more.
use Rattle.std.proofs.Common.{List, ℕ, ◌+◌, ◌<◌, ◌++◌, length, drop, arith}
use Rattle.program_convert.specs.ReelListing.{char_text, chars_text}
use Rattle.program_convert.proofs.PutsLemmas.{step_end, step_failed, step_sent}
use Rattle.program_convert.proofs.ReelListingLemmas.{chars_text-at, chars_text-end}
use Rattle.program_convert.proofs.lines.put_chars.Goals as goal

pub returns-in-Err-clause-puts : goal.returns-in-Err-clause-puts
returns-in-Err-clause-puts g c =
    let at = c.loop-i in
    let chars : List ℕ = c.args.tape_record.now in
    let less : at.i < length chars = omega (arith, c.loop-i-test.true, c.len-i-end.ensures.value) in
    step_failed _ _ _ _ (c.args.page.now.items ++ chars_text c.args.parity 0 chars) at.page.items
    (char_text c.args.parity at.i c.char.result) (chars_text c.args.parity at.i (drop at.i chars))
    (chars_text c.args.parity (at.i + 1) (drop (at.i + 1) chars)) at.invariant.sent
    (chars_text-at c.args.parity at.i c.char.result chars less c.char.ensures) c.in-Err.ensures.puts

pub loop-i-preserved : goal.loop-i-preserved
loop-i-preserved g c =
    let at = c.loop-i in
    let chars : List ℕ = c.args.tape_record.now in
    let less : at.i < length chars = omega (arith, c.loop-i-test.true, c.len-i-end.ensures.value) in
    record {
      sent = step_sent _ _ _ (c.args.page.now.items ++ chars_text c.args.parity 0 chars) at.page.items
          (char_text c.args.parity at.i c.char.result) (chars_text c.args.parity at.i (drop at.i chars))
          (chars_text c.args.parity (at.i + 1) (drop (at.i + 1) chars)) c.put_char.new.page.items at.invariant.sent
          (chars_text-at c.args.parity at.i c.char.result chars less c.char.ensures) c.in-Ok.ensures.puts;
      capacity = omega (arith, at.invariant.capacity, c.in-Ok.ensures.capacity);
    }

pub returns-clause-puts : goal.returns-clause-puts
returns-clause-puts g c =
    let at = c.loop-i in
    let chars : List ℕ = c.args.tape_record.now in
    step_end _ _ (c.args.page.now.items ++ chars_text c.args.parity 0 chars) at.page.items
    (chars_text c.args.parity at.i (drop at.i chars)) at.invariant.sent
    (chars_text-end c.args.parity at.i chars (omega (arith, c.loop-i-test.false, c.len-i-end.ensures.value)))
