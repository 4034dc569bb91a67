-- The lines of one record more, or of no more.
use Rattle.std.proofs.Common.{List, ℕ, ◌+◌, ◌++◌, ◌∙◌, ap, length, sym, subst, arith}
use Rattle.bytes_streams.specs.Page.{Sent}
use Rattle.bytes_streams.proofs.SentLemmas.{sent_none}
use Rattle.program_convert.specs.ReelListing.{lines_from, record_lines}
use Rattle.program_convert.proofs.CountLemmas.{few_records}
use Rattle.program_convert.proofs.PutsLemmas.{step_end, step_failed, step_sent}
use Rattle.program_convert.proofs.ReelListingLemmas.{lines_from-first, lines_from-none}
use Rattle.program_convert.proofs.lines.put_records.Goals as goal

pub loop-first-init : goal.loop-first-init
loop-first-init g c =
    let old = g.W.Sink.received c.args.writer.now in
    let page : List ℕ = c.args.page.now.items in
    record {
      sent = subst (λ (records : List (List ℕ)). Sent old old (page ++ lines_from c.args.parity 1 c.args.records.now)
          (page ++ lines_from c.args.parity 1 records)) (sym c.again-rest.ensures.value)
          (sent_none old (page ++ lines_from c.args.parity 1 c.args.records.now));
      few = omega (
        arith,
        few_records c.args.records.now c.again-rest.ensures.good,
        c.again-rest.ensures.most,
        ap length c.again-rest.ensures.value,
      );
      capacity = omega arith;
    }

pub returns-in-Err-clause-puts : goal.returns-in-Err-clause-puts
returns-in-Err-clause-puts g c =
    let at = c.loop-first in
    let beyond : List (List ℕ) = c.in-Some.beyond in
    step_failed _ _ _ _ (c.args.page.now.items ++ lines_from c.args.parity 1 c.args.records.now) at.page.items
    (record_lines c.args.parity at.number c.in-Some.first) (lines_from c.args.parity at.number at.rest)
    (lines_from c.args.parity (at.number + 1) beyond) at.invariant.sent
    (ap (λ (records : List (List ℕ)). lines_from c.args.parity at.number records) c.in-Some.ensures.first
    ∙ lines_from-first c.args.parity at.number c.in-Some.first beyond) c.in-Err.ensures.puts

pub loop-first-preserved : goal.loop-first-preserved
loop-first-preserved g c =
    let at = c.loop-first in
    let beyond : List (List ℕ) = c.in-Some.beyond in
    record {
      sent = step_sent _ _ _ (c.args.page.now.items ++ lines_from c.args.parity 1 c.args.records.now) at.page.items
          (record_lines c.args.parity at.number c.in-Some.first) (lines_from c.args.parity at.number at.rest)
          (lines_from c.args.parity (at.number + 1) beyond) c.put_record.new.page.items at.invariant.sent
          (ap (λ (records : List (List ℕ)). lines_from c.args.parity at.number records) c.in-Some.ensures.first
          ∙ lines_from-first c.args.parity at.number c.in-Some.first beyond) c.in-Ok.ensures.puts;
      few = omega (arith, at.invariant.few, ap length c.in-Some.ensures.first);
      capacity = omega (arith, at.invariant.capacity, c.in-Ok.ensures.capacity);
    }

pub returns-clause-puts : goal.returns-clause-puts
returns-clause-puts g c =
    let at = c.loop-first in
    step_end _ _ (c.args.page.now.items ++ lines_from c.args.parity 1 c.args.records.now) at.page.items
    (lines_from c.args.parity at.number at.rest) at.invariant.sent
    (ap (λ (records : List (List ℕ)). lines_from c.args.parity at.number records) c.in_default.ensures.first
    ∙ lines_from-none c.args.parity at.number)
