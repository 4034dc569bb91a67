-- One record more, by what the rest begins with.
use Rattle.std.proofs.Common.{ℕ, ◌-◌, List, length, sym, ap, ◌∙◌, arith}
use Rattle.std.proofs.lemmas.Result.{err_from_is_err_and}
use Rattle.machine_tapes.specs.Front.{BeginsWithRecord}
use Rattle.machine_tapes.specs.TapReading.{counted_on, read_from}
use Rattle.machine_tapes.proofs.TapReadLemmas.{count_fails, count_long, count_more, count_whole, read_ends, read_fails}
use Rattle.machine_tapes.proofs.tap_reading.count_characters.Goals as goal

pub returns-in_err-bytes-clause-value : goal.returns-in_err-bytes-clause-value
returns-in_err-bytes-clause-value c =
    let text : List ℕ = c.args.text.now in
    let rest : List ℕ = c.loop-bytes.rest.now in
    let bad = read_fails (length text - length rest) rest c.in_err-bytes.field-0.0 c.in_err-bytes.ensures.front in
    let p = err_from_is_err_and c.from_residual.result c.from_residual.ensures.1 in
    rw (p.1, p.2) (count_fails (read_from 0 0 text) c.in_err-bytes.field-0.0
    (sym (ap (counted_on c.loop-bytes.count) bad) ∙ c.loop-bytes.invariant.read))

pub loop-bytes-preserved : goal.loop-bytes-preserved
loop-bytes-preserved c =
    let text : List ℕ = c.args.text.now in
    let rest : List ℕ = c.loop-bytes.rest.now in
    let first : BeginsWithRecord (length text - length rest) rest c.in-Some.bytes.now c.in-Some.beyond.now =
    rw c.in-Some.is at c.in_ok-bytes.ensures.front in
    record {
      inside = omega (arith, first.more, c.loop-bytes.invariant.inside);
      few = omega (arith, first.more, c.loop-bytes.invariant.few);
      read =
          count_more text rest c.in-Some.bytes.now c.in-Some.beyond.now c.loop-bytes.count (read_from 0 0 text)
          c.loop-bytes.invariant.inside first c.loop-bytes.invariant.read;
    }

pub returns-then-count-gt-MOST_CHARACTERS-clause-value : goal.returns-then-count-gt-MOST_CHARACTERS-clause-value
returns-then-count-gt-MOST_CHARACTERS-clause-value c =
    let text : List ℕ = c.args.text.now in
    let rest : List ℕ = c.loop-bytes.rest.now in
    let ends = read_ends (length text - length rest) rest (rw c.in_default.is at c.in_ok-bytes.ensures.front) in
    count_long (read_from 0 0 text) c.loop-bytes.count
    (sym (ap (counted_on c.loop-bytes.count) ends) ∙ c.loop-bytes.invariant.read) (omega arith)

pub returns-clause-value : goal.returns-clause-value
returns-clause-value c =
    let text : List ℕ = c.args.text.now in
    let rest : List ℕ = c.loop-bytes.rest.now in
    let ends = read_ends (length text - length rest) rest (rw c.in_default.is at c.in_ok-bytes.ensures.front) in
    count_whole (read_from 0 0 text) c.loop-bytes.count
    (sym (ap (counted_on c.loop-bytes.count) ends) ∙ c.loop-bytes.invariant.read) (omega arith)
