-- One record more, by what the rest begins with.
use Rattle.std.proofs.Common.{ℕ, ◌-◌, List, length, reverse, sym, ap, ◌∙◌, arith}
use Rattle.machine_tapes.specs.Reel.{Reel}
use Rattle.machine_tapes.specs.Front.{BeginsWithRecord}
use Rattle.machine_tapes.specs.TapReading.{read_from, records_or_none}
use Rattle.machine_tapes.proofs.TapReadLemmas.{after_all, read_ends, read_fails, same_reel}
use Rattle.machine_tapes.proofs.TapReadLemmas.{wind_end, wind_fails, wind_more, wind_room}
use Rattle.machine_tapes.proofs.tap_reading.wind.Goals as goal

pub returns-in_err-bytes-clause-reel : goal.returns-in_err-bytes-clause-reel
returns-in_err-bytes-clause-reel c =
    let text : List ℕ = c.args.text.now in
    let rest : List ℕ = c.loop-bytes.rest.now in
    let from : ℕ = length text - length rest in
    let fault = c.in_err-bytes.field-0.0 in
    absurd (wind_fails c.loop-bytes.reel.passed (read_from from 0 rest) (read_from 0 0 text) fault
    (read_fails from rest fault c.in_err-bytes.ensures.front) c.loop-bytes.invariant.read c.requires.good)

pub returns-in_err-bytes-clause-ok : goal.returns-in_err-bytes-clause-ok
returns-in_err-bytes-clause-ok c =
    let text : List ℕ = c.args.text.now in
    let rest : List ℕ = c.loop-bytes.rest.now in
    let from : ℕ = length text - length rest in
    let fault = c.in_err-bytes.field-0.0 in
    absurd (wind_fails c.loop-bytes.reel.passed (read_from from 0 rest) (read_from 0 0 text) fault
    (read_fails from rest fault c.in_err-bytes.ensures.front) c.loop-bytes.invariant.read c.requires.good)

pub put_bytes-requires-clause-room : goal.put_bytes-requires-clause-room
put_bytes-requires-clause-room c =
    let text : List ℕ = c.args.text.now in
    let rest : List ℕ = c.loop-bytes.rest.now in
    let first : BeginsWithRecord (length text - length rest) rest c.in-Some.bytes.now c.in-Some.beyond.now =
    rw c.in-Some.is at c.in_ok-bytes.ensures.front in
    let room =
    wind_room text rest c.in-Some.bytes.now c.in-Some.beyond.now c.loop-bytes.reel.passed (read_from 0 0 text)
    c.args.reel.now.capacity c.loop-bytes.invariant.inside first c.loop-bytes.invariant.read c.requires.good
    c.requires.room in
    omega (arith, room, c.loop-bytes.invariant.capacity)

pub loop-bytes-preserved : goal.loop-bytes-preserved
loop-bytes-preserved c =
    let text : List ℕ = c.args.text.now in
    let rest : List ℕ = c.loop-bytes.rest.now in
    let bytes : List ℕ = c.in-Some.bytes.now in
    let beyond : List ℕ = c.in-Some.beyond.now in
    let first : BeginsWithRecord (length text - length rest) rest bytes beyond =
    rw c.in-Some.is at c.in_ok-bytes.ensures.front in
    let more = wind_more text rest bytes beyond c.loop-bytes.reel.passed (read_from 0 0 text)
    c.loop-bytes.invariant.inside first c.loop-bytes.invariant.read in
    record {
      inside = omega (arith, first.more, c.loop-bytes.invariant.inside);
      read =
          ap (λ (reel : Reel). after_all (reverse reel.passed) (read_from (length text - length beyond) 0 beyond))
          c.put_bytes.ensures
          ∙ more;
      ahead = ap (λ (reel : Reel). reel.ahead) c.put_bytes.ensures;
      capacity = ap (λ (reel : Reel). reel.capacity) c.put_bytes.ensures ∙ c.loop-bytes.invariant.capacity;
    }

pub returns-clause-reel : goal.returns-clause-reel
returns-clause-reel c =
    let text : List ℕ = c.args.text.now in
    let rest : List ℕ = c.loop-bytes.rest.now in
    let from : ℕ = length text - length rest in
    let ends = read_ends from rest (rw c.in_default.is at c.in_ok-bytes.ensures.front) in
    let passed =
    wind_end c.loop-bytes.reel.passed (read_from from 0 rest) (read_from 0 0 text) ends c.loop-bytes.invariant.read in
    let blank = ap (λ (reel : Reel). reel.ahead) c.requires.blank in
    same_reel c.loop-bytes.reel c.args.reel.now (reverse (records_or_none (read_from 0 0 text))) passed
    (c.loop-bytes.invariant.ahead ∙ sym blank) c.loop-bytes.invariant.capacity
