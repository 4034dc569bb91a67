-- A tape mark takes four bytes.
use Rattle.std.proofs.Common.{ℕ, ◌-◌, ◌≤◌, List, length, drop, sym, arith}
use Rattle.std.proofs.lemmas.List.{length-take, take_rest}
use Rattle.machine_tapes.proofs.FrontLemmas.{front_mark}
use Rattle.machine_tapes.proofs.tap_reading.split_record.Goals as goal

pub returns-then-length-eq0-clause-front : goal.returns-then-length-eq0-clause-front
returns-then-length-eq0-clause-front c =
    let text : List ℕ = c.args.text.now in
    let four : 4 ≤ length text = omega (arith, c.in-Some.ensures.inside) in
    record {
      size = 4;
      front =
          front_mark c.args.at c.in-Some.length text (omega (arith, four)) (sym c.in-Some.ensures.number) (omega arith);
      rest = take_rest text 4;
      some = omega arith;
      more = omega (arith, four, length-take (length text - 4) (drop 4 text));
      inside = four;
    }
