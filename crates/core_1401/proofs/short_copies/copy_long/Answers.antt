-- What is copied from one part to the other is copied in the whole.
use Rattle.std.proofs.Common.{◌-◌, List, ℕ}
use Rattle.core_1401.proofs.ShortCopyLemmas.{AreCopiedUp, copied_to_high, copied_to_low}
use Rattle.core_1401.proofs.short_copies.copy_long.Goals as goal

pub returns-then-from-n-clause-count : goal.returns-then-from-n-clause-count
returns-then-from-n-clause-count c =
    let low : List ℕ = c.split_at_mut-low.result.0.now in
    let high : List ℕ = c.split_at_mut-low.result.1.now in
    let new : List ℕ = c.copy_between.new.target in
    let copy : AreCopiedUp low high new c.args.from 0 c.args.n = record {
      count = c.copy_between.ensures.count;
      copied = c.copy_between.ensures.copied;
      below = c.copy_between.ensures.below;
      above = c.copy_between.ensures.above;
    } in
    (copied_to_high c.args.chars.now low high new c.args.from c.args.to c.args.n
    c.split_at_mut-low.ensures.value c.split_at_mut-low.ensures.front_len c.if-from-n.true copy).count

pub returns-then-from-n-clause-copied : goal.returns-then-from-n-clause-copied
returns-then-from-n-clause-copied c =
    let low : List ℕ = c.split_at_mut-low.result.0.now in
    let high : List ℕ = c.split_at_mut-low.result.1.now in
    let new : List ℕ = c.copy_between.new.target in
    let copy : AreCopiedUp low high new c.args.from 0 c.args.n = record {
      count = c.copy_between.ensures.count;
      copied = c.copy_between.ensures.copied;
      below = c.copy_between.ensures.below;
      above = c.copy_between.ensures.above;
    } in
    (copied_to_high c.args.chars.now low high new c.args.from c.args.to c.args.n
    c.split_at_mut-low.ensures.value c.split_at_mut-low.ensures.front_len c.if-from-n.true copy).copied

pub returns-then-from-n-clause-below : goal.returns-then-from-n-clause-below
returns-then-from-n-clause-below c =
    let low : List ℕ = c.split_at_mut-low.result.0.now in
    let high : List ℕ = c.split_at_mut-low.result.1.now in
    let new : List ℕ = c.copy_between.new.target in
    let copy : AreCopiedUp low high new c.args.from 0 c.args.n = record {
      count = c.copy_between.ensures.count;
      copied = c.copy_between.ensures.copied;
      below = c.copy_between.ensures.below;
      above = c.copy_between.ensures.above;
    } in
    (copied_to_high c.args.chars.now low high new c.args.from c.args.to c.args.n
    c.split_at_mut-low.ensures.value c.split_at_mut-low.ensures.front_len c.if-from-n.true copy).below

pub returns-then-from-n-clause-above : goal.returns-then-from-n-clause-above
returns-then-from-n-clause-above c =
    let low : List ℕ = c.split_at_mut-low.result.0.now in
    let high : List ℕ = c.split_at_mut-low.result.1.now in
    let new : List ℕ = c.copy_between.new.target in
    let copy : AreCopiedUp low high new c.args.from 0 c.args.n = record {
      count = c.copy_between.ensures.count;
      copied = c.copy_between.ensures.copied;
      below = c.copy_between.ensures.below;
      above = c.copy_between.ensures.above;
    } in
    (copied_to_high c.args.chars.now low high new c.args.from c.args.to c.args.n
    c.split_at_mut-low.ensures.value c.split_at_mut-low.ensures.front_len c.if-from-n.true copy).above

pub returns-then-to-n-clause-count : goal.returns-then-to-n-clause-count
returns-then-to-n-clause-count c =
    let low : List ℕ = c.split_at_mut-low-then-to-n.result.0.now in
    let high : List ℕ = c.split_at_mut-low-then-to-n.result.1.now in
    let new : List ℕ = c.copy_between-then-to-n.new.target in
    let copy : AreCopiedUp high low new (c.args.from - c.args.to - c.args.n) c.args.to c.args.n =
    record {
      count = c.copy_between-then-to-n.ensures.count;
      copied = c.copy_between-then-to-n.ensures.copied;
      below = c.copy_between-then-to-n.ensures.below;
      above = c.copy_between-then-to-n.ensures.above;
    } in
    (copied_to_low c.args.chars.now low high new c.args.from c.args.to c.args.n
    c.split_at_mut-low-then-to-n.ensures.value c.split_at_mut-low-then-to-n.ensures.front_len
    c.if-to-n.true copy).count

pub returns-then-to-n-clause-copied : goal.returns-then-to-n-clause-copied
returns-then-to-n-clause-copied c =
    let low : List ℕ = c.split_at_mut-low-then-to-n.result.0.now in
    let high : List ℕ = c.split_at_mut-low-then-to-n.result.1.now in
    let new : List ℕ = c.copy_between-then-to-n.new.target in
    let copy : AreCopiedUp high low new (c.args.from - c.args.to - c.args.n) c.args.to c.args.n =
    record {
      count = c.copy_between-then-to-n.ensures.count;
      copied = c.copy_between-then-to-n.ensures.copied;
      below = c.copy_between-then-to-n.ensures.below;
      above = c.copy_between-then-to-n.ensures.above;
    } in
    (copied_to_low c.args.chars.now low high new c.args.from c.args.to c.args.n
    c.split_at_mut-low-then-to-n.ensures.value c.split_at_mut-low-then-to-n.ensures.front_len
    c.if-to-n.true copy).copied

pub returns-then-to-n-clause-below : goal.returns-then-to-n-clause-below
returns-then-to-n-clause-below c =
    let low : List ℕ = c.split_at_mut-low-then-to-n.result.0.now in
    let high : List ℕ = c.split_at_mut-low-then-to-n.result.1.now in
    let new : List ℕ = c.copy_between-then-to-n.new.target in
    let copy : AreCopiedUp high low new (c.args.from - c.args.to - c.args.n) c.args.to c.args.n =
    record {
      count = c.copy_between-then-to-n.ensures.count;
      copied = c.copy_between-then-to-n.ensures.copied;
      below = c.copy_between-then-to-n.ensures.below;
      above = c.copy_between-then-to-n.ensures.above;
    } in
    (copied_to_low c.args.chars.now low high new c.args.from c.args.to c.args.n
    c.split_at_mut-low-then-to-n.ensures.value c.split_at_mut-low-then-to-n.ensures.front_len
    c.if-to-n.true copy).below

pub returns-then-to-n-clause-above : goal.returns-then-to-n-clause-above
returns-then-to-n-clause-above c =
    let low : List ℕ = c.split_at_mut-low-then-to-n.result.0.now in
    let high : List ℕ = c.split_at_mut-low-then-to-n.result.1.now in
    let new : List ℕ = c.copy_between-then-to-n.new.target in
    let copy : AreCopiedUp high low new (c.args.from - c.args.to - c.args.n) c.args.to c.args.n =
    record {
      count = c.copy_between-then-to-n.ensures.count;
      copied = c.copy_between-then-to-n.ensures.copied;
      below = c.copy_between-then-to-n.ensures.below;
      above = c.copy_between-then-to-n.ensures.above;
    } in
    (copied_to_low c.args.chars.now low high new c.args.from c.args.to c.args.n
    c.split_at_mut-low-then-to-n.ensures.value c.split_at_mut-low-then-to-n.ensures.front_len
    c.if-to-n.true copy).above

pub returns-else-to-n-clause-count : goal.returns-else-to-n-clause-count
returns-else-to-n-clause-count c = c.copy_many.ensures.count

pub returns-else-to-n-clause-copied : goal.returns-else-to-n-clause-copied
returns-else-to-n-clause-copied c = c.copy_many.ensures.copied

pub returns-else-to-n-clause-below : goal.returns-else-to-n-clause-below
returns-else-to-n-clause-below c = c.copy_many.ensures.below

pub returns-else-to-n-clause-above : goal.returns-else-to-n-clause-above
returns-else-to-n-clause-above c = c.copy_many.ensures.above
