-- Sixteen more without a mark are passed.
use Rattle.std.proofs.Common.{◌≡◌, ◌*◌, ◌+◌, arith, subst}
use Rattle.fields_1401.specs.Records.{AreNoMarks}
use Rattle.fields_1401.proofs.RecordLemmas.{more_no_marks}
use Rattle.fields_1401.proofs.records.count_by_sixteens.Goals as goal

pub loop-turn-preserved : goal.loop-turn-preserved
loop-turn-preserved c =
    let turn = c.loop-turn.turn in
    let sum : 16 * turn + 16 ≡ 16 * (turn + 1) = omega arith in
    subst (AreNoMarks c.args.chars.now c.args.at) sum
    (more_no_marks c.args.chars.now c.args.at (16 * turn) 16 c.loop-turn.invariant
    (c.has_mark.ensures c.if-has_mark.false))
