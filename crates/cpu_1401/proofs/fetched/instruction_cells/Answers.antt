-- One cell more is copied.
use Rattle.std.proofs.Common.{◌+◌, arith, ap, ◌∙◌, rules, set, take, length-set}
use Rattle.bcd_1401.specs.declared.cell.Cell.{Cell}
use Rattle.cpu_1401.proofs.FetchedLemmas.{copy_more}
use Rattle.cpu_1401.proofs.fetched.instruction_cells.Goals as goal

pub loop-i-preserved : goal.loop-i-preserved
loop-i-preserved c =
    let room = c.loop-i.invariant.room in
    record {
      cells = ap (λ (cell : Cell). take (c.loop-i.i + 1) (set c.loop-i.cells c.loop-i.i cell)) c.get.ensures
          ∙ copy_more c.loop-i.cells c.args.core.now c.args.at c.loop-i.i
          (omega (arith, room, c.loop-i-test.true, c.from-len.ensures, c.count_at.ensures.most))
          (omega (arith, c.loop-i-test.true, c.from-len.ensures, c.count_at.ensures.inside)) c.loop-i.invariant.cells;
      room = search (rules, length-set);
    }
