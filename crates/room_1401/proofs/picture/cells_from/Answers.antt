-- At the end the cells so far are all of them.
use Rattle.std.proofs.Common.{◌≡◌, take, subst, sym, ◌∙◌, arith}
use Rattle.std.proofs.lemmas.List.{take_all}
use Rattle.cpu_1401.specs.CarryOut.{examined}
use Rattle.room_1401.proofs.picture.cells_from.Goals as goal

pub returns : goal.returns
returns c =
    let cells = c.loop-i.cells in
    let all : c.loop-i.i ≡ 600 = omega arith in
    sym (take_all 600 cells (omega arith))
    ∙ subst (λ n. take n cells ≡ examined c.args.core.now c.args.address n) all c.loop-i.invariant.1
