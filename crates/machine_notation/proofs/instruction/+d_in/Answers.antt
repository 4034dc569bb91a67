-- A d-character alone is the first cell.
use Rattle.std.proofs.Common.{◌≡◌, ◌<◌, ◌≤◌, List, [], ◌∷◌, length, get_or, subst, arith}
use Rattle.bcd_1401.specs.declared.cell.Cell.{Cell}
use Rattle.machine_notation.specs.InstructionText.{IsOwn, IsOwnD}
use Rattle.machine_notation.proofs.instruction.+d_in.Goals as goal

alone : (beyond : List Cell) (d : Cell) → 1 ≤ length beyond → length beyond < 2 → d ≡ get_or beyond 0 d → IsOwn d
    → IsOwnD beyond
alone [] d some few e own = absurd (omega (arith, some))
alone (x ∷ []) d some few e own = subst IsOwn e own
alone (x ∷ y ∷ more) d some few e own = absurd (omega (arith, few))

pub returns-in-len1-clause-own : goal.returns-in-len1-clause-own
returns-in-len1-clause-own t c =
    alone c.args.beyond.now c.d-item.result c.in-len1.len_at_least c.in-len1.len_below c.d-item.is c.graphic.ensures.own
