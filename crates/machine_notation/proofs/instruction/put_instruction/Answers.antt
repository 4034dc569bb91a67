-- The first cell is the operation, and the others follow it.
use Rattle.std.proofs.Common.{◌≡◌, ◌≤◌, ◌-◌, List, [], ◌∷◌, length, get_or, drop, take, subst, arith}
use Rattle.std.proofs.lemmas.List.{take_all}
use Rattle.bcd_1401.specs.declared.cell.Cell.{Cell}
use Rattle.machine_notation.specs.InstructionText.{IsOwn, IsOwnD, IsOwnInstruction}
use Rattle.machine_notation.proofs.instruction.put_instruction.Goals as goal

whole : (cells : List Cell) (operation : Cell) → 1 ≤ length cells → operation ≡ get_or cells 0 operation
    → IsOwn operation → IsOwnD (take (length cells - 1) (drop 1 cells)) → IsOwnInstruction cells
whole [] operation some e own own_d = absurd (omega (arith, some))
whole (first ∷ beyond) operation some e own own_d =
    let all : take (length (first ∷ beyond) - 1) beyond ≡ beyond =
    take_all (length (first ∷ beyond) - 1) beyond (omega arith) in
    (subst IsOwn e own, subst IsOwnD all own_d)

pub returns-in_err-extend_from_slice-clause-own : goal.returns-in_err-extend_from_slice-clause-own
returns-in_err-extend_from_slice-clause-own c =
    whole c.args.cells.now c.operation-item.result c.in-len1-up.len_at_least c.operation-item.is c.graphic.ensures.own
    c.d_in.ensures.own

pub returns-clause-own : goal.returns-clause-own
returns-clause-own c =
    whole c.args.cells.now c.operation-item.result c.in-len1-up.len_at_least c.operation-item.is c.graphic.ensures.own
    c.d_in.ensures.own
