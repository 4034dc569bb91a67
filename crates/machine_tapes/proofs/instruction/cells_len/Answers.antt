-- All cells that are looked at are there.
use Rattle.std.proofs.Common.{length, ap, ◌∙◌, arith}
use Rattle.machine_tapes.proofs.InstructionLemmas.{cells_len}
use Rattle.machine_tapes.proofs.instruction.cells_len.Goals as goal

pub returns-clause-value : goal.returns-clause-value
returns-clause-value c =
    ap length (c.as_slice.ensures.value ∙ c.instruction_cells.ensures)
    ∙ (cells_len c.args.core.now c.args.at c.requires).0

pub returns-clause-inside : goal.returns-clause-inside
returns-clause-inside c =
    let known = cells_len c.args.core.now c.args.at c.requires in
    let len = ap length (c.as_slice.ensures.value ∙ c.instruction_cells.ensures) in
    omega (arith, len, known.0, known.1)
