-- What features make of the instruction, by its graphic and its length.
use Rattle.std.proofs.Common.{None, Some, ◌∙◌}
use Rattle.machine_tapes.proofs.InstructionLemmas.{fitted_at_is}
use Rattle.machine_tapes.proofs.instruction.claimed_by.Goals as goal

pub returns-in-Some-clause-made : goal.returns-in-Some-clause-made
returns-in-Some-clause-made c =
    fitted_at_is c.args.machine.now c.features.result c.first_graphic.result c.from.result (Some c.in-Some.made)
    c.requires.begins c.features.ensures c.first_graphic.ensures (c.from.ensures ∙ c.requires.len) c.in-Some.ensures

pub returns-in-None-clause-made : goal.returns-in-None-clause-made
returns-in-None-clause-made c =
    fitted_at_is c.args.machine.now c.features.result c.first_graphic.result c.from.result None
    c.requires.begins c.features.ensures c.first_graphic.ensures (c.from.ensures ∙ c.requires.len) c.in-None.ensures
