-- A unit that is named is one of six.
use Rattle.std.proofs.Common.{◌+◌, sym}
use Rattle.machine_tapes.proofs.InstructionLemmas.{unit_range}
use Rattle.machine_tapes.proofs.instruction.asking.Goals as goal

pub returns-clause-least : goal.returns-clause-least
returns-clause-least c =
    (unit_range c.core.result.now (c.regs-at.result.i + 1) c.in-Some.unit (sym c.in-Some.ensures)).0

pub returns-clause-most : goal.returns-clause-most
returns-clause-most c =
    (unit_range c.core.result.now (c.regs-at.result.i + 1) c.in-Some.unit (sym c.in-Some.ensures)).1
