-- The addresses that are ready serve.
use Rattle.cpu_1401.proofs.FittingLemmas.{served}
use Rattle.cpu_1401.proofs.machine.Machine.ready_instruction.Goals as goal

pub returns-clause-fitted : goal.returns-clause-fitted
returns-clause-fitted c =
    served c.args.self.now c.args.said.now c.ready_addresses-a.result.0 c.ready_addresses-a.result.1 c.args.next
    c.requires.says c.requires.next c.ready_addresses-a.ensures.serve
