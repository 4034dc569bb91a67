-- Either pair of addresses serves.
use Rattle.cpu_1401.proofs.FittingLemmas.{served}
use Rattle.cpu_1401.proofs.machine.Machine.instruction.Goals as goal
use Rattle.cpu_1401.proofs.machine.Machine.instruction.Goals.{then-eq, else-eq}

pub returns-clause-fitted : goal.returns-clause-fitted
returns-clause-fitted c =
    served c.args.self.now c.args.said.now c.if-eq.a.0 c.if-eq.a.1 c.args.next c.requires.says c.requires.next
    (elim c.if-eq.branch [
      | then-eq w ↦ search (w.only_a_address.ensures.serve, w.a-is)
      | else-eq w ↦ search (w.addresses.ensures.serve, w.a-is)
    ])
