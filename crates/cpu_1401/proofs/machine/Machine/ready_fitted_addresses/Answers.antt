-- The addresses are as they are spelled.
use Rattle.cpu_1401.proofs.DecodedFittedLemmas.{ready_first, ready_second}
use Rattle.cpu_1401.proofs.machine.Machine.ready_fitted_addresses.Goals as goal

pub returns-clause-a : goal.returns-clause-a
returns-clause-a c = ready_first c.args.self.now c.args.said.now c.requires.says c.requires.ready

pub returns-clause-b : goal.returns-clause-b
returns-clause-b c = ready_second c.args.self.now c.args.said.now c.requires.says c.requires.ready
