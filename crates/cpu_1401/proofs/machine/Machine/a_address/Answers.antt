-- Its own address.
use Rattle.std.proofs.Common.{ap, ◌∙◌}
use Rattle.core_1401.specs.Address.{indexed_by}
use Rattle.cpu_1401.specs.State.{State}
use Rattle.cpu_1401.proofs.DecodedLemmas.{a_of_one}
use Rattle.cpu_1401.proofs.machine.Machine.a_address.Goals as goal

pub returns-then-said-ge4-clause-value : goal.returns-then-said-ge4-clause-value
returns-then-said-ge4-clause-value c =
    c.indexed.ensures.value
    ∙ ap (λ (s : State). indexed_by s.storage c.args.said.now.a.value c.args.said.now.a.register) c.self.view_is
    ∙ a_of_one c.args.self.now c.args.said.now c.requires c.if-said-ge4.true
