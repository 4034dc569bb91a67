-- Its own address, or the register.
use Rattle.std.proofs.Common.{ap, ◌∙◌, sym}
use Rattle.core_1401.specs.Address.{indexed_by}
use Rattle.cpu_1401.specs.State.{State}
use Rattle.cpu_1401.proofs.DecodedLemmas.{no_own_b, own_b}
use Rattle.cpu_1401.proofs.machine.Machine.b_address.Goals as goal

pub returns-then-has_b-clause-value : goal.returns-then-has_b-clause-value
returns-then-has_b-clause-value c =
    c.indexed.ensures.value
    ∙ ap (λ (s : State). indexed_by s.storage c.args.said.now.b.value c.args.said.now.b.register) c.self.view_is
    ∙ own_b c.args.self.now c.args.said.now c.requires (sym c.if-has_b.ensures)

pub returns-else-has_b-clause-value : goal.returns-else-has_b-clause-value
returns-else-has_b-clause-value c =
    ap (λ (s : State). s.b) c.self.view_is
    ∙ no_own_b c.args.self.now c.args.said.now (sym c.if-has_b.ensures)
