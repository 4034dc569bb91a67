-- What is reported of the halt that was carried out last.
use Rattle.std.proofs.Common.{◌≤◌, length, sym, ◌∙◌, ap, subst}
use Rattle.core_1401.specs.Address.{addresses}
use Rattle.cpu_1401.specs.State.{State}
use Rattle.job_steps.specs.Halting.{halted_at}
use Rattle.job_steps.proofs.HaltLemmas.{halt_told}
use Rattle.job_steps.proofs.halting.halt_address.Goals as goal

pub returns-clause-last : goal.returns-clause-last
returns-clause-last c before stop same =
    let most = subst (λ (n : _). n ≤ addresses)
    (c.size.ensures.value ∙ ap length (c.core.ensures ∙ ap (λ (s : State). s.storage) (sym same))) c.size.ensures.most in
    c.address_by_registers.ensures ∙ ap halted_at (sym same) ∙ halt_told before most stop
