-- The addresses that are spelled, or the registers.
use Rattle.std.proofs.Common.{◌∙◌, ap, arith}
use Rattle.core_1401.specs.Address.{indexed_by}
use Rattle.cpu_1401.specs.State.{State}
use Rattle.cpu_1401.proofs.DecodedFittedLemmas.{fitted_a, fitted_b, fitted_registers}
use Rattle.cpu_1401.proofs.machine.Machine.fitted_addresses.Goals as goal

pub returns-then-said-lt4-clause-a : goal.returns-then-said-lt4-clause-a
returns-then-said-lt4-clause-a c =
    ap (λ (s : State). s.a) c.self.view_is
    ∙ (fitted_registers c.args.self.now c.args.said.now c.requires.says c.if-said-lt4.true).0

pub returns-then-said-lt4-clause-b : goal.returns-then-said-lt4-clause-b
returns-then-said-lt4-clause-b c =
    ap (λ (s : State). s.b) c.self.view_is
    ∙ (fitted_registers c.args.self.now c.args.said.now c.requires.says c.if-said-lt4.true).1

pub returns-clause-a : goal.returns-clause-a
returns-clause-a c =
    c.indexed-a.ensures.value
    ∙ ap (λ (s : State). indexed_by s.storage c.args.said.now.a.value c.args.said.now.a.register) c.self.view_is
    ∙ fitted_a c.args.self.now c.args.said.now c.requires.says (omega (arith, c.if-said-lt4.false))

pub returns-clause-b : goal.returns-clause-b
returns-clause-b c =
    c.indexed-b.ensures.value
    ∙ ap (λ (s : State). indexed_by s.storage c.args.said.now.b.value c.args.said.now.b.register) c.self.view_is
    ∙ fitted_b c.args.self.now c.args.said.now c.requires.says (omega (arith, c.if-said-lt4.false))
