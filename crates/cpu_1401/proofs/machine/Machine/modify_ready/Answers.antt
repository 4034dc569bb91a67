-- A feature modifies an address, and that is the step.
use Rattle.std.proofs.Common.{◌≡◌, ◌∙◌, None, ap, rules, subst, sym}
use Rattle.machine_tables.specs.declared.fitted.Fitted.TheVariants.{ModifyAddress}
use Rattle.cpu_1401.specs.DecodedFitted.{SaysFitted}
use Rattle.cpu_1401.specs.State.{State}
use Rattle.cpu_1401.specs.Stepped.{Stepped}
use Rattle.cpu_1401.specs.declared.decoded_fitted.DecodedFitted.{DecodedFitted}
use Rattle.cpu_1401.proofs.DecodedFittedLemmas.{made_fitted_step}
use Rattle.cpu_1401.proofs.machine.Machine.modify_ready.Goals as goal

pub returns-clause-stop : goal.returns-clause-stop
returns-clause-stop c =
    let s : State = c.args.self.now in
    let said : DecodedFitted = c.in-Some.said.now in
    let says : SaysFitted s.storage s.i s.features said =
    subst (λ (t : State). SaysFitted t.storage t.i t.features said) c.machine.view_is c.in-Some.ensures.says in
    let is : said.fitted ≡ ModifyAddress = search rules in
    λ done.
    let none : c.modify_address.result ≡ None = search rules in
    sym
    (c.modify_address.ensures.stop
    ∙ ap (λ (t : Stepped). t.stop)
    (made_fitted_step s said ModifyAddress c.ready_fitted-this.result says is c.ready_fitted-this.ensures.value))
    ∙ none

pub returns-clause-state : goal.returns-clause-state
returns-clause-state c =
    let s : State = c.args.self.now in
    let said : DecodedFitted = c.in-Some.said.now in
    let says : SaysFitted s.storage s.i s.features said =
    subst (λ (t : State). SaysFitted t.storage t.i t.features said) c.machine.view_is c.in-Some.ensures.says in
    let is : said.fitted ≡ ModifyAddress = search rules in
    λ done. c.modify_address.ensures.state
    ∙ ap (λ (t : Stepped). t.state)
    (made_fitted_step s said ModifyAddress c.ready_fitted-this.result says is c.ready_fitted-this.ensures.value)
