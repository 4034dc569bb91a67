-- What was fetched is carried out. A step that stops, and is no halt, leaves the machine as it was.
use Rattle.std.proofs.Common.{◌≡◌, ◌∙◌, ap, rules, sym}
use Rattle.cpu_1401.specs.Chaining.{perform_keeping}
use Rattle.cpu_1401.specs.Fitting.{fitted_step}
use Rattle.cpu_1401.specs.Stepped.{Stepped}
use Rattle.cpu_1401.proofs.FairLemmas.{step_limit, step_unchanged}
use Rattle.cpu_1401.proofs.FittingLemmas.{plain_step}
use Rattle.cpu_1401.proofs.machine.Machine.step.Goals as goal
use Rattle.cpu_1401.proofs.machine.Machine.step.Goals.{After-perform_fetched, in-Some, in-None+in-Ok}

does : (c : After-perform_fetched) → fitted_step c.args.self.now
    ≡ perform_keeping c.match-find_ready.fetched.0 c.match-find_ready.fetched.1 c.match-find_ready.self
does c =
    elim c.match-find_ready.branch [
      | in-Some w ↦ search rules
      | in-None+in-Ok w ↦ search rules
    ]

pub returns-clause-stop : goal.returns-clause-stop
returns-clause-stop c = c.perform_fetched.ensures.stop ∙ sym (ap (λ (t : Stepped). t.stop) (does c))

pub returns-clause-state : goal.returns-clause-state
returns-clause-state c = c.perform_fetched.ensures.state ∙ sym (ap (λ (t : Stepped). t.state) (does c))

pub returns-clause-plain_stop : goal.returns-clause-plain_stop
returns-clause-plain_stop c = λ none.
    returns-clause-stop c ∙ ap (λ (t : Stepped). t.stop) (plain_step c.args.self.now none)

pub returns-clause-plain_state : goal.returns-clause-plain_state
returns-clause-plain_state c = λ none.
    returns-clause-state c ∙ ap (λ (t : Stepped). t.state) (plain_step c.args.self.now none)

pub returns-clause-unchanged : goal.returns-clause-unchanged
returns-clause-unchanged c =
    step_unchanged c.args.self.now c.perform_fetched.new.self c.perform_fetched.result (returns-clause-stop c)
    (returns-clause-state c)

pub returns-clause-limit : goal.returns-clause-limit
returns-clause-limit c = step_limit c.args.self.now c.perform_fetched.result (returns-clause-stop c)

pub returns-in-Err-clause-stop : goal.returns-in-Err-clause-stop
returns-in-Err-clause-stop c = search rules

pub returns-in-Err-clause-state : goal.returns-in-Err-clause-state
returns-in-Err-clause-state c = search rules

pub returns-in-Err-clause-plain_stop : goal.returns-in-Err-clause-plain_stop
returns-in-Err-clause-plain_stop c = λ none.
    returns-in-Err-clause-stop c ∙ ap (λ (t : Stepped). t.stop) (plain_step c.args.self.now none)

pub returns-in-Err-clause-plain_state : goal.returns-in-Err-clause-plain_state
returns-in-Err-clause-plain_state c = λ none.
    returns-in-Err-clause-state c ∙ ap (λ (t : Stepped). t.state) (plain_step c.args.self.now none)

pub returns-in-Err-clause-unchanged : goal.returns-in-Err-clause-unchanged
returns-in-Err-clause-unchanged c =
    step_unchanged c.args.self.now _ _ (returns-in-Err-clause-stop c) (returns-in-Err-clause-state c)

pub returns-in-Err-clause-limit : goal.returns-in-Err-clause-limit
returns-in-Err-clause-limit c = step_limit c.args.self.now _ (returns-in-Err-clause-stop c)
