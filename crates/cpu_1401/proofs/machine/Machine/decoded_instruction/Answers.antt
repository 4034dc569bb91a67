-- What was decoded is what the instruction does, unless it needs places that aren't there.
use Rattle.std.proofs.Common.{◌≡◌, ◌∙◌, ◌<◌, length, Result, Ok, Err, subst, sym}
use Rattle.std.specs.Prelude.{IfErr, IfOk}
use Rattle.core_1401.specs.Address.{addresses}
use Rattle.machine_tables.specs.declared.operation.Operation.{Operation}
use Rattle.machine_tables.specs.declared.stop.Stop.{Stop}
use Rattle.cpu_1401.specs.Chaining.{perform_keeping}
use Rattle.cpu_1401.specs.Fitting.{fitted_step}
use Rattle.cpu_1401.specs.Instruction.{instruction_of}
use Rattle.cpu_1401.specs.NeededPlaces.{HasPlaces}
use Rattle.cpu_1401.specs.State.{State}
use Rattle.cpu_1401.specs.Step.{perform, step}
use Rattle.cpu_1401.specs.Stepped.{stopped}
use Rattle.cpu_1401.specs.declared.decoded.Decoded.{Decoded}
use Rattle.cpu_1401.specs.declared.instruction.Instruction.{Instruction}
use Rattle.cpu_1401.proofs.DecodedLemmas.{says_step}
use Rattle.cpu_1401.proofs.machine.Machine.decoded_instruction.Goals as goal

-- what holds of the parts holds of what was fetched
ok_by : (fetched : Result (Operation × Instruction) Stop) (does : Operation) (this : Instruction)
    (holds : Operation → Instruction → Type 0) → IfOk fetched (λ f. (f.0 ≡ does) × (f.1 ≡ this))
    → holds does this → IfOk fetched (λ f. holds f.0 f.1)
ok_by (Ok f) does this holds is h =
    subst (λ (o : Operation). holds o f.1) (sym is.0) (subst (λ (i : Instruction). holds does i) (sym is.1) h)
ok_by (Err why) does this holds is h = tt

err_by : (fetched : Result (Operation × Instruction) Stop) (first then : Stop → Type 0) → IfErr fetched first
    → ((why : Stop) → first why → then why) → IfErr fetched then
err_by (Ok f) first then is by = tt
err_by (Err why) first then is by = by why is

pub returns-clause-ok : goal.returns-clause-ok
returns-clause-ok c =
    let s : State = c.args.self.now in
    let operation : Operation = c.in_ok-said.said.operation in
    ok_by c.with_places.result operation c.instruction.result
    (λ (o : Operation) (this : Instruction). fitted_step s ≡ perform_keeping o this s) c.with_places.ensures.ok
    (subst (λ (t : State). fitted_step t ≡ perform_keeping operation c.instruction.result t) c.in_ok-said.ensures.same
    c.instruction.ensures.fitted)

pub returns-clause-a : goal.returns-clause-a
returns-clause-a c =
    ok_by c.with_places.result c.in_ok-said.said.operation c.instruction.result
    (λ (o : Operation) (this : Instruction). this.a < addresses) c.with_places.ensures.ok c.instruction.ensures.a

pub returns-clause-b : goal.returns-clause-b
returns-clause-b c =
    ok_by c.with_places.result c.in_ok-said.said.operation c.instruction.result
    (λ (o : Operation) (this : Instruction). this.b < addresses) c.with_places.ensures.ok c.instruction.ensures.b

pub returns-clause-next : goal.returns-clause-next
returns-clause-next c =
    ok_by c.with_places.result c.in_ok-said.said.operation c.instruction.result
    (λ (o : Operation) (this : Instruction). this.next < addresses) c.with_places.ensures.ok c.instruction.ensures.next

pub returns-clause-places : goal.returns-clause-places
returns-clause-places c =
    subst (λ (t : State). IfOk c.with_places.result (λ f. HasPlaces f.0 f.1.a f.1.b (length t.storage)))
    c.in_ok-said.ensures.same c.with_places.ensures.places

pub returns-clause-err : goal.returns-clause-err
returns-clause-err c =
    let s : State = c.args.self.now in
    let said : Decoded = c.in_ok-said.said in
    let this : Instruction = c.instruction.result in
    let serves : perform said.operation this s ≡ perform said.operation (instruction_of said.operation said.len s) s =
    subst (λ (t : State). perform said.operation this t
    ≡ perform said.operation (instruction_of said.operation said.len t) t)
    c.in_ok-said.ensures.same c.instruction.ensures.serves in
    err_by c.with_places.result (λ (why : Stop). perform said.operation this s ≡ stopped why s)
    (λ (why : Stop). step s ≡ stopped why s)
    (subst (λ (t : State). IfErr c.with_places.result (λ why. perform said.operation this t ≡ stopped why t))
    c.in_ok-said.ensures.same c.with_places.ensures.err)
    (λ why refused. says_step s said c.in_ok-said.ensures.ok ∙ sym serves ∙ refused)
