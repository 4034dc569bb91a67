-- A run of a machine with tape units, and that of the machine alone.
use Rattle.std.proofs.Common.{◌≡◌, ◌≢◌, ℕ, zero, suc, ◌+◌, ◌-◌, ◌<◌, ◌≤◌, Bool, true, false, Option, None, Some}
use Rattle.std.proofs.Common.{◌⊎◌, inl, inr, refl, sym, ◌∙◌, ap, subst, arith}
use Rattle.std.specs.Prelude.{◌&&◌, if◌then◌else◌}
use Rattle.machine_tables.specs.declared.stop.Stop.{Stop}
use Rattle.machine_tables.specs.declared.stop.Stop.TheVariants as stop
use Rattle.cpu_1401.specs.Fetched.{next_instruction}
use Rattle.cpu_1401.specs.Fitting.{fitted_step}
use Rattle.cpu_1401.specs.Run.{Finished, carried_out_by, run_for}
use Rattle.cpu_1401.specs.Run as plain
use Rattle.cpu_1401.specs.State.{State}
use Rattle.cpu_1401.specs.Stepped.{Stepped}
use Rattle.machine_tapes.specs.Instruction.{tape_instruction}
use Rattle.machine_tapes.specs.TapedRun.{TapedFinished, after_steps, finished_with, one_more, run_on, taped_run_for}
use Rattle.machine_tapes.specs.TapedStep.{TapedStepped, after_file_branch, is_file_branch, step_by, stepped_with}
use Rattle.machine_tapes.specs.TapedStep.{takes_file_branch, taped_step}
use Rattle.machine_tapes.specs.Tapes.{Tapes, is_latched}
use Rattle.machine_tapes.specs.declared.taped_machine.TapedMachine.{TapedMachine}
use Rattle.machine_tapes.specs.declared.work.TapeInstruction.{TapeInstruction}
use Rattle.machine_tapes.proofs.InstructionLemmas.{tape_stops}
use Rattle.machine_tapes.proofs.StopLemmas.{tape_stays}

-- a machine with these tape units
abbrev pub with_tapes : Tapes → State → TapedMachine
with_tapes tapes s = record { machine = s; tapes = tapes }

-- the same run, counted otherwise
abbrev counting : TapedMachine → ℕ → Stop → TapedFinished
counting t steps why = record { taped = t; steps = steps; stop = why }

recount : (run : TapedFinished) (m n : ℕ) → m ≡ n → counting run.taped m run.stop ≡ counting run.taped n run.stop
recount run m n e = ap (λ k. counting run.taped k run.stop) e

-- before anything was carried out
pub after_none : (limit : ℕ) (t : TapedMachine) → taped_run_for limit t ≡ after_steps 0 (taped_run_for (limit - 0) t)
after_none limit t =
    let all : limit ≡ limit - 0 = omega arith in
    let rest : TapedFinished = taped_run_for (limit - 0) t in
    ap (λ n. taped_run_for n t) all ∙ recount rest rest.steps (0 + rest.steps) (omega arith)

-- a step by a branch, and one by another instruction
pub branch_step : (t : TapedMachine) → takes_file_branch t ≡ true
    → taped_step t ≡ record { taped = after_file_branch t; stop = None }
unfolding taped_step
branch_step t e =
    ap (λ (b : Bool). let x : TapedStepped =
    if b then record { taped = after_file_branch t; stop = None } else step_by (tape_instruction t.machine) t in x) e

pub other_step : (t : TapedMachine) → takes_file_branch t ≡ false → taped_step t ≡ step_by (tape_instruction t.machine) t
unfolding taped_step
other_step t e =
    ap (λ (b : Bool). let x : TapedStepped =
    if b then record { taped = after_file_branch t; stop = None } else step_by (tape_instruction t.machine) t in x) e

-- a step by what it leaves and its stop
pub stepped_is : (u : TapedMachine) (o : Option Stop) (x : TapedStepped) → o ≡ x.stop → u ≡ x.taped
    → x ≡ record { taped = u; stop = o }
stepped_is u o x stop_is taped_is =
    ap (λ (v : TapedMachine). let y : TapedStepped = record { taped = v; stop = x.stop } in y) (sym taped_is)
    ∙ ap (λ (p : Option Stop). let y : TapedStepped = record { taped = u; stop = p } in y) (sym stop_is)

-- a step is that of the machine alone, unless it stops as TAPE
alone : (t : TapedMachine) → takes_file_branch t ≡ false → (fitted_step t.machine).stop ≢ Some stop.Tape
    → taped_step t ≡ stepped_with t.tapes (fitted_step t.machine)
alone t e no_tape = other_step t e ∙ by (tape_instruction t.machine) refl
  where
    by : (found : Option TapeInstruction) → tape_instruction t.machine ≡ found
        → step_by found t ≡ stepped_with t.tapes (fitted_step t.machine)
    by None is = refl
    by (Some this) is = absurd (no_tape (ap (λ (x : Stepped). x.stop) (tape_stops t.machine this is)))

-- a run of one, by its step
pub one_step : (t u : TapedMachine) (limit : ℕ) → limit ≡ 1
    → (let x : TapedStepped = record { taped = u; stop = None } in taped_step t ≡ x)
    → taped_run_for limit t ≡ counting u 1 stop.Limit
unfolding taped_run_for
one_step t u limit one e =
    ap (λ n. taped_run_for n t) one
    ∙ ap (λ (done : TapedStepped). run_on done (taped_run_for 0 done.taped)) e

pub one_refused : (t u : TapedMachine) (why : Stop) → (let x : TapedStepped = record { taped = u; stop = Some why } in taped_step t ≡ x)
    → carried_out_by why ≡ 0 → taped_run_for 1 t ≡ counting u 0 why
unfolding taped_run_for
one_refused t u why e none =
    ap (λ (done : TapedStepped). run_on done (taped_run_for 0 done.taped)) e ∙ ap (λ n. counting u n why) none

alone_by : (tapes : Tapes) (o : Option Stop) (s : State)
    → run_on (stepped_with tapes (record { state = s; stop = o })) (taped_run_for 0 (with_tapes tapes s))
    ≡ finished_with tapes (plain.run_on (record { state = s; stop = o }) (run_for 0 s))
unfolding taped_run_for run_for
alone_by tapes None s = refl
alone_by tapes (Some why) s = refl

pub one_alone : (t : TapedMachine) (run : Finished) → taped_step t ≡ stepped_with t.tapes (fitted_step t.machine)
    → run_for 1 t.machine ≡ run → taped_run_for 1 t ≡ finished_with t.tapes run
unfolding taped_run_for run_for
one_alone t run e is =
    ap (λ (done : TapedStepped). run_on done (taped_run_for 0 done.taped)) e
    ∙ alone_by t.tapes (fitted_step t.machine).stop (fitted_step t.machine).state
    ∙ ap (finished_with t.tapes) is

-- What is known of a run of this limit from this machine, if the machine alone would end so: without the stop TAPE it
-- is the same, and at that stop the rest follows.
pub record Stretch (tapes : Tapes) (limit : ℕ) (s : State) (run : Finished) : Type 0 where
  pub ended : run.stop ≢ stop.Tape → taped_run_for limit (with_tapes tapes s) ≡ finished_with tapes run
  pub tape : run.stop ≡ stop.Tape → taped_run_for limit (with_tapes tapes s)
      ≡ after_steps run.steps (taped_run_for (limit - run.steps) (with_tapes tapes run.state))
  pub before : run.stop ≡ stop.Tape → run.steps < limit

-- one step more
stretch_more : (tapes : Tapes) (limit : ℕ) (s t : State) (run : Finished) → Stretch tapes limit t run
    → taped_run_for (suc limit) (with_tapes tapes s) ≡ one_more (taped_run_for limit (with_tapes tapes t))
    → Stretch tapes (suc limit) s (plain.one_more run)
stretch_more tapes limit s t run known e = record {
  ended = λ other. e ∙ ap one_more (known.ended other);
  tape = λ is.
      let less : limit - run.steps ≡ suc limit - (run.steps + 1) = omega arith in
      let rest : TapedFinished = taped_run_for (limit - run.steps) (with_tapes tapes run.state) in
      e ∙ ap one_more (known.tape is)
      ∙ recount rest (run.steps + rest.steps + 1) (run.steps + 1 + rest.steps) (omega arith)
      ∙ ap (λ n. after_steps (run.steps + 1) (taped_run_for n (with_tapes tapes run.state))) less;
  before = λ is. let lt = known.before is in omega (arith, lt);
}

-- the stop TAPE at once
stretch_tape : (tapes : Tapes) (limit : ℕ) (s t : State) → t ≡ s
    → Stretch tapes (suc limit) s (record { state = t; steps = 0; stop = stop.Tape })
stretch_tape tapes limit s t e = record {
  ended = λ other. absurd (other refl);
  tape = λ is.
      after_none (suc limit) (with_tapes tapes s)
      ∙ ap (λ (u : State). after_steps 0 (taped_run_for (suc limit - 0) (with_tapes tapes u))) (sym e);
  before = λ is. omega arith;
}

-- another stop at once
stretch_stop : (tapes : Tapes) (limit steps : ℕ) (s t : State) (why : Stop) → why ≢ stop.Tape
    → taped_run_for limit (with_tapes tapes s) ≡ counting (with_tapes tapes t) steps why
    → Stretch tapes limit s (record { state = t; steps = steps; stop = why })
stretch_stop tapes limit steps s t why other e = record {
  ended = λ _. e;
  tape = λ is. absurd (other is);
  before = λ is. absurd (other is);
}

-- no branch is taken while the latch is off
no_branch : (tapes : Tapes) (s : State) → is_latched tapes ≡ false → takes_file_branch (with_tapes tapes s) ≡ false
no_branch tapes s off = ap (λ (b : Bool). b && is_file_branch (next_instruction s)) off

-- whether a stop is TAPE
is_tape : (why : Stop) → (why ≡ stop.Tape) ⊎ (why ≢ stop.Tape)
is_tape stop.Limit = inr (λ e. cc)
is_tape stop.Halt = inr (λ e. cc)
is_tape stop.Reader = inr (λ e. cc)
is_tape stop.Forms = inr (λ e. cc)
is_tape stop.Stacker = inr (λ e. cc)
is_tape stop.NoMark = inr (λ e. cc)
is_tape stop.OpCode = inr (λ e. cc)
is_tape stop.Length = inr (λ e. cc)
is_tape stop.Address = inr (λ e. cc)
is_tape stop.Overlap = inr (λ e. cc)
is_tape stop.Carriage = inr (λ e. cc)
is_tape stop.NotFitted = inr (λ e. cc)
is_tape stop.DChar = inr (λ e. cc)
is_tape stop.Tape = inl refl

-- so the run is that of the machine alone as far as it goes
stretch_by : (tapes : Tapes) (limit : ℕ) (s next : State) (o : Option Stop) → is_latched tapes ≡ false
    → (let x : Stepped = record { state = next; stop = o } in fitted_step s ≡ x)
    → Stretch tapes limit next (run_for limit next)
    → Stretch tapes (suc limit) s (plain.run_on (record { state = next; stop = o }) (run_for limit next))
unfolding taped_run_for
stretch_by tapes limit s next None off e known =
    let stepped = ap (λ (x : Stepped). x.stop) e in
    let no_tape : (fitted_step s).stop ≢ Some stop.Tape = λ is.
    let both : None ≡ Some stop.Tape = sym stepped ∙ is in cc in
    stretch_more tapes limit s next (run_for limit next) known
    (ap (λ (done : TapedStepped). run_on done (taped_run_for limit done.taped))
    (alone (with_tapes tapes s) (no_branch tapes s off) no_tape ∙ ap (stepped_with tapes) e))
stretch_by tapes limit s next (Some why) off e known =
    let stepped = ap (λ (x : Stepped). x.stop) e in
    elim (is_tape why) [
      | inl tape ↦
          let stays : next ≡ s = sym (ap (λ (x : Stepped). x.state) e) ∙ tape_stays s (stepped ∙ ap Some tape) in
          subst (λ w. let run : Finished = record { state = next; steps = carried_out_by w; stop = w } in
          Stretch tapes (suc limit) s run) (sym tape) (stretch_tape tapes limit s next stays)
      | inr other ↦
          let no_tape : (fitted_step s).stop ≢ Some stop.Tape = λ is.
          let both : Some why ≡ Some stop.Tape = sym stepped ∙ is in other cc in
          stretch_stop tapes (suc limit) (carried_out_by why) s next why other
          (ap (λ (done : TapedStepped). run_on done (taped_run_for limit done.taped))
          (alone (with_tapes tapes s) (no_branch tapes s off) no_tape ∙ ap (stepped_with tapes) e))
    ]

pub stretch : (tapes : Tapes) → is_latched tapes ≡ false → (limit : ℕ) (s : State)
    → Stretch tapes limit s (run_for limit s)
unfolding run_for taped_run_for
stretch tapes off zero s = stretch_stop tapes zero 0 s s stop.Limit (λ is. cc) refl
stretch tapes off (suc limit) s =
    stretch_by tapes limit s (fitted_step s).state (fitted_step s).stop off refl
    (stretch tapes off limit (fitted_step s).state)

-- and so it is if its end is known
pub stretch_is : (tapes : Tapes) (limit : ℕ) (s : State) (run : Finished) → is_latched tapes ≡ false
    → run_for limit s ≡ run → Stretch tapes limit s run
stretch_is tapes limit s run off e = subst (Stretch tapes limit s) e (stretch tapes off limit s)

-- What was carried out and what is left make the run.
pub record SoFar (limit : ℕ) (first now : TapedMachine) (left : ℕ) : Type 0 where
  pub whole : taped_run_for limit first ≡ after_steps (limit - left) (taped_run_for left now)
  pub most : left ≤ limit

pub nothing_yet : (limit : ℕ) (first : TapedMachine) → SoFar limit first first limit
nothing_yet limit first =
    let none : 0 ≡ limit - limit = omega arith in
    let rest : TapedFinished = taped_run_for limit first in
    record {
      whole = recount rest rest.steps (0 + rest.steps) (omega arith) ∙ ap (λ n. after_steps n rest) none;
      most = omega arith;
    }

-- some instructions more
pub goes_on : (limit left steps : ℕ) (first now next : TapedMachine) → SoFar limit first now left → steps ≤ left
    → taped_run_for left now ≡ after_steps steps (taped_run_for (left - steps) next)
    → SoFar limit first next (left - steps)
goes_on limit left steps first now next so_far few e =
    let most = so_far.most in
    let rest : TapedFinished = taped_run_for (left - steps) next in
    record {
      whole =
          so_far.whole
          ∙ ap (after_steps (limit - left)) e
          ∙ recount rest (limit - left + (steps + rest.steps)) (limit - (left - steps) + rest.steps) (omega arith);
      most = omega arith;
    }

-- the run ends
pub ends : (limit left steps : ℕ) (first now next : TapedMachine) (why : Stop) → SoFar limit first now left → steps ≤ left
    → taped_run_for left now ≡ counting next steps why
    → taped_run_for limit first ≡ counting next (limit - (left - steps)) why
ends limit left steps first now next why so_far few e =
    let most = so_far.most in
    let count : limit - left + steps ≡ limit - (left - steps) = omega arith in
    so_far.whole ∙ ap (after_steps (limit - left)) e ∙ ap (λ n. counting next n why) count

-- no instruction is left
pub limit_met : (limit left : ℕ) (first now : TapedMachine) → SoFar limit first now left → left ≡ 0
    → taped_run_for limit first ≡ counting now limit stop.Limit
unfolding taped_run_for
limit_met limit left first now so_far none =
    let count : limit - left + 0 ≡ limit = omega (arith, none) in
    so_far.whole ∙ ap (λ n. after_steps (limit - left) (taped_run_for n now)) none
    ∙ ap (λ n. counting now n stop.Limit) count

-- a run by its first step, whose run of one is known
pub record FirstStep (left : ℕ) (now next : TapedMachine) (steps : ℕ) (why : Stop) : Type 0 where
  pub goes : why ≡ stop.Limit → taped_run_for left now ≡ after_steps steps (taped_run_for (left - steps) next)
  pub stops : why ≢ stop.Limit → taped_run_for left now ≡ counting next steps why

of_step : (o : Option Stop) (t next : TapedMachine) (left steps : ℕ) (why : Stop) → (why ≡ stop.Limit → steps ≡ 1)
    → run_on (record { taped = t; stop = o }) (taped_run_for 0 t) ≡ counting next steps why
    → (why ≡ stop.Limit → run_on (record { taped = t; stop = o }) (taped_run_for left t)
    ≡ after_steps steps (taped_run_for left next))
    × (why ≢ stop.Limit → run_on (record { taped = t; stop = o }) (taped_run_for left t) ≡ counting next steps why)
unfolding taped_run_for
of_step None t next left steps why exact e =
    let same : t ≡ next = ap (λ (run : TapedFinished). run.taped) e in
    let limit : stop.Limit ≡ why = ap (λ (run : TapedFinished). run.stop) e in
    let rest : TapedFinished = taped_run_for left t in (
      λ is.
          let one : steps ≡ 1 = exact is in
          recount rest (rest.steps + 1) (steps + rest.steps) (omega (arith, one))
          ∙ ap (λ (u : TapedMachine). after_steps steps (taped_run_for left u)) same,
      λ other. absurd (other (sym limit)),
    )
of_step (Some was) t next left steps why exact e =
    let steps_is : carried_out_by was ≡ steps = ap (λ (run : TapedFinished). run.steps) e in
    let stop_is : was ≡ why = ap (λ (run : TapedFinished). run.stop) e in (
      λ is.
          let both : 0 ≡ 1 = sym (ap carried_out_by (stop_is ∙ is)) ∙ steps_is ∙ exact is in absurd (omega (arith, both)),
      λ other. e,
    )

pub first_step : (left steps : ℕ) (now next : TapedMachine) (why : Stop) → 0 < left → (why ≡ stop.Limit → steps ≡ 1)
    → taped_run_for 1 now ≡ counting next steps why → FirstStep left now next steps why
unfolding taped_run_for
first_step zero steps now next why some exact e = absurd (omega (arith, some))
first_step (suc left) steps now next why some exact e =
    let known =
    of_step (taped_step now).stop (taped_step now).taped next left steps why exact e in
    record {
      goes = λ is.
          let one : steps ≡ 1 = exact is in
          let less : left ≡ suc left - steps = omega (arith, one) in
          known.0 is ∙ ap (λ n. after_steps steps (taped_run_for n next)) less;
      stops = known.1;
    }
