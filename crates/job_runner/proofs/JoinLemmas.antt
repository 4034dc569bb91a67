-- A job of more steps goes on from one that met its limit, and is at its end if one has stopped.
use Rattle.std.proofs.Common.{◌≡◌, ◌≢◌, ℕ, ◌+◌, zero, suc, List, [], ◌++◌, Option, None, Some, refl, subst, sym, ◌∙◌}
use Rattle.std.proofs.Common.{ap, arith, append_assoc}
use Rattle.std.proofs.lemmas.List.{append-nil}
use Rattle.devices_1401.specs.declared.card.Card.{Card}
use Rattle.devices_1401.specs.declared.print_line.PrintLine.{PrintLine}
use Rattle.machine_tables.specs.declared.stop.Stop.{Stop}
use Rattle.machine_tables.specs.declared.stop.Stop.TheVariants as stop
use Rattle.cpu_1401.specs.Run.{carried_out_by}
use Rattle.machine_tapes.specs.TapedStep.{taped_step}
use Rattle.machine_tapes.specs.declared.taped_machine.TapedMachine.{TapedMachine}
use Rattle.job_runner.specs.Unattended.{IsPartOf, Job, after_job, after_steps, ended, go_on, taken_first, unattended}
use Rattle.job_runner.proofs.JobLemmas.{emptied_first, waiting_begins}

-- two jobs whose counts and outputs are equal
same_job : (now : TapedMachine) (why : Stop) (steps steps' : ℕ) (lines lines' : List PrintLine) (cards cards' : List Card)
    → steps ≡ steps' → lines ≡ lines' → cards ≡ cards'
    → (let job : Job = record { state = now; steps = steps; stop = why; lines = lines; cards = cards } in job)
    ≡ record { state = now; steps = steps'; stop = why; lines = lines'; cards = cards' }
same_job now why steps steps' lines lines' cards cards' e_steps e_lines e_cards = rw (e_steps, e_lines, e_cards) refl

goes_on_after : (n m : ℕ) (s t : TapedMachine) (why : Option Stop)
    → ((unattended n t).stop ≡ stop.Limit → (unattended n t).steps ≡ n
    → unattended (n + m) t ≡ after_job (unattended n t) (unattended m (unattended n t).state))
    → (go_on why t (unattended n)).stop ≡ stop.Limit → (go_on why t (unattended n)).steps ≡ suc n
    → taken_first s (go_on why t (unattended (n + m)))
    ≡ after_job (taken_first s (go_on why t (unattended n))) (unattended m (go_on why t (unattended n)).state)
goes_on_after n m s t None more is_limit all =
    let first = unattended n t in
    let rest = unattended m first.state in
    ap (λ (job : Job). taken_first s (after_steps 1 job)) (more is_limit (omega arith))
    ∙ same_job rest.state rest.stop (1 + (first.steps + rest.steps)) ((1 + first.steps) + rest.steps)
    (s.machine.devices.paper ++ (first.lines ++ rest.lines)) ((s.machine.devices.paper ++ first.lines) ++ rest.lines)
    (s.machine.devices.stacker ++ (first.cards ++ rest.cards)) ((s.machine.devices.stacker ++ first.cards) ++ rest.cards)
    (omega arith) (sym (append_assoc s.machine.devices.paper first.lines rest.lines))
    (sym (append_assoc s.machine.devices.stacker first.cards rest.cards))
goes_on_after n m s t (Some why) more is_limit all =
    let none : carried_out_by why ≡ 0 = ap carried_out_by is_limit in absurd (omega arith)

-- a job that met its limit goes on
pub goes_on : (n m : ℕ) (s : TapedMachine) → (unattended n s).stop ≡ stop.Limit → (unattended n s).steps ≡ n
    → unattended (n + m) s ≡ after_job (unattended n s) (unattended m (unattended n s).state)
unfolding unattended
goes_on zero m s is_limit all =
    let rest = taken_first s (unattended m (ended 0 stop.Limit s).state) in
    ap (λ (limit : ℕ). unattended limit s) (omega arith)
    ∙ emptied_first m s
    ∙ ap (λ (steps : ℕ). let job : Job = record rest { steps = steps } in job) (omega arith)
goes_on (suc n) m s is_limit all =
    let bare = taped_step (ended 0 stop.Limit s).state in
    let count : suc n + m ≡ suc (n + m) = omega arith in
    ap (λ (limit : ℕ). unattended limit s) count
    ∙ goes_on_after n m s bare.taped bare.stop (goes_on n m bare.taped) is_limit all

stops_after : (n m : ℕ) (s t : TapedMachine) (why : Option Stop)
    → ((unattended n t).stop ≢ stop.Limit → unattended (n + m) t ≡ unattended n t)
    → (go_on why t (unattended n)).stop ≢ stop.Limit
    → taken_first s (go_on why t (unattended (n + m))) ≡ taken_first s (go_on why t (unattended n))
stops_after n m s t None more no_limit = ap (λ (job : Job). taken_first s (after_steps 1 job)) (more no_limit)
stops_after n m s t (Some why) more no_limit = refl

-- a job that has stopped is at its end
pub at_end : (n m : ℕ) (s : TapedMachine) → (unattended n s).stop ≢ stop.Limit → unattended (n + m) s ≡ unattended n s
unfolding unattended
at_end zero m s no_limit = absurd (no_limit refl)
at_end (suc n) m s no_limit =
    let bare = taped_step (ended 0 stop.Limit s).state in
    let count : suc n + m ≡ suc (n + m) = omega arith in
    ap (λ (limit : ℕ). unattended limit s) count
    ∙ stops_after n m s bare.taped bare.stop (at_end n m bare.taped) no_limit

begins_with : (n m : ℕ) (s t : TapedMachine) (why : Option Stop)
    → IsPartOf (unattended n t).lines (unattended n t).cards (unattended (n + m) t)
    → IsPartOf (taken_first s (go_on why t (unattended n))).lines (taken_first s (go_on why t (unattended n))).cards
    (taken_first s (go_on why t (unattended (n + m))))
begins_with n m s t None more = record {
  lines = record {
    rest = more.lines.rest;
    joined =
        append_assoc s.machine.devices.paper (unattended n t).lines more.lines.rest
        ∙ ap (λ xs. s.machine.devices.paper ++ xs) more.lines.joined;
  };
  cards = record {
    rest = more.cards.rest;
    joined =
        append_assoc s.machine.devices.stacker (unattended n t).cards more.cards.rest
        ∙ ap (λ xs. s.machine.devices.stacker ++ xs) more.cards.joined;
  };
}
begins_with n m s t (Some why) more = record {
  lines = record { rest = []; joined = append-nil (s.machine.devices.paper ++ t.machine.devices.paper) };
  cards = record { rest = []; joined = append-nil (s.machine.devices.stacker ++ t.machine.devices.stacker) };
}

-- what a job writes is a beginning of what one of more steps writes
pub begins : (n m : ℕ) (s : TapedMachine)
    → IsPartOf (unattended n s).lines (unattended n s).cards (unattended (n + m) s)
unfolding unattended
begins zero m s = waiting_begins (zero + m) s
begins (suc n) m s =
    let bare = taped_step (ended 0 stop.Limit s).state in
    let count : suc (n + m) ≡ suc n + m = omega arith in
    subst (λ (limit : ℕ). IsPartOf (unattended (suc n) s).lines (unattended (suc n) s).cards (unattended limit s)) count
    (begins_with n m s bare.taped bare.stop (begins n m bare.taped))
