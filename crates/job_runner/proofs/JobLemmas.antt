-- A job is made of runs of a machine whose room for cards and lines is bounded.
use Rattle.std.proofs.Common.{◌≡◌, ◌≢◌, ℕ, ◌==◌, ◌+◌, ◌-◌, ◌≤◌, ◌⊎◌, inl, inr, zero, suc, List, [], ◌∷◌, ◌++◌, length}
use Rattle.std.proofs.Common.{Option, None, Some, refl, subst, sym, ◌∙◌, ap, arith, append_assoc}
use Rattle.std.proofs.lemmas.Bool.Decides.{nat_tests}
use Rattle.std.proofs.lemmas.List.{append-nil}
use Rattle.devices_1401.specs.Devices.{is_full, most_held}
use Rattle.devices_1401.specs.declared.card.Card.{Card}
use Rattle.devices_1401.specs.declared.print_line.PrintLine.{PrintLine}
use Rattle.machine_tables.specs.declared.stop.Stop.{Stop}
use Rattle.machine_tables.specs.declared.stop.Stop.TheVariants as stop
use Rattle.cpu_1401.specs.CardsAndPrinter.{with_devices}
use Rattle.cpu_1401.specs.Frame.{Frame, IsUnseen}
use Rattle.cpu_1401.specs.Run.{carried_out_by}
use Rattle.cpu_1401.specs.State.{State}
use Rattle.machine_tapes.specs.TapedFrame.{TapedStepLaw, taped_around, taped_framed}
use Rattle.machine_tapes.specs.TapedRun.{TapedFinished, run_on, taped_run_for}
use Rattle.machine_tapes.specs.TapedStep.{TapedStepped, taped_step}
use Rattle.machine_tapes.specs.declared.taped_machine.TapedMachine.{TapedMachine}
use Rattle.job_runner.specs.Unattended.{IsBeginning, IsPartOf, Job, after_output, after_steps, ended, go_on, taken_first}
use Rattle.job_runner.specs.Unattended.{taped_emptied, taped_with_deck, unattended}

-- another machine with these tape units
abbrev pub with_machine : TapedMachine → State → TapedMachine
with_machine t s = record t { machine = s }

-- what lay in the stacker and on the paper of a machine, in front of that of another
abbrev in_front : TapedMachine → TapedMachine → TapedMachine
in_front s t = with_machine t (with_devices (record t.machine.devices {
  stacker = s.machine.devices.stacker ++ t.machine.devices.stacker;
  paper = s.machine.devices.paper ++ t.machine.devices.paper;
}) t.machine)

abbrev deck_alone : List Card → Frame
deck_alone deck = record { deck = deck; cards = []; lines = [] }

abbrev outputs_of : TapedMachine → Frame
outputs_of s = record { deck = []; cards = s.machine.devices.stacker; lines = s.machine.devices.paper }

-- no deck below, only what lay on top
outputs_in_front : (s t : TapedMachine) → taped_framed (outputs_of s) t ≡ in_front s t
outputs_in_front s t =
    ap (λ (hopper : List Card). with_machine t (with_devices (record (in_front s t).machine.devices { hopper = hopper })
    t.machine))
    (append-nil t.machine.devices.hopper)

-- what was taken out is put back
put_back : (s : TapedMachine) → in_front s (taped_emptied s) ≡ s
put_back s =
    ap (λ (stacker : List Card). with_machine s (with_devices (record s.machine.devices {
      stacker = stacker;
      paper = s.machine.devices.paper ++ [];
    }) s.machine)) (append-nil s.machine.devices.stacker)
    ∙ ap (λ (paper : List PrintLine). with_machine s (with_devices (record s.machine.devices { paper = paper }) s.machine))
    (append-nil s.machine.devices.paper)

-- what lies there before a job goes out first
front_taken : (limit : ℕ) (s t : TapedMachine) → unattended limit (in_front s t) ≡ taken_first s (unattended limit t)
unfolding unattended
front_taken zero s t = refl
front_taken (suc limit) s t =
    let job = unattended (suc limit) (in_front s t) in
    let rest = go_on (taped_step (taped_emptied t)).stop (taped_step (taped_emptied t)).taped (unattended limit) in
    ap (λ (lines : List PrintLine). let it : Job = record job { lines = lines } in it)
    (append_assoc s.machine.devices.paper t.machine.devices.paper rest.lines)
    ∙ ap (λ (cards : List Card). let it : Job = record (taken_first s (unattended (suc limit) t)) { cards = cards } in it)
    (append_assoc s.machine.devices.stacker t.machine.devices.stacker rest.cards)

-- taken out before a step, or left there until afterwards
go_on_in_front : (limit : ℕ) (why : Option Stop) (s t : TapedMachine)
    → taken_first s (go_on why t (unattended limit)) ≡ go_on why (in_front s t) (unattended limit)
go_on_in_front limit None s t = ap (λ (job : Job). after_steps 1 job) (sym (front_taken limit s t))
go_on_in_front limit (Some why) s t = refl

-- a machine that can take n steps as if it had the whole deck, and stacker and paper were empty
pub record HasRoom (n : ℕ) (deck : List Card) (s : TapedMachine) : Type 0 where
  pub hopper : (n ≤ length s.machine.devices.hopper) ⊎ (deck ≡ [])
  pub stacker : length s.machine.devices.stacker + n ≤ most_held
  pub paper : length s.machine.devices.paper + n ≤ most_held

not_full : {X : Type 0} (xs : List X) (n : ℕ) → length xs + suc n ≤ most_held → is_full (xs ++ []) ≡ is_full {X = X} []
not_full xs n h = rw (append-nil xs) (grind (arith, nat_tests))

same_emptiness : (n : ℕ) (xs ys : List Card) → (suc n ≤ length xs) ⊎ (ys ≡ [])
    → (length (xs ++ ys) == 0) ≡ (length xs == 0)
same_emptiness n [] [] h = refl
same_emptiness n [] (y ∷ ys) (inl h) = absurd (omega arith)
same_emptiness n [] (y ∷ ys) (inr h) = cc
same_emptiness n (x ∷ xs) ys h = grind (arith, nat_tests)

-- one step of a job is one step of a machine with room for it
next : TapedStepLaw → (limit n : ℕ) (deck : List Card) (s : TapedMachine) → HasRoom (suc n) deck s
    → unattended (suc limit) (taped_with_deck deck s)
    ≡ go_on (taped_step s).stop (taped_with_deck deck (taped_step s).taped) (unattended limit)
unfolding unattended
next law limit n deck s room =
    let whole = taped_with_deck deck s in
    let bare = taped_step (taped_emptied whole) in
    let beyond_unseen : IsUnseen (deck_alone deck) s.machine =
    record { hopper = same_emptiness n s.machine.devices.hopper deck room.hopper; stacker = refl; paper = refl } in
    let front_unseen : IsUnseen (outputs_of whole) (taped_emptied whole).machine = record {
      hopper = ap (λ (hopper : List Card). length hopper == 0) (append-nil (s.machine.devices.hopper ++ deck));
      stacker = not_full s.machine.devices.stacker n room.stacker;
      paper = not_full s.machine.devices.paper n room.paper;
    } in
    let both : taped_around (deck_alone deck) (taped_step s) ≡ taped_around (outputs_of whole) bare =
    sym (law.in_frame (deck_alone deck) s beyond_unseen)
    ∙ ap taped_step (sym (put_back whole) ∙ sym (outputs_in_front whole (taped_emptied whole)))
    ∙ law.in_frame (outputs_of whole) (taped_emptied whole) front_unseen in
    let same_stop : (taped_step s).stop ≡ bare.stop = ap (λ (t : TapedStepped). t.stop) both in
    let same_state : taped_with_deck deck (taped_step s).taped ≡ in_front whole bare.taped =
    ap (λ (t : TapedStepped). t.taped) both ∙ outputs_in_front whole bare.taped in
    go_on_in_front limit bare.stop whole bare.taped
    ∙ ap (λ (why : Option Stop). go_on why (in_front whole bare.taped) (unattended limit)) (sym same_stop)
    ∙ ap (λ (state : TapedMachine). go_on (taped_step s).stop state (unattended limit)) (sym same_state)

cards_left : (n : ℕ) (deck : List Card) (old new : ℕ) → old ≤ new + 1 → (suc n ≤ old) ⊎ (deck ≡ [])
    → (n ≤ new) ⊎ (deck ≡ [])
cards_left n deck old new h (inl some) = inl (omega arith)
cards_left n deck old new h (inr none) = inr none

-- after a step there is room for one fewer
room_left : TapedStepLaw → (n : ℕ) (deck : List Card) (s : TapedMachine) → HasRoom (suc n) deck s
    → HasRoom n deck (taped_step s).taped
room_left law n deck s room =
    let used = law.uses s in
    record {
      hopper = cards_left n deck (length s.machine.devices.hopper) (length (taped_step s).taped.machine.devices.hopper) used.hopper room.hopper;
      stacker = omega (arith, used.stacker, room.stacker);
      paper = omega (arith, used.paper, room.paper);
    }

-- a run from a step on that left this machine, and stopped it or not
abbrev run_beyond : ℕ → Option Stop → TapedMachine → TapedFinished
run_beyond n why t = run_on (record { taped = t; stop = why }) (taped_run_for n t)

-- a run that goes on after its first step, and the job with it
limit_after : (n m : ℕ) (deck : List Card) (why : Option Stop) (t : TapedMachine)
    → ((taped_run_for n t).stop ≡ stop.Limit → (taped_run_for n t).steps ≡ n
    → unattended (n + m) (taped_with_deck deck t) ≡ after_steps n (unattended m (taped_with_deck deck (taped_run_for n t).taped)))
    → (run_beyond n why t).stop ≡ stop.Limit → (run_beyond n why t).steps ≡ suc n
    → go_on why (taped_with_deck deck t) (unattended (n + m))
    ≡ after_steps (suc n) (unattended m (taped_with_deck deck (run_beyond n why t).taped))
limit_after n m deck None t more is_limit all =
    let rest = unattended m (taped_with_deck deck (taped_run_for n t).taped) in
    ap (λ (job : Job). after_steps 1 job) (more is_limit (omega arith))
    ∙ ap (λ (steps : ℕ). let job : Job = record rest { steps = steps } in job) (omega arith)
limit_after n m deck (Some why) t more is_limit all =
    let none : carried_out_by why ≡ 0 = ap carried_out_by is_limit in absurd (omega arith)

-- a run to its limit, with the deck below the hopper's cards: what is left of the job makes the whole
pub run_to_limit : TapedStepLaw → (n m : ℕ) (deck : List Card) (s : TapedMachine) → HasRoom n deck s
    → (taped_run_for n s).stop ≡ stop.Limit → (taped_run_for n s).steps ≡ n
    → unattended (n + m) (taped_with_deck deck s) ≡ after_steps n (unattended m (taped_with_deck deck (taped_run_for n s).taped))
unfolding taped_run_for
run_to_limit law zero m deck s room is_limit all =
    let rest = unattended m (taped_with_deck deck s) in
    ap (λ (limit : ℕ). unattended limit (taped_with_deck deck s)) (omega arith)
    ∙ ap (λ (steps : ℕ). let job : Job = record rest { steps = steps } in job) (omega arith)
run_to_limit law (suc n) m deck s room is_limit all =
    ap (λ (limit : ℕ). unattended limit (taped_with_deck deck s)) (omega arith)
    ∙ next law (n + m) n deck s room
    ∙ limit_after n m deck (taped_step s).stop (taped_step s).taped
    (run_to_limit law n m deck (taped_step s).taped (room_left law n deck s room)) is_limit all

-- the same for a run that was stopped
end_after : (n m : ℕ) (deck : List Card) (why : Option Stop) (t : TapedMachine)
    → ((taped_run_for n t).stop ≢ stop.Limit
    → unattended (n + m) (taped_with_deck deck t)
    ≡ ended (taped_run_for n t).steps (taped_run_for n t).stop (taped_with_deck deck (taped_run_for n t).taped))
    → (run_beyond n why t).stop ≢ stop.Limit
    → go_on why (taped_with_deck deck t) (unattended (n + m))
    ≡ ended (run_beyond n why t).steps (run_beyond n why t).stop
    (taped_with_deck deck (run_beyond n why t).taped)
end_after n m deck None t more no_limit =
    let rest = ended (taped_run_for n t).steps (taped_run_for n t).stop (taped_with_deck deck (taped_run_for n t).taped) in
    ap (λ (job : Job). after_steps 1 job) (more no_limit)
    ∙ ap (λ (steps : ℕ). let job : Job = record rest { steps = steps } in job) (omega arith)
end_after n m deck (Some why) t more no_limit = refl

-- a run to a stop, with the deck below the hopper's cards: the job is at its end
pub run_to_stop : TapedStepLaw → (n m : ℕ) (deck : List Card) (s : TapedMachine) → HasRoom n deck s
    → (taped_run_for n s).stop ≢ stop.Limit
    → unattended (n + m) (taped_with_deck deck s)
    ≡ ended (taped_run_for n s).steps (taped_run_for n s).stop (taped_with_deck deck (taped_run_for n s).taped)
unfolding taped_run_for
run_to_stop law zero m deck s room no_limit = absurd (no_limit refl)
run_to_stop law (suc n) m deck s room no_limit =
    ap (λ (limit : ℕ). unattended limit (taped_with_deck deck s)) (omega arith)
    ∙ next law (n + m) n deck s room
    ∙ end_after n m deck (taped_step s).stop (taped_step s).taped
    (run_to_stop law n m deck (taped_step s).taped (room_left law n deck s room)) no_limit

-- the end of a job, with what is left of the deck
abbrev end_of : List Card → TapedMachine → ℕ → Stop → List PrintLine → List Card → Job
end_of left now steps why lines cards =
    record { state = taped_with_deck left now; steps = steps; stop = why; lines = lines; cards = cards }

-- what lies there may be taken out at once
pub emptied_first : (limit : ℕ) (t : TapedMachine) → unattended limit t ≡ taken_first t (unattended limit (taped_emptied t))
emptied_first limit t =
    ap (λ (s : TapedMachine). unattended limit s) (sym (put_back t)) ∙ front_taken limit t (taped_emptied t)

-- paper and stacker taken out of the machine and written
pub taken_out : (limit limit' steps : ℕ) (lines lines' : List PrintLine) (cards cards' : List Card) (deck : List Card)
    (m m' : TapedMachine) → lines' ≡ lines ++ m.machine.devices.paper → cards' ≡ cards ++ m.machine.devices.stacker → m' ≡ taped_emptied m
    → limit ≡ limit' → after_output lines cards steps (unattended limit (taped_with_deck deck m))
    ≡ after_output lines' cards' steps (unattended limit' (taped_with_deck deck m'))
taken_out limit limit' steps lines lines' cards cards' deck m m' e_lines e_cards e_m e_limit =
    let t = taped_with_deck deck m in
    let rest = unattended limit (taped_emptied t) in
    let whole = after_output lines cards steps (taken_first t rest) in
    let half = after_output (lines ++ m.machine.devices.paper) cards steps (record rest { cards = m.machine.devices.stacker ++ rest.cards }) in
    ap (λ (job : Job). after_output lines cards steps job) (emptied_first limit t)
    ∙ ap (λ (all : List PrintLine). let job : Job = record whole { lines = all } in job)
    (sym (append_assoc lines m.machine.devices.paper rest.lines))
    ∙ ap (λ (all : List Card). let job : Job = record half { cards = all } in job)
    (sym (append_assoc cards m.machine.devices.stacker rest.cards))
    ∙ ap (λ (all : List PrintLine). after_output all (cards ++ m.machine.devices.stacker) steps rest) (sym e_lines)
    ∙ ap (λ (all : List Card). after_output lines' all steps rest) (sym e_cards)
    ∙ ap (λ (now : TapedMachine). after_output lines' cards' steps (unattended limit (taped_with_deck deck now))) (sym e_m)
    ∙ ap (λ (k : ℕ). after_output lines' cards' steps (unattended k (taped_with_deck deck m'))) e_limit

-- a stretch to its limit: the hopper filled, a run, and all taken out
pub stretch_goes_on : TapedStepLaw → (limit steps n ran : ℕ) (why : Stop) (lines lines' : List PrintLine) (cards cards' : List Card)
    (deck left : List Card) (m filled after m' : TapedMachine) → taped_with_deck left filled ≡ taped_with_deck deck m
    → HasRoom n left filled → steps + n ≤ limit
    → taped_run_for n filled ≡ record { taped = after; steps = ran; stop = why } → why ≡ stop.Limit → ran ≡ n
    → lines' ≡ lines ++ after.machine.devices.paper → cards' ≡ cards ++ after.machine.devices.stacker → m' ≡ taped_emptied after
    → after_output lines cards steps (unattended (limit - steps) (taped_with_deck deck m))
    ≡ after_output lines' cards' (steps + ran) (unattended (limit - (steps + ran)) (taped_with_deck left m'))
stretch_goes_on law limit steps n ran why lines lines' cards cards' deck left m filled after m' same room within run is_limit
    all e_lines e_cards e_m =
    let q = limit - (steps + n) in
    let parts : limit - steps ≡ n + q = omega arith in
    let rest = unattended q (taped_with_deck left after) in
    let stopped : (taped_run_for n filled).stop ≡ stop.Limit = ap (λ (r : TapedFinished). r.stop) run ∙ is_limit in
    let counted : (taped_run_for n filled).steps ≡ n = ap (λ (r : TapedFinished). r.steps) run ∙ all in
    ap (λ (k : ℕ). after_output lines cards steps (unattended k (taped_with_deck deck m))) parts
    ∙ ap (λ (t : TapedMachine). after_output lines cards steps (unattended (n + q) t)) (sym same)
    ∙ ap (λ (job : Job). after_output lines cards steps job) (run_to_limit law n q left filled room stopped counted)
    ∙ ap (λ (r : TapedFinished). after_output lines cards steps (after_steps n (unattended q (taped_with_deck left r.taped)))) run
    ∙ ap (λ (k : ℕ). let job : Job = record (after_output lines cards steps rest) { steps = k } in job) (omega arith)
    ∙ taken_out q (limit - (steps + ran)) (steps + ran) lines lines' cards cards' left after m' e_lines e_cards e_m
    (omega arith)

-- a stretch to a stop
pub stretch_stops : TapedStepLaw → (limit steps n ran : ℕ) (why : Stop) (lines lines' : List PrintLine) (cards cards' : List Card)
    (deck left : List Card) (m filled after m' : TapedMachine) → taped_with_deck left filled ≡ taped_with_deck deck m
    → HasRoom n left filled → steps + n ≤ limit
    → taped_run_for n filled ≡ record { taped = after; steps = ran; stop = why } → why ≢ stop.Limit
    → lines' ≡ lines ++ after.machine.devices.paper → cards' ≡ cards ++ after.machine.devices.stacker → m' ≡ taped_emptied after
    → after_output lines cards steps (unattended (limit - steps) (taped_with_deck deck m)) ≡ record {
      state = taped_with_deck left m';
      steps = steps + ran;
      stop = why;
      lines = lines';
      cards = cards';
    }
stretch_stops law limit steps n ran why lines lines' cards cards' deck left m filled after m' same room within run no_limit
    e_lines e_cards e_m =
    let q = limit - (steps + n) in
    let parts : limit - steps ≡ n + q = omega arith in
    ap (λ (k : ℕ). after_output lines cards steps (unattended k (taped_with_deck deck m))) parts
    ∙ ap (λ (t : TapedMachine). after_output lines cards steps (unattended (n + q) t)) (sym same)
    ∙ ap (λ (job : Job). after_output lines cards steps job)
    (run_to_stop law n q left filled room (λ e. no_limit (sym (ap (λ (r : TapedFinished). r.stop) run) ∙ e)))
    ∙ ap (λ (r : TapedFinished). after_output lines cards steps (ended r.steps r.stop (taped_with_deck left r.taped))) run
    ∙ ap (λ (all : List PrintLine). end_of left (taped_emptied after) (steps + ran) why all (cards ++ after.machine.devices.stacker))
    (sym e_lines)
    ∙ ap (λ (all : List Card). end_of left (taped_emptied after) (steps + ran) why lines' all) (sym e_cards)
    ∙ ap (λ (now : TapedMachine). end_of left now (steps + ran) why lines' cards') (sym e_m)

-- no step is left
pub nothing_left : (limit steps : ℕ) (lines : List PrintLine) (cards : List Card) (deck : List Card) (m : TapedMachine)
    → limit ≡ steps → m.machine.devices.stacker ≡ [] → m.machine.devices.paper ≡ []
    → after_output lines cards steps (unattended (limit - steps) (taped_with_deck deck m)) ≡ record {
      state = taped_with_deck deck m;
      steps = steps;
      stop = stop.Limit;
      lines = lines;
      cards = cards;
    }
unfolding unattended
nothing_left limit steps lines cards deck m e no_cards no_lines =
    let none : limit - steps ≡ 0 = omega arith in
    let bare : m ≡ taped_emptied m =
    ap (λ (stacker : List Card). with_machine m (with_devices (record m.machine.devices { stacker = stacker }) m.machine))
    no_cards
    ∙ ap (λ (paper : List PrintLine). with_machine m (with_devices (record m.machine.devices {
      stacker = [];
      paper = paper;
    }) m.machine)) no_lines in
    ap (λ (k : ℕ). after_output lines cards steps (unattended k (taped_with_deck deck m))) none
    ∙ ap (λ (all : List PrintLine). end_of deck (taped_emptied m) (steps + 0) stop.Limit all (cards ++ m.machine.devices.stacker))
    (ap (λ (paper : List PrintLine). lines ++ paper) no_lines ∙ append-nil lines)
    ∙ ap (λ (all : List Card). end_of deck (taped_emptied m) (steps + 0) stop.Limit lines all)
    (ap (λ (stacker : List Card). cards ++ stacker) no_cards ∙ append-nil cards)
    ∙ ap (λ (now : TapedMachine). end_of deck now (steps + 0) stop.Limit lines cards) (sym bare)
    ∙ ap (λ (k : ℕ). end_of deck m k stop.Limit lines cards) (omega arith)

filled : (n held : ℕ) (deck : List Card) → n ≤ most_held → (most_held ≤ held) ⊎ (deck ≡ [])
    → (n ≤ held) ⊎ (deck ≡ [])
filled n held deck few (inl full) = inl (omega arith)
filled n held deck few (inr none) = inr none

-- a filled hopper, and stacker and paper taped_emptied: room for a stretch
pub room_for : (n : ℕ) (deck : List Card) (m : TapedMachine) → n ≤ most_held
    → (most_held ≤ length m.machine.devices.hopper) ⊎ (deck ≡ []) → m.machine.devices.stacker ≡ [] → m.machine.devices.paper ≡ []
    → HasRoom n deck m
room_for n deck m few full no_cards no_lines = record {
  hopper = filled n (length m.machine.devices.hopper) deck few full;
  stacker = rw no_cards (omega arith);
  paper = rw no_lines (omega arith);
}

-- what a run has printed and punched is a beginning of all that the job does
begins_after : (n m : ℕ) (deck : List Card) (why : Option Stop) (t : TapedMachine)
    → IsPartOf (taped_run_for n t).taped.machine.devices.paper (taped_run_for n t).taped.machine.devices.stacker (unattended (n + m) (taped_with_deck deck t))
    → IsPartOf (run_beyond n why t).taped.machine.devices.paper (run_beyond n why t).taped.machine.devices.stacker
    (go_on why (taped_with_deck deck t) (unattended (n + m)))
begins_after n m deck None t more = record { lines = more.lines; cards = more.cards }
begins_after n m deck (Some why) t more = record {
  lines = record { rest = []; joined = append-nil t.machine.devices.paper };
  cards = record { rest = []; joined = append-nil t.machine.devices.stacker };
}

-- what lies there is a beginning of what is written
pub waiting_begins : (limit : ℕ) (t : TapedMachine) → IsPartOf t.machine.devices.paper t.machine.devices.stacker (unattended limit t)
waiting_begins limit t =
    let rest = unattended limit (taped_emptied t) in
    subst (λ (job : Job). IsPartOf t.machine.devices.paper t.machine.devices.stacker job) (sym (emptied_first limit t))
    (record { lines = record { rest = rest.lines; joined = refl }; cards = record { rest = rest.cards; joined = refl } })

run_begins : TapedStepLaw → (n m : ℕ) (deck : List Card) (s : TapedMachine) → HasRoom n deck s
    → IsPartOf (taped_run_for n s).taped.machine.devices.paper (taped_run_for n s).taped.machine.devices.stacker
    (unattended (n + m) (taped_with_deck deck s))
unfolding taped_run_for
run_begins law zero m deck s room = waiting_begins (zero + m) (taped_with_deck deck s)
run_begins law (suc n) m deck s room =
    subst (λ (job : Job). IsPartOf (taped_run_for (suc n) s).taped.machine.devices.paper (taped_run_for (suc n) s).taped.machine.devices.stacker job)
    (sym (ap (λ (limit : ℕ). unattended limit (taped_with_deck deck s)) (omega arith) ∙ next law (n + m) n deck s room))
    (begins_after n m deck (taped_step s).stop (taped_step s).taped
    (run_begins law n m deck (taped_step s).taped (room_left law n deck s room)))

-- a beginning after what was written before
begins_beyond : {X : Type 0} (before part some all : List X) → IsBeginning part (before ++ some) → IsBeginning some all
    → IsBeginning part (before ++ all)
begins_beyond before part some all first then_all = record {
  rest = first.rest ++ then_all.rest;
  joined =
      sym (append_assoc part first.rest then_all.rest)
      ∙ ap (λ xs. xs ++ then_all.rest) first.joined
      ∙ append_assoc before some then_all.rest
      ∙ ap (λ xs. before ++ xs) then_all.joined;
}

pub part_beyond : (lines part_lines some_lines : List PrintLine) (cards part_cards some_cards : List Card) (steps : ℕ)
    (job : Job) → IsBeginning part_lines (lines ++ some_lines) → IsBeginning part_cards (cards ++ some_cards)
    → IsPartOf some_lines some_cards job → IsPartOf part_lines part_cards (after_output lines cards steps job)
part_beyond lines part_lines some_lines cards part_cards some_cards steps job of_lines of_cards some = record {
  lines = begins_beyond lines part_lines some_lines job.lines of_lines some.lines;
  cards = begins_beyond cards part_cards some_cards job.cards of_cards some.cards;
}

-- a write that failed after a stretch
pub stretch_begins : TapedStepLaw → (limit steps n ran : ℕ) (why : Stop) (lines part_lines : List PrintLine)
    (cards part_cards : List Card) (deck left : List Card) (m filled after : TapedMachine)
    → taped_with_deck left filled ≡ taped_with_deck deck m → HasRoom n left filled → steps + n ≤ limit
    → taped_run_for n filled ≡ record { taped = after; steps = ran; stop = why }
    → IsBeginning part_lines (lines ++ after.machine.devices.paper) → IsBeginning part_cards (cards ++ after.machine.devices.stacker)
    → IsPartOf part_lines part_cards (after_output lines cards steps (unattended (limit - steps) (taped_with_deck deck m)))
stretch_begins law limit steps n ran why lines part_lines cards part_cards deck left m filled after same room within run
    of_lines of_cards =
    let q = limit - (steps + n) in
    let parts : n + q ≡ limit - steps = omega arith in
    let began =
    subst (λ (r : TapedFinished). IsPartOf r.taped.machine.devices.paper r.taped.machine.devices.stacker (unattended (n + q) (taped_with_deck left filled)))
    run
    (run_begins law n q left filled room) in
    let here =
    subst (λ (t : TapedMachine). IsPartOf after.machine.devices.paper after.machine.devices.stacker (unattended (n + q) t)) same began in
    part_beyond lines part_lines after.machine.devices.paper cards part_cards after.machine.devices.stacker steps
    (unattended (limit - steps) (taped_with_deck deck m)) of_lines of_cards
    (subst (λ (k : ℕ). IsPartOf after.machine.devices.paper after.machine.devices.stacker (unattended k (taped_with_deck deck m))) parts here)

-- what was written so far
pub so_far : (lines : List PrintLine) (cards : List Card) (steps : ℕ) (job : Job)
    → IsPartOf lines cards (after_output lines cards steps job)
so_far lines cards steps job =
    record { lines = record { rest = job.lines; joined = refl }; cards = record { rest = job.cards; joined = refl } }

-- no step leaves the tape units as they were
pub no_step : (n : ℕ) → n ≡ 0 → (t : TapedMachine) → (unattended n t).state.tapes ≡ t.tapes
unfolding unattended
no_step zero e t = refl
no_step (suc n) e t = absurd (omega (arith, e))

tapes_beyond : (n : ℕ) (deck : List Card) (why : Option Stop) (t : TapedMachine)
    → (unattended n (taped_with_deck deck t)).state.tapes ≡ (taped_run_for n t).taped.tapes
    → (go_on why (taped_with_deck deck t) (unattended n)).state.tapes ≡ (run_beyond n why t).taped.tapes
tapes_beyond n deck None t more = more
tapes_beyond n deck (Some why) t more = refl

-- the tape units after a run are those of the job after as many steps
pub run_tapes : TapedStepLaw → (n : ℕ) (deck : List Card) (s : TapedMachine) → HasRoom n deck s
    → (unattended n (taped_with_deck deck s)).state.tapes ≡ (taped_run_for n s).taped.tapes
unfolding taped_run_for
run_tapes law zero deck s room = no_step 0 refl (taped_with_deck deck s)
run_tapes law (suc n) deck s room =
    ap (λ (job : Job). job.state.tapes) (next law n n deck s room)
    ∙ tapes_beyond n deck (taped_step s).stop (taped_step s).taped
    (run_tapes law n deck (taped_step s).taped (room_left law n deck s room))
