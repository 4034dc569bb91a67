-- A step of a job, and its line.
use Rattle.std.proofs.Common.{◌≡◌, ◌≢◌, ◌<◌, ◌≤◌, ◌⊎◌, ℕ, ◌+◌, ◌-◌, zero, suc, Bool, true, false, List, [], ◌++◌}
use Rattle.std.proofs.Common.{length, min, Option, None, Some}
use Rattle.std.proofs.Common.{refl, sym, ◌∙◌, ap, subst, arith, append_assoc, length-append, inl, inr}
use Rattle.std.proofs.lemmas.Option.{none-some}
use Rattle.std.specs.Prelude.{nat_lt, ◌==◌, if◌then◌else◌, is_some}
use Rattle.std.proofs.lemmas.List.{append-nil}
use Rattle.devices_1401.specs.declared.card.Card.{Card}
use Rattle.devices_1401.specs.declared.print_line.PrintLine.{PrintLine}
use Rattle.machine_tables.specs.declared.stop.Stop.{Stop}
use Rattle.machine_tables.specs.declared.stop.Stop.TheVariants as stop
use Rattle.cpu_1401.specs.Run.{carried_out_by}
use Rattle.cpu_1401.specs.State.{State}
use Rattle.machine_tapes.specs.Instruction.{tape_instruction}
use Rattle.machine_tapes.specs.TapedFrame.{TapedStepLaw}
use Rattle.machine_tapes.specs.TapedStep.{taped_step}
use Rattle.machine_tapes.specs.Tapes.{Tapes}
use Rattle.machine_tapes.specs.declared.taped_machine.TapedMachine.{TapedMachine}
use Rattle.machine_tapes.specs.declared.work.TapeInstruction.{TapeInstruction}
use Rattle.job_runner.specs.Unattended.{Job, after_output, go_on, taken_first, taped_emptied, taped_with_deck}
use Rattle.job_runner.specs.Unattended.{unattended}
use Rattle.job_steps.specs.declared.work.TapeMark.{TapeMark}
use Rattle.job_steps.specs.declared.work.Work.{Work}
use Rattle.job_steps.specs.TraceLine.{Seen, line_of, seen_of, work_of}
use Rattle.program_run.specs.TraceText.{mark_after, taped_line, trace_on, trace_text}
use Rattle.std.proofs.KnownBytes.{Appends-nil, Appends-trans}
use Rattle.std.specs.Io.KnownBytes.{Appends}
use Rattle.bytes_streams.specs.Sink.{AppendsPart}
use Rattle.program_run.specs.RunTrace.{IsOfSize, TracedStretch, line_if, lines_after, most_at_once, rest_traced}
use Rattle.program_run.specs.RunTrace.{seen_if, traced}
use Rattle.program_run.proofs.StretchLemmas.{ran_part}
use Rattle.program_run.proofs.WrittenLemmas.{part_beyond, part_of_longer}

abbrev pub job_of : TapedMachine → ℕ → Stop → List PrintLine → List Card → Job
job_of now steps why lines cards =
    record { state = now; steps = steps; stop = why; lines = lines; cards = cards }

-- a job of one step, by what the step leaves
abbrev one_of : TapedMachine → TapedMachine → Option Stop → Job
one_of s after found = taken_first s (go_on found after (unattended 0))

-- what is reported of a step is what it left
record IsTold (s after : TapedMachine) (found told : Option Stop) (now : TapedMachine) (steps : ℕ) (lines : List PrintLine)
    (cards : List Card) : Type 0 where
  after_is : taped_emptied after ≡ now
  found_is : told ≡ found
  steps_is : found ≡ None → steps ≡ 1
  lines_is : s.machine.devices.paper ++ after.machine.devices.paper ≡ lines
  cards_is : s.machine.devices.stacker ++ after.machine.devices.stacker ≡ cards

told_of : (s after : TapedMachine) (found told : Option Stop) (now : TapedMachine) (steps : ℕ) (why : Stop)
    (lines : List PrintLine) (cards : List Card) → one_of s after found ≡ job_of now steps why lines cards
    → (why ≡ stop.Limit → steps ≡ 1) → (told ≡ None → why ≡ stop.Limit)
    → ((w : Stop) → told ≡ Some w → (w ≡ why) × (why ≢ stop.Limit))
    → IsTold s after found told now steps lines cards
unfolding unattended
told_of s after None None now steps why lines cards e counted none some = record {
  after_is = ap (λ (job : Job). job.state) e;
  found_is = refl;
  steps_is = λ _. counted (none refl);
  lines_is = ap (λ (job : Job). job.lines) e;
  cards_is = ap (λ (job : Job). job.cards) e;
}
told_of s after None (Some w) now steps why lines cards e counted none some =
    absurd ((some w refl).1 (sym (ap (λ (job : Job). job.stop) e)))
told_of s after (Some v) None now steps why lines cards e counted none some =
    let is : v ≡ why = ap (λ (job : Job). job.stop) e in
    let zero_steps : carried_out_by v ≡ steps = ap (λ (job : Job). job.steps) e in
    let v_limit : v ≡ stop.Limit = is ∙ none refl in
    let no_steps : 0 ≡ steps = ap carried_out_by (sym v_limit) ∙ zero_steps in
    absurd (omega (arith, no_steps, counted (none refl)))
told_of s after (Some v) (Some w) now steps why lines cards e counted none some = record {
  after_is = ap (λ (job : Job). job.state) e;
  found_is = ap Some ((some w refl).0 ∙ sym (ap (λ (job : Job). job.stop) e));
  steps_is = λ h. absurd (none-some v (sym h));
  lines_is = ap (λ (job : Job). job.lines) e;
  cards_is = ap (λ (job : Job). job.cards) e;
}

-- more lie there than before if there is one after them
more_lie : (n k : ℕ) → nat_lt n (n + k) ≡ nat_lt 0 k
more_lie n zero = search arith
more_lie n (suc k) = search arith

-- what was done at the devices, by what lies there
abbrev pub work_by : Bool → Bool → Bool → Option TapeMark → Work
work_by printed read punched tape = record { printed = printed; read = read; punched = punched; tape = tape }

same_work : (a b c a' b' c' : Bool) (d d' : Option TapeMark) → a ≡ a' → b ≡ b' → c ≡ c' → d ≡ d'
    → work_by a b c d ≡ work_by a' b' c' d'
same_work a b c a' b' c' d d' e f g h = rw (e, f, g, h) refl

lies_more : (X : Type 0) (before after all : List X) → before ++ after ≡ all
    → nat_lt (length before) (length all) ≡ nat_lt 0 (length after)
lies_more X before after all e =
    ap (λ (xs : List X). nat_lt (length before) (length xs)) (sym e)
    ∙ ap (λ (n : ℕ). nat_lt (length before) n) (length-append before after)
    ∙ more_lie (length before) (length after)

-- the line of the step
step_line : (s after now : TapedMachine) (found told : Option Stop) (work : Work) → taped_emptied after ≡ now → told ≡ found
    → work ≡ work_of (taped_emptied s).machine after.machine
    (mark_after (tape_instruction (taped_emptied s).machine) found after.tapes)
    → line_of (seen_of s.machine) work told now.machine
    ≡ taped_line (taped_emptied s) (record { taped = after; stop = found })
unfolding line_of
step_line s after now found told work e e' f =
    ap (λ (x : TapedMachine). line_of (seen_of s.machine) work told x.machine) (sym e)
    ∙ ap (λ (w : Option Stop). line_of (seen_of s.machine) work w after.machine) e'
    ∙ ap (λ (done : Work). line_of (seen_of s.machine) done found after.machine) f

-- how far the reel is, by what is known of the step
same_mark : (next next' : Option TapeInstruction) (told found : Option Stop) (tapes tapes' : Tapes) → next ≡ next'
    → told ≡ found → tapes ≡ tapes' → mark_after next told tapes ≡ mark_after next' found tapes'
same_mark next next' told found tapes tapes' e f g = rw (e, f, g) refl

-- the trace of a machine whose paper and punched cards were taken out
taken_out : (limit : ℕ) (s : TapedMachine) → trace_text limit (taped_emptied s) ≡ trace_text limit s
unfolding trace_text
taken_out zero s = refl
taken_out (suc limit) s = refl

-- what is left of the trace after a step
rest_of_trace : (after now : TapedMachine) (stopped told found : Option Stop) (why : Stop) (k left steps : ℕ)
    → left ≡ suc k → taped_emptied after ≡ now → told ≡ stopped → (stopped ≡ None → steps ≡ 1)
    → (told ≡ None → why ≡ stop.Limit)
    → ((w : Stop) → told ≡ Some w → (w ≡ why) × (why ≢ stop.Limit))
    → (found ≡ None → (why ≡ stop.Limit) × (1 < left))
    → ((w : Stop) → found ≡ Some w → (w ≡ why) × ((why ≢ stop.Limit) ⊎ (left ≤ 1)))
    → trace_on stopped after (trace_text k) ≡ rest_traced found (left - steps) now
unfolding trace_text
rest_of_trace after now None told None why k left steps e e_now e_told counted none some more ended =
    let one : steps ≡ 1 = counted refl in
    let count : k ≡ left - steps = omega (arith, e, one) in
    sym (taken_out k after) ∙ ap (λ (s : TapedMachine). trace_text k s) e_now ∙ ap (λ (n : ℕ). trace_text n now) count
rest_of_trace after now None told (Some w) why k left steps e e_now e_told counted none some more ended =
    let no_more : k ≡ zero = elim (ended w refl).1 [
      | inl no_limit ↦ absurd (no_limit (none e_told))
      | inr last ↦ omega (arith, e, last)
    ] in
    ap (λ (n : ℕ). trace_text n after) no_more
rest_of_trace after now (Some v) told None why k left steps e e_now e_told counted none some more ended =
    absurd ((some v e_told).1 (more refl).0)
rest_of_trace after now (Some v) told (Some w) why k left steps e e_now e_told counted none some more ended = refl

-- a stretch of one step, and its line
one_traced : TapedStepLaw → (deck deck' : List Card) (m m' : TapedMachine) (k left steps : ℕ) (why : Stop) (told found : Option Stop)
    (lines : List PrintLine) (cards : List Card) (work : Work) → left ≡ suc k
    → unattended 1 (taped_with_deck deck m) ≡ job_of (taped_with_deck deck' m') steps why lines cards
    → (why ≡ stop.Limit → steps ≡ 1) → (told ≡ None → why ≡ stop.Limit)
    → ((w : Stop) → told ≡ Some w → (w ≡ why) × (why ≢ stop.Limit))
    → (found ≡ None → (why ≡ stop.Limit) × (1 < left))
    → ((w : Stop) → found ≡ Some w → (w ≡ why) × ((why ≢ stop.Limit) ⊎ (left ≤ 1)))
    → work ≡ work_by (nat_lt (length m.machine.devices.paper) (length lines))
    (nat_lt (length (taped_with_deck deck' m').machine.devices.hopper) (length (taped_with_deck deck m).machine.devices.hopper))
    (nat_lt (length m.machine.devices.stacker) (length cards)) (mark_after (tape_instruction m.machine) told m'.tapes)
    → trace_text left (taped_with_deck deck m)
    ≡ line_of (seen_of m.machine) work told m'.machine ++ rest_traced found (left - steps) (taped_with_deck deck' m')
unfolding trace_text unattended line_of
one_traced law deck deck' m m' k left steps why told found lines cards work e job counted none some more ended e_work =
    let s = taped_with_deck deck m in
    let now = taped_with_deck deck' m' in
    let t = taped_step (taped_emptied s) in
    let after = t.taped in
    let is = told_of s after t.stop told now steps why lines cards job counted none some in
    let after_hopper : after.machine.devices.hopper ≡ now.machine.devices.hopper = ap (λ (x : TapedMachine). x.machine.devices.hopper) is.after_is in
    let mark = same_mark (tape_instruction m.machine) (tape_instruction (taped_emptied s).machine) told t.stop m'.tapes
    after.tapes (sym (law.instruction (taped_emptied s).machine.devices m.machine)) is.found_is
    (sym (ap (λ (x : TapedMachine). x.tapes) is.after_is)) in
    let done : work ≡ work_of (taped_emptied s).machine after.machine
    (mark_after (tape_instruction (taped_emptied s).machine) t.stop after.tapes) =
    e_work
    ∙ same_work _ _ _ _ _ _ _ _ (lies_more PrintLine m.machine.devices.paper after.machine.devices.paper lines is.lines_is)
    (ap (λ (xs : List Card). nat_lt (length xs) (length s.machine.devices.hopper)) (sym after_hopper))
    (lies_more Card m.machine.devices.stacker after.machine.devices.stacker cards is.cards_is) mark in
    let line : line_of (seen_of s.machine) work told now.machine ≡ taped_line (taped_emptied s) t =
    step_line s after now t.stop told work is.after_is is.found_is done in
    let rest : trace_on t.stop after (trace_text k) ≡ rest_traced found (left - steps) now =
    rest_of_trace after now t.stop told found why k left steps e is.after_is is.found_is is.steps_is none some more
    ended in
    ap (λ (n : ℕ). trace_text n s) e
    ∙ ap (λ (text : List ℕ). text ++ trace_on t.stop after (trace_text k)) (sym line)
    ∙ ap (λ (text : List ℕ). line_of (seen_of s.machine) work told now.machine ++ text) rest

-- nothing is traced of no steps
no_trace : (is : Bool) (left : ℕ) (s : TapedMachine) → left ≡ 0 → traced is (trace_text left s) ≡ []
unfolding trace_text
no_trace true left s e = ap (λ (n : ℕ). trace_text n s) e
no_trace false left s e = refl

none_traced : (is : Bool) → traced is [] ≡ []
none_traced true = refl
none_traced false = refl

no_steps : (is : Bool) (left : ℕ) → zero ≡ min left (most_at_once is) → left ≡ 0
no_steps true left e = omega (arith, e)
no_steps false left e = omega (arith, e)

nothing_traced : (is : Bool) (left steps : ℕ) (s now : TapedMachine) (why : Stop) (found : Option Stop)
    → zero ≡ min left (most_at_once is) → (found ≡ None → (why ≡ stop.Limit) × (zero < left))
    → traced is (trace_text left s) ≡ [] ++ traced is (rest_traced found (left - steps) now)
nothing_traced is left steps s now why None e more =
    absurd (omega (arith, no_steps is left e, (more refl).1))
nothing_traced is left steps s now why (Some w) e more =
    no_trace is left s (no_steps is left e) ∙ sym (none_traced is)

-- a line is written after a step
line_after : (n : ℕ) (before : Option Seen) (work : Work) (told : Option Stop) (after : State)
    → lines_after (suc n) before work told after ≡ line_if before work told after
line_after n before work told after =
    let some : (suc n == 0) ≡ false = search arith in
    ap (λ (b : Bool). if b then [] else line_if before work told after) some

one_step : (n left : ℕ) → suc n ≡ min left 1 → (suc n ≡ 1) × (left ≡ suc (left - 1))
one_step n left e = (omega (arith, e), omega (arith, e))

-- a stretch, and what is left of the trace
stretch_whole : TapedStepLaw → (is : Bool) (deck deck' : List Card) (m m' : TapedMachine) (n left steps : ℕ) (why : Stop)
    (told found : Option Stop) (lines : List PrintLine) (cards : List Card) (work : Work)
    → n ≡ min left (most_at_once is)
    → unattended n (taped_with_deck deck m) ≡ job_of (taped_with_deck deck' m') steps why lines cards
    → (why ≡ stop.Limit → steps ≡ n) → (told ≡ None → why ≡ stop.Limit)
    → ((w : Stop) → told ≡ Some w → (w ≡ why) × (why ≢ stop.Limit))
    → (found ≡ None → (why ≡ stop.Limit) × (n < left))
    → ((w : Stop) → found ≡ Some w → (w ≡ why) × ((why ≢ stop.Limit) ⊎ (left ≤ n)))
    → work ≡ work_by (nat_lt (length m.machine.devices.paper) (length lines))
    (nat_lt (length (taped_with_deck deck' m').machine.devices.hopper) (length (taped_with_deck deck m).machine.devices.hopper))
    (nat_lt (length m.machine.devices.stacker) (length cards)) (mark_after (tape_instruction m.machine) told m'.tapes)
    → traced is (trace_text left (taped_with_deck deck m))
    ≡ lines_after n (seen_if is m.machine) work told m'.machine ++ traced is (rest_traced found (left - steps) (taped_with_deck deck' m'))
stretch_whole law is deck deck' m m' zero left steps why told found lines cards work e job counted none some more ended e_work =
    nothing_traced is left steps (taped_with_deck deck m) (taped_with_deck deck' m') why found e more
stretch_whole law false deck deck' m m' (suc n) left steps why told found lines cards work e job counted none some more ended
    e_work = ap (λ (text : List ℕ). text ++ []) (sym (line_after n None work told m'.machine))
stretch_whole law true deck deck' m m' (suc n) left steps why told found lines cards work e job counted none some more ended
    e_work =
    let one : suc n ≡ 1 = (one_step n left e).0 in
    let job_one : unattended 1 (taped_with_deck deck m) ≡ job_of (taped_with_deck deck' m') steps why lines cards =
    ap (λ (k : ℕ). unattended k (taped_with_deck deck m)) (sym one) ∙ job in
    one_traced law deck deck' m m' (left - 1) left steps why told found lines cards work (one_step n left e).1 job_one
    (λ h. counted h ∙ one) none some
    (λ h. ((more h).0, omega (arith, (more h).1, one)))
    (λ w h. (
      (ended w h).0,
      elim (ended w h).1 [
        | inl no_limit ↦ inl no_limit
        | inr last ↦ inr (omega (arith, last, one))
      ],
    )) e_work
    ∙ ap (λ (text : List ℕ). text ++ rest_traced found (left - steps) (taped_with_deck deck' m'))
    (sym (line_after n (Some (seen_of m.machine)) work told m'.machine))

-- the same, from what the stretch collected and what is reported of it
told_with : {n most steps paper still held stacker : ℕ} {why : Stop} {told found : Option Stop}
    {lines0 lines items : List PrintLine} {cards0 cards others : List Card} {next : Option TapeInstruction}
    {tape : Option TapeMark} → TapedStepLaw → (is : Bool) (deck deck' : List Card)
    (m m' : TapedMachine) (left : ℕ) → n ≡ min left most → most ≡ most_at_once is → lines0 ≡ [] → cards0 ≡ []
    → after_output lines0 cards0 0 (unattended n (taped_with_deck deck m)) ≡ job_of (taped_with_deck deck' m') steps why items others
    → lines ≡ items → cards ≡ others → (why ≡ stop.Limit → steps ≡ n) → (told ≡ None → why ≡ stop.Limit)
    → ((w : Stop) → told ≡ Some w → (w ≡ why) × (why ≢ stop.Limit))
    → (found ≡ None → (why ≡ stop.Limit) × (n < left))
    → ((w : Stop) → found ≡ Some w → (w ≡ why) × ((why ≢ stop.Limit) ⊎ (left ≤ n)))
    → paper ≡ length m.machine.devices.paper → still ≡ length (taped_with_deck deck' m').machine.devices.hopper
    → held ≡ length (taped_with_deck deck m).machine.devices.hopper → stacker ≡ length m.machine.devices.stacker
    → next ≡ tape_instruction m.machine → tape ≡ mark_after next told m'.tapes
    → traced is (trace_text left (taped_with_deck deck m))
    ≡ lines_after n (seen_if is m.machine)
    (work_by (nat_lt paper (length lines)) (nat_lt still held) (nat_lt stacker (length cards)) tape) told m'.machine
    ++ traced is (rest_traced found (left - steps) (taped_with_deck deck' m'))
told_with {n} {most} {steps} {paper} {still} {held} {stacker} {why} {told} {found} {lines = lines} {cards = cards} law
    is deck deck' m m' left few most_is no_lines no_cards job lines_are cards_are counted none some more ended paper_is
    still_is held_is stacker_is next_is tape_is =
    stretch_whole law is deck deck' m m' n left steps why told found lines cards _
    (few ∙ ap (λ (k : ℕ). min left k) most_is)
    (ran_part (unattended n (taped_with_deck deck m)) (taped_with_deck deck' m') steps why no_lines no_cards job lines_are cards_are)
    counted none some more ended
    (same_work _ _ _ _ _ _ _ _ (ap (λ (k : ℕ). nat_lt k (length lines)) paper_is)
    (ap (λ (k : ℕ). nat_lt k held) still_is
    ∙ ap (λ (k : ℕ). nat_lt (length (taped_with_deck deck' m').machine.devices.hopper) k) held_is)
    (ap (λ (k : ℕ). nat_lt k (length cards)) stacker_is)
    (tape_is ∙ ap (λ (this : Option TapeInstruction). mark_after this told m'.tapes) next_is))

-- the mark of a tape unit matters to a trace alone
pub stretch_told : {n most steps paper still held stacker : ℕ} {why : Stop} {told found : Option Stop}
    {lines0 lines items : List PrintLine} {cards0 cards others : List Card} {next : Option TapeInstruction}
    {tape : Option TapeMark} → TapedStepLaw → (is : Bool) (deck deck' : List Card)
    (m m' : TapedMachine) (left : ℕ) → n ≡ min left most → most ≡ most_at_once is → lines0 ≡ [] → cards0 ≡ []
    → after_output lines0 cards0 0 (unattended n (taped_with_deck deck m)) ≡ job_of (taped_with_deck deck' m') steps why items others
    → lines ≡ items → cards ≡ others → (why ≡ stop.Limit → steps ≡ n) → (told ≡ None → why ≡ stop.Limit)
    → ((w : Stop) → told ≡ Some w → (w ≡ why) × (why ≢ stop.Limit))
    → (found ≡ None → (why ≡ stop.Limit) × (n < left))
    → ((w : Stop) → found ≡ Some w → (w ≡ why) × ((why ≢ stop.Limit) ⊎ (left ≤ n)))
    → paper ≡ length m.machine.devices.paper → still ≡ length (taped_with_deck deck' m').machine.devices.hopper
    → held ≡ length (taped_with_deck deck m).machine.devices.hopper → stacker ≡ length m.machine.devices.stacker
    → next ≡ tape_instruction m.machine → (is ≡ true → tape ≡ mark_after next told m'.tapes)
    → traced is (trace_text left (taped_with_deck deck m))
    ≡ lines_after n (seen_if is m.machine)
    (work_by (nat_lt paper (length lines)) (nat_lt still held) (nat_lt stacker (length cards)) tape) told m'.machine
    ++ traced is (rest_traced found (left - steps) (taped_with_deck deck' m'))
stretch_told {told = told} {next = next} law true deck deck' m m' left few most_is no_lines no_cards job lines_are
    cards_are counted none some more ended paper_is still_is held_is stacker_is next_is tape_is =
    told_with law true deck deck' m m' left few most_is no_lines no_cards job lines_are cards_are counted none some more
    ended paper_is still_is held_is stacker_is next_is (tape_is refl)
stretch_told {told = told} {next = next} law false deck deck' m m' left few most_is no_lines no_cards job lines_are
    cards_are counted none some more ended paper_is still_is held_is stacker_is next_is tape_is =
    told_with {tape = mark_after next told m'.tapes} law false deck deck' m m' left few most_is no_lines no_cards job
    lines_are cards_are counted none some more ended paper_is still_is held_is stacker_is next_is refl

-- a stretch that doesn't end the job has steps
pub some_limit : (is : Bool) (n left most : ℕ) → n ≡ min left most → most ≡ most_at_once is → n < left → 0 < n
some_limit true n left most e e_most more = omega (arith, e, e_most, more)
some_limit false n left most e e_most more = omega (arith, e, e_most, more)

-- core storage has the size that was seen
pub of_size : (is : Bool) (before : Option Seen) (s s' : State) → before ≡ seen_if is s
    → length s'.storage ≡ length s.storage → IsOfSize before s'
of_size true before s s' e same = subst (λ (each : Option Seen). IsOfSize each s') (sym e) (sym same)
of_size false before s s' e same = subst (λ (each : Option Seen). IsOfSize each s') (sym e) tt

seen_is : (is : Bool) (s : State) → is_some (seen_if is s) ≡ is
seen_is true s = refl
seen_is false s = refl

-- something was seen of the machine exactly if there is a trace
pub is_seen : {seen : Option Seen} (is : Bool) (s : State) → seen ≡ seen_if is s → is_some seen ≡ is
is_seen is s e = ap (λ (before : Option Seen). is_some before) e ∙ seen_is is s

-- how far the trace is
pub record TraceSoFar (is : Bool) (limit left : ℕ) (start now : TapedMachine) (first at : Option (List ℕ)) : Type 0 where
  pub lines : List ℕ
  pub written : Appends first at lines
  pub whole : traced is (trace_text limit start) ≡ lines ++ traced is (trace_text left now)

pub trace_at_first : (is : Bool) (limit : ℕ) (start : TapedMachine) (first at : Option (List ℕ)) → at ≡ first
    → TraceSoFar is limit limit start start first at
trace_at_first is limit start first at e = record {
  lines = [];
  written = subst (λ (x : Option (List ℕ)). Appends first x []) (sym e) (Appends-nil first);
  whole = refl;
}

-- how far it is after a stretch
record TraceGrown (is : Bool) (limit left steps : ℕ) (found : Option Stop) (start after : TapedMachine)
    (first new : Option (List ℕ)) : Type 0 where
  lines : List ℕ
  written : Appends first new lines
  whole : traced is (trace_text limit start) ≡ lines ++ traced is (rest_traced found (left - steps) after)

trace_grown : {seen : Option Seen} {is : Bool} {limit left steps : ℕ} {found : Option Stop} {start now after : TapedMachine}
    {first at new : Option (List ℕ)} (s : State) → seen ≡ seen_if is s
    → TraceSoFar is limit left start now first at → TracedStretch (is_some seen) left steps found now after at new
    → TraceGrown is limit left steps found start after first new
trace_grown {is = is} {left = left} {steps} {found} {now = now} {after} {first} {at} {new} s e so_far traced_stretch =
    let stretch : TracedStretch is left steps found now after at new =
    subst (λ (each : Bool). TracedStretch each left steps found now after at new) (is_seen is s e) traced_stretch in
    record {
      lines = so_far.lines ++ stretch.lines;
      written = Appends-trans first at new so_far.lines stretch.lines so_far.written stretch.written;
      whole = so_far.whole
          ∙ ap (λ (text : List ℕ). so_far.lines ++ text) stretch.whole
          ∙ sym (append_assoc so_far.lines stretch.lines (traced is (rest_traced found (left - steps) after)));
    }

pub trace_goes_on : {seen : Option Seen} {is : Bool} {limit left steps : ℕ} {found : Option Stop}
    {start now after : TapedMachine} {first at new : Option (List ℕ)} (s : State) → seen ≡ seen_if is s
    → TraceSoFar is limit left start now first at → TracedStretch (is_some seen) left steps found now after at new
    → found ≡ None → TraceSoFar is limit (left - steps) start after first new
trace_goes_on {is = is} {left = left} {steps} {after = after} s e so_far stretch none =
    let all = trace_grown s e so_far stretch in
    record {
      lines = all.lines;
      written = all.written;
      whole = all.whole
          ∙ ap (λ (end : Option Stop). all.lines ++ traced is (rest_traced end (left - steps) after)) none;
    }

pub all_traced : {seen : Option Seen} {is : Bool} {limit left steps : ℕ} {found : Option Stop} {why : Stop}
    {start now after : TapedMachine} {first at new : Option (List ℕ)} (s : State) → seen ≡ seen_if is s
    → TraceSoFar is limit left start now first at → TracedStretch (is_some seen) left steps found now after at new
    → found ≡ Some why → Appends first new (traced is (trace_text limit start))
all_traced {is = is} {limit} {left} {steps} {start = start} {after = after} {first} {new = new} s e so_far stretch some =
    let all = trace_grown s e so_far stretch in
    let whole : traced is (trace_text limit start) ≡ all.lines =
    all.whole
    ∙ ap (λ (end : Option Stop). all.lines ++ traced is (rest_traced end (left - steps) after)) some
    ∙ ap (λ (text : List ℕ). all.lines ++ text) (none_traced is)
    ∙ append-nil all.lines in
    subst (Appends first new) (sym whole) all.written

-- a stretch that broke off
pub trace_part : {seen : Option Seen} {is : Bool} {limit left : ℕ} {start now : TapedMachine} {first at : Option (List ℕ)}
    (s : State) (new : Option (List ℕ)) → seen ≡ seen_if is s
    → TraceSoFar is limit left start now first at → AppendsPart at new (traced (is_some seen) (trace_text left now))
    → AppendsPart first new (traced is (trace_text limit start))
trace_part {is = is} {limit} {left} {start} {now} {first} {at} s new e so_far part =
    part_beyond first at new so_far.lines (traced is (trace_text left now)) (traced is (trace_text limit start))
    so_far.whole so_far.written
    (subst (λ (each : Bool). AppendsPart at new (traced each (trace_text left now))) (is_seen is s e) part)

-- a line that wasn't written whole
pub line_part : (is : Bool) (limit steps : ℕ) (found : Option Stop) (s now : TapedMachine) (old new : Option (List ℕ))
    (text : List ℕ) → traced is (trace_text limit s) ≡ text ++ traced is (rest_traced found (limit - steps) now)
    → AppendsPart old new text → AppendsPart old new (traced is (trace_text limit s))
line_part is limit steps found s now old new text whole part =
    part_of_longer old new text (traced is (rest_traced found (limit - steps) now)) (traced is (trace_text limit s)) whole part
