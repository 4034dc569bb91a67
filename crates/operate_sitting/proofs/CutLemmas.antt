-- A run that is cut: its first instructions by themselves, and the rest of it after them.
use Rattle.std.proofs.Common.{◌≡◌, ℕ, ◌+◌, ◌-◌, ◌<◌, ◌≤◌, ◌==◌, ◌&&◌, zero, suc, Bool, true, false, Option, None, Some}
use Rattle.std.proofs.Common.{List, [], ◌∷◌, length, take, refl, sym, ◌∙◌, ap, subst, arith}
use Rattle.std.proofs.lemmas.Bool.{le-leb}
use Rattle.std.proofs.lemmas.Bool.Decides.{nat_tests}
use Rattle.std.proofs.lemmas.List.{append-nil}
use Rattle.std.specs.Prelude.{if◌then◌else◌, nat_le}
use Rattle.core_1401.specs.Cells.{most_cells}
use Rattle.core_1401.specs.Storage.{is_in_core}
use Rattle.machine_tables.specs.declared.stop.Stop.{Stop}
use Rattle.machine_tables.specs.declared.stop.Stop.TheVariants as stop
use Rattle.cpu_1401.specs.CardsAndPrinter.{load, with_devices}
use Rattle.cpu_1401.specs.Run.{Finished, carried_out_by, most_steps, one_more, run_for, run_on}
use Rattle.cpu_1401.specs.State.{State}
use Rattle.cpu_1401.specs.Fitting.{fitted_step}
use Rattle.cpu_1401.proofs.RunLemmas.{after_steps, nothing_yet}
use Rattle.devices_1401.specs.Devices.{fed, is_full}
use Rattle.devices_1401.specs.declared.card.Card.{Card}
use Rattle.devices_1401.specs.declared.print_line.PrintLine.{PrintLine}
use Rattle.machine_commands.specs.declared.answer.Answer.{Answer}
use Rattle.machine_commands.specs.declared.answer.Answer.TheVariants.{Cells, Refused}
use Rattle.machine_commands.specs.declared.answer.Refusal.TheVariants.{Address, Hopper, Reader, Limit, Count}
use Rattle.machine_commands.specs.declared.command.Command.{Command}
use Rattle.machine_commands.specs.declared.command.Command.TheVariants as command
use Rattle.cpu_1401.specs.CarryOut.{Carried, are_in_core, carry_out, change_to, deposited, examined}
use Rattle.cpu_1401.specs.CarryOut.{oldest_card, oldest_line, refuse, run_answer, show_cells}
use Rattle.room_alone.specs.Replay.{state_after}
use Rattle.operate_sitting.specs.declared.search.SearchEnd.TheVariants as end
use Rattle.operate_sitting.proofs.LimitLemmas.{limit_is_one, steps_within}
use Rattle.operate_sitting.specs.Back.{part_of, rest_of, steps_in}
use Rattle.operate_sitting.specs.Machines.{machines_after, machines_by, machines_for, machines_on}

-- a step that stops the machine carries out one instruction at most
one_at_most : (why : Stop) → carried_out_by why ≤ 1
one_at_most why = omega (arith, steps_within (carried_out_by why) (end.Stop why), limit_is_one why)

-- A run that carries out more instructions than this many, cut after them.
pub record Cut (left limit : ℕ) (s : State) : Type 0 where
  pub steps_is : (run_for left s).steps ≡ left
  pub joined : run_for limit s ≡ after_steps left (run_for (limit - left) (run_for left s).state)
  pub machines : machines_for left s ≡ take left (machines_for limit s)
  pub within : left < limit

-- a run from a step on, which had this stop and left this machine
abbrev from : Option Stop → ℕ → State → Finished
from o limit t = run_on (record { state = t; stop = o }) (run_for limit t)

record CutOn (o : Option Stop) (left limit : ℕ) (t : State) : Type 0 where
  steps_is : (from o left t).steps ≡ suc left
  joined : from o limit t ≡ after_steps (suc left) (run_for (suc limit - suc left) (from o left t).state)
  machines : machines_on t o (machines_for left t) ≡ take (suc left) (machines_on t o (machines_for limit t))
  within : suc left < suc limit

-- the same run, counted otherwise
counted : (run : Finished) (m n : ℕ) → m ≡ n
    → (let x : Finished = record { state = run.state; steps = m; stop = run.stop } in x)
    ≡ record { state = run.state; steps = n; stop = run.stop }
counted run m n e = ap (λ k. let x : Finished = record { state = run.state; steps = k; stop = run.stop } in x) e

cut_on : (o : Option Stop) (left limit : ℕ) (t : State) → (left < (run_for limit t).steps → Cut left limit t)
    → suc left < (from o limit t).steps → CutOn o left limit t
cut_on None left limit t cut more =
    let c = cut (omega arith) in
    let rest = run_for (limit - left) (run_for left t).state in
    let fewer : limit - left ≡ suc limit - suc left = omega arith in
    record {
      steps_is = omega (arith, c.steps_is);
      joined =
          ap one_more c.joined
          ∙ counted rest (left + rest.steps + 1) (suc left + rest.steps) (omega arith)
          ∙ ap (λ k. after_steps (suc left) (run_for k (run_for left t).state)) fewer;
      machines = ap (λ (ms : List State). t ∷ ms) c.machines;
      within = omega (arith, c.within);
    }
cut_on (Some why) left limit t cut more = absurd (omega (arith, one_at_most why))

-- each run that carries out more instructions than this many
pub cut_run : (left limit : ℕ) (s : State) → left < (run_for limit s).steps → Cut left limit s
unfolding run_for machines_for
cut_run zero zero s more = absurd (omega arith)
cut_run zero (suc limit) s more = record {
  steps_is = refl;
  joined = (nothing_yet (suc limit) s).whole;
  machines = refl;
  within = omega arith;
}
cut_run (suc left) zero s more = absurd (omega arith)
cut_run (suc left) (suc limit) s more =
    let t = (fitted_step s).state in
    let c = cut_on (fitted_step s).stop left limit t (cut_run left limit t) more in
    record { steps_is = c.steps_is; joined = c.joined; machines = c.machines; within = c.within }

-- as many machines as instructions
count_stopped : (why : Stop) (t : State) → length (machines_on t (Some why) []) ≡ carried_out_by why
count_stopped stop.Halt t = refl
count_stopped stop.Limit t = refl
count_stopped stop.Reader t = refl
count_stopped stop.Forms t = refl
count_stopped stop.Stacker t = refl
count_stopped stop.NoMark t = refl
count_stopped stop.OpCode t = refl
count_stopped stop.Length t = refl
count_stopped stop.Address t = refl
count_stopped stop.Overlap t = refl
count_stopped stop.Carriage t = refl
count_stopped stop.NotFitted t = refl
count_stopped stop.DChar t = refl
count_stopped stop.Tape t = refl

count_on : (o : Option Stop) (limit : ℕ) (t : State) → length (machines_for limit t) ≡ (run_for limit t).steps
    → length (machines_on t o (machines_for limit t)) ≡ (from o limit t).steps
count_on None limit t same = omega (arith, same)
count_on (Some why) limit t same = count_stopped why t

pub count_run : (limit : ℕ) (s : State) → length (machines_for limit s) ≡ (run_for limit s).steps
unfolding run_for machines_for
count_run zero s = refl
count_run (suc limit) s =
    let t = (fitted_step s).state in count_on (fitted_step s).stop limit t (count_run limit t)

-- the machines of a run, if its limit isn't refused
abbrev machines_if : Bool → ℕ → State → List State
machines_if b limit s = if b then machines_for limit s else []

count_if : (b : Bool) (limit : ℕ) (s : State)
    → length (machines_if b limit s)
    ≡ steps_in (if b then run_answer (run_for limit s) else refuse Limit s).answer
count_if true limit s = count_run limit s
count_if false limit s = refl

-- no command but a run is answered with steps
none_if : (b : Bool) (c d : Carried) → steps_in c.answer ≡ 0 → steps_in d.answer ≡ 0
    → 0 ≡ steps_in (if b then c else d).answer
none_if true c d none none' = sym none
none_if false c d none none' = sym none'

none_answer_if : (b : Bool) (a a' : Answer) → steps_in a ≡ 0 → steps_in a' ≡ 0 → steps_in (if b then a else a') ≡ 0
none_answer_if true a a' none none' = none
none_answer_if false a a' none none' = none'

none_by_line : (lines : List PrintLine) (s : State) → 0 ≡ steps_in (oldest_line lines s).answer
none_by_line [] s = refl
none_by_line (line ∷ lines) s = refl

none_by_card : (cards : List Card) (s : State) → 0 ≡ steps_in (oldest_card cards s).answer
none_by_card [] s = refl
none_by_card (card ∷ cards) s = refl

-- a command has as many machines as its answer reports steps
pub count_by : (s : State) (c : Command) → length (machines_by s c) ≡ steps_in (carry_out s c).answer
unfolding carry_out
count_by s (command.Deposit address cells) =
    none_if (are_in_core s.storage address (length cells))
    (change_to (record s { storage = deposited s.storage address cells })) (refuse Address s) refl refl
count_by s (command.Examine address count) =
    sym (none_answer_if (nat_le 1 count && nat_le count most_cells) (show_cells s.storage address count) (Refused Count)
    (none_answer_if (are_in_core s.storage address count) (Cells (examined s.storage address count)) (Refused Address)
    refl refl) refl)
count_by s command.Registers = refl
count_by s (command.SetI address) =
    none_if (is_in_core s.storage address) (change_to (record s { i = address })) (refuse Address s) refl refl
count_by s (command.Switch n on) = refl
count_by s (command.Feed card) =
    none_if (is_full s.devices.hopper) (refuse Hopper s) (change_to (with_devices (fed s.devices card) s)) refl refl
count_by s command.LoadKey =
    none_if (length s.devices.hopper == 0) (refuse Reader s) (change_to (load s)) refl refl
count_by s (command.Run limit) = count_if (nat_le 1 limit && nat_le limit most_steps) limit s
count_by s command.TakeLine = none_by_line s.devices.paper s
count_by s command.TakeCard = none_by_card s.devices.stacker s
count_by s (command.Fit features) = refl

-- a run whose limit isn't refused
run_carried : (n : ℕ) (s : State) → 1 ≤ n → n ≤ most_steps
    → carry_out s (command.Run n) ≡ run_answer (run_for n s)
unfolding carry_out
run_carried n s least most =
    let run = run_answer (run_for n s) in
    ap (λ (b : Bool). if b && nat_le n most_steps then run else refuse Limit s) (le-leb 1 n least)
    ∙ ap (λ (b : Bool). if b then run else refuse Limit s) (le-leb n most_steps most)

run_machines : (n : ℕ) (s : State) → 1 ≤ n → n ≤ most_steps → machines_by s (command.Run n) ≡ machines_for n s
run_machines n s least most =
    ap (λ (b : Bool). machines_if (b && nat_le n most_steps) n s) (le-leb 1 n least)
    ∙ ap (λ (b : Bool). machines_if b n s) (le-leb n most_steps most)

-- A command that carries out more instructions than this many, cut after them.
pub record CutBy (left seat : ℕ) (s : State) (c : Command) : Type 0 where
  pub machines : machines_after s (part_of seat left) ≡ take left (machines_by s c)
  pub state : (carry_out (state_after s (part_of seat left)) (rest_of left c)).state ≡ (carry_out s c).state
  pub count : left + length (machines_by (state_after s (part_of seat left)) (rest_of left c)) ≡ length (machines_by s c)

-- a run, whose limit isn't refused
cut_run_by : (left seat limit : ℕ) (s : State) → limit ≤ most_steps → left < (run_for limit s).steps
    → CutBy left seat s (command.Run limit)
cut_run_by zero seat limit s most more =
    let all : limit - 0 ≡ limit = omega arith in
    let same : length (machines_by s (command.Run (limit - 0))) ≡ length (machines_by s (command.Run limit)) =
    ap (λ k. length (machines_by s (command.Run k))) all in
    record {
      machines = refl;
      state = ap (λ k. (carry_out s (command.Run k)).state) all;
      count = omega (arith, same);
    }
cut_run_by (suc left) seat limit s most more =
    let c = cut_run (suc left) limit s more in
    let within : suc left < limit = c.within in
    let k : ℕ = limit - suc left in
    let u : State = (carry_out s (command.Run (suc left))).state in
    let v : State = (run_for (suc left) s).state in
    let there : u ≡ v =
    ap (λ (done : Carried). done.state)
    (run_carried (suc left) s (omega arith) (omega (arith, within, most))) in
    let whole : machines_by s (command.Run limit) ≡ machines_for limit s =
    run_machines limit s (omega (arith, within)) most in
    let part : machines_by s (command.Run (suc left)) ≡ machines_for (suc left) s =
    run_machines (suc left) s (omega arith) (omega (arith, within, most)) in
    let rest : machines_by u (command.Run k) ≡ machines_for k u =
    run_machines k u (omega (arith, within)) (omega (arith, most)) in
    let whole_count : length (machines_by s (command.Run limit)) ≡ (run_for limit s).steps =
    ap length whole ∙ count_run limit s in
    let rest_count : length (machines_by u (command.Run k)) ≡ (run_for k v).steps =
    ap length rest ∙ count_run k u ∙ ap (λ t. (run_for k t).steps) there in
    let joined : (run_for limit s).steps ≡ suc left + (run_for k v).steps =
    ap (λ (r : Finished). r.steps) c.joined in
    record {
      machines =
          append-nil (machines_by s (command.Run (suc left)))
          ∙ part
          ∙ c.machines
          ∙ ap (λ (ms : List State). take (suc left) ms) (sym whole);
      state =
          ap (λ (done : Carried). done.state) (run_carried k u (omega (arith, within)) (omega (arith, most)))
          ∙ ap (λ t. (run_for k t).state) there
          ∙ sym (ap (λ (r : Finished). r.state) c.joined)
          ∙ sym (ap (λ (done : Carried). done.state) (run_carried limit s (omega (arith, within)) most));
      count = omega (arith, whole_count, rest_count, joined);
    }

below_zero : (n : ℕ) → n < 0 → ⊥
below_zero n less = omega (arith, less)

and_right : (a b : Bool) → (a && b) ≡ true → b ≡ true
and_right true b h = h
and_right false b h = absurd cc

-- the limit of a run that carries out an instruction
not_refused : (b : Bool) (limit left : ℕ) (s : State) → left < length (machines_if b limit s)
    → (b ≡ true) × (left < (run_for limit s).steps)
not_refused true limit left s more =
    (refl, subst (λ n. left < n) (count_run limit s) more)
not_refused false limit left s more = absurd (below_zero left more)

-- each command that carries out more instructions than this many
pub cut_by : (left seat : ℕ) (s : State) (c : Command) → left < length (machines_by s c) → CutBy left seat s c
cut_by left seat s (command.Run limit) more =
    let fits = not_refused (nat_le 1 limit && nat_le limit most_steps) limit left s more in
    let most : nat_le limit most_steps ≡ true = and_right (nat_le 1 limit) (nat_le limit most_steps) fits.0 in
    let within : limit ≤ most_steps = grind (arith, nat_tests, most) in
    cut_run_by left seat limit s within fits.1
cut_by left seat s (command.Deposit address cells) more = absurd (below_zero left more)
cut_by left seat s (command.Examine address count) more = absurd (below_zero left more)
cut_by left seat s command.Registers more = absurd (below_zero left more)
cut_by left seat s (command.SetI address) more = absurd (below_zero left more)
cut_by left seat s (command.Switch n on) more = absurd (below_zero left more)
cut_by left seat s (command.Feed card) more = absurd (below_zero left more)
cut_by left seat s command.LoadKey more = absurd (below_zero left more)
cut_by left seat s command.TakeLine more = absurd (below_zero left more)
cut_by left seat s command.TakeCard more = absurd (below_zero left more)
cut_by left seat s (command.Fit features) more = absurd (below_zero left more)
