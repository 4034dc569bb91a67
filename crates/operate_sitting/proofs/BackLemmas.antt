-- A journal without its last instructions: what it carries out, and what is gone from it.
use Rattle.std.proofs.Common.{◌≡◌, ℕ, ◌+◌, ◌-◌, ◌<◌, ◌≤◌, zero, suc, Bool, true, false, List, [], ◌∷◌, ◌++◌, length, map}
use Rattle.std.proofs.Common.{take, refl, sym, ◌∙◌, ap, subst, arith, length-append}
use Rattle.std.proofs.Math.Seq.{take-append-add}
use Rattle.std.proofs.lemmas.Bool.Decides.{nat_tests}
use Rattle.std.proofs.lemmas.List.{length-take-le, take-append-le}
use Rattle.std.specs.Prelude.{if◌then◌else◌, nat_le}
use Rattle.cpu_1401.specs.State.{State, power_on}
use Rattle.machine_commands.specs.declared.answer.Answer.{Answer}
use Rattle.cpu_1401.specs.CarryOut.{carry_out}
use Rattle.room_alone.specs.declared.entry.Entry.{Entry}
use Rattle.room_alone.specs.declared.entry.SeatedCommand.{SeatedCommand}
use Rattle.room_alone.specs.Journal.{IsLegal, answer_in, pair_of, pairs_of, state_of}
use Rattle.room_alone.specs.Replay.{answers_after, pair, state_after}
use Rattle.operate_sitting.specs.Back.{first_of, gone_from, gone_of, instructions_of, part_of, rest_of, steps_in}
use Rattle.operate_sitting.specs.Machines.{machines_after, machines_by, machines_of}
use Rattle.operate_sitting.proofs.CutLemmas.{count_by, cut_by}

-- What these first commands and those that are gone have to do with a journal whose first instructions are left, from a
-- machine on.
pub record IsBack (left : ℕ) (s : State) (journal : List Entry) (first gone : List SeatedCommand) : Type 0 where
  pub count : length (machines_after s (pairs_of journal)) ≡ instructions_of journal
  pub machines : machines_after s first ≡ take left (machines_after s (pairs_of journal))
  pub state : state_after (state_after s first) gone ≡ state_after s (pairs_of journal)
  pub by : left ≤ instructions_of journal
      → left + length (machines_after (state_after s first) gone) ≡ instructions_of journal

-- what is gone comes after an entry that stays whole
gone_later : (left k rest gone : ℕ) → k ≤ left → (left - k ≤ rest → left - k + gone ≡ rest) → left ≤ k + rest
    → left + gone ≡ k + rest
gone_later left k rest gone few by enough =
    let later : left - k + gone ≡ rest = by (omega (arith, few, enough)) in omega (arith, later, few)

-- the first entry stays whole (true), or is cut
back_on : (whole : Bool) (left : ℕ) (s : State) (e : Entry) (es : List Entry)
    → nat_le (steps_in e.answer) left ≡ whole → e.answer ≡ (carry_out s e.command).answer
    → ((n : ℕ) → IsBack n (carry_out s e.command).state es (first_of n es) (gone_of n es))
    → IsBack left s (e ∷ es)
    (if whole then pair_of e ∷ first_of (left - steps_in e.answer) es else part_of e.seat left)
    (if whole then gone_of (left - steps_in e.answer) es else pair e.seat (rest_of left e.command) ∷ pairs_of es)
back_on true left s e es fits same more =
    let k : ℕ = steps_in e.answer in
    let t : State = (carry_out s e.command).state in
    let m = more (left - k) in
    let few : k ≤ left = grind (arith, nat_tests, fits) in
    let first : List State = machines_by s e.command in
    let rest : List State = machines_after t (pairs_of es) in
    let one : length first ≡ k = count_by s e.command ∙ ap steps_in (sym same) in
    let all : length first + (left - k) ≡ left = omega (arith, one, few) in
    let total : length first + length rest ≡ k + instructions_of es = omega (arith, one, m.count) in
    let gone : ℕ = length (machines_after (state_after t (first_of (left - k) es)) (gone_of (left - k) es)) in
    record {
      count = length-append first rest ∙ total;
      machines =
          ap (λ (ms : List State). first ++ ms) m.machines
          ∙ sym (take-append-add first rest (left - k))
          ∙ ap (λ n. take n (first ++ rest)) all;
      state = m.state;
      by = gone_later left k (instructions_of es) gone few m.by;
    }
back_on false left s e es fits same more =
    let k : ℕ = steps_in e.answer in
    let t : State = (carry_out s e.command).state in
    let few : left < k = grind (arith, nat_tests, fits) in
    let first : List State = machines_by s e.command in
    let rest : List State = machines_after t (pairs_of es) in
    let one : length first ≡ k = count_by s e.command ∙ ap steps_in (sym same) in
    let total : length first + length rest ≡ k + instructions_of es = omega (arith, one, (more 0).count) in
    let cut = cut_by left e.seat s e.command (omega (arith, one, few)) in
    let u : State = state_after s (part_of e.seat left) in
    let v : State = (carry_out u (rest_of left e.command)).state in
    let after : List State = machines_by u (rest_of left e.command) in
    let later : List State = machines_after v (pairs_of es) in
    let same_rest : length later ≡ length rest =
    ap (λ s'. length (machines_after s' (pairs_of es))) cut.state in
    let gone : left + length (after ++ later) ≡ k + instructions_of es =
    omega (arith, length-append after later, same_rest, cut.count, total) in
    record {
      count = length-append first rest ∙ total;
      machines = cut.machines ∙ sym (take-append-le left first rest (omega (arith, one, few)));
      state = ap (λ s'. state_after s' (pairs_of es)) cut.state;
      by = λ enough. gone;
    }

-- the answers of a list that isn't empty
abbrev tail_of : List Answer → List Answer
tail_of [] = []
tail_of (answer ∷ answers) = answers

abbrev head_or : Answer → List Answer → Answer
head_or other [] = other
head_or other (answer ∷ answers) = answer

none_left : (n : ℕ) → suc n ≤ 0 → ⊥
none_left n less = omega (arith, less)

-- the empty journal
nothing_back : (left : ℕ) (s : State) → IsBack left s [] [] []
nothing_back zero s = record { count = refl; machines = refl; state = refl; by = λ enough. refl }
nothing_back (suc left) s = record {
  count = refl;
  machines = refl;
  state = refl;
  by = λ enough. absurd (none_left left enough);
}

-- each legal journal
pub is_back : (left : ℕ) (s : State) (journal : List Entry) → map answer_in journal ≡ answers_after s (pairs_of journal)
    → IsBack left s journal (first_of left journal) (gone_of left journal)
is_back left s [] legal = nothing_back left s
is_back left s (e ∷ es) legal =
    back_on (nat_le (steps_in e.answer) left) left s e es refl (ap (head_or e.answer) legal)
    (λ n. is_back n (carry_out s e.command).state es (ap tail_of legal))

-- A journal that is n instructions shorter, on machines of these sizes.
pub record WentBack (size size' n : ℕ) (journal new : List Entry) : Type 0 where
  pub instructions : instructions_of new + n ≡ instructions_of journal
  pub machines : machines_of size' new ≡ take (instructions_of new) (machines_of size journal)
  pub gone : state_after (state_of size' new) (gone_from n journal) ≡ state_of size journal
  pub by : length (machines_after (state_of size' new) (gone_from n journal)) ≡ n

back_alike : (size n : ℕ) (journal new : List Entry) → IsLegal size journal → IsLegal size new
    → n ≤ instructions_of journal → pairs_of new ≡ first_of (instructions_of journal - n) journal
    → WentBack size size n journal new
back_alike size n journal new legal legal' enough is =
    let left : ℕ = instructions_of journal - n in
    let s : State = power_on size in
    let b = is_back left s journal legal in
    let few : left ≤ instructions_of journal = omega arith in
    let machines : machines_of size new ≡ take left (machines_of size journal) =
    ap (λ (pairs : List SeatedCommand). machines_after s pairs) is ∙ b.machines in
    let count : length (machines_of size new) ≡ instructions_of new = (is_back 0 s new legal').count in
    let whole : length (machines_of size journal) ≡ instructions_of journal = b.count in
    let taken : length (take left (machines_of size journal)) ≡ left =
    length-take-le left (machines_of size journal) (omega (arith, whole, few)) in
    let now : instructions_of new ≡ left = sym count ∙ ap length machines ∙ taken in
    let there : state_of size new ≡ state_after s (first_of left journal) =
    ap (λ (pairs : List SeatedCommand). state_after s pairs) is in
    let by : left + length (machines_after (state_after s (first_of left journal)) (gone_from n journal))
    ≡ instructions_of journal = b.by few in
    let same : length (machines_after (state_of size new) (gone_from n journal))
    ≡ length (machines_after (state_after s (first_of left journal)) (gone_from n journal)) =
    ap (λ t. length (machines_after t (gone_from n journal))) there in
    record {
      instructions = omega (arith, now, enough);
      machines = machines ∙ ap (λ k. take k (machines_of size journal)) (sym now);
      gone = ap (λ t. state_after t (gone_from n journal)) there ∙ b.state;
      by = omega (arith, by, same, enough);
    }

pub went_back : (size size' n : ℕ) (journal new : List Entry) → size' ≡ size → IsLegal size journal
    → IsLegal size' new → n ≤ instructions_of journal
    → pairs_of new ≡ first_of (instructions_of journal - n) journal → WentBack size size' n journal new
went_back size size' n journal new same legal legal' enough is =
    subst (λ k. WentBack size k n journal new) (sym same)
    (back_alike size n journal new legal (subst (λ k. IsLegal k new) same legal') enough is)
