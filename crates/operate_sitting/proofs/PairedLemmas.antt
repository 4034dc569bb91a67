-- The scout and the room's machine stay one.
use Rattle.std.proofs.Common.{◌≡◌, ℕ, ◌<◌, ◌≤◌, Bool, List, [], ◌∷◌, ◌++◌, sym, ◌∙◌, ap, subst}
use Rattle.cpu_1401.specs.Run.{most_steps}
use Rattle.cpu_1401.specs.State.{State}
use Rattle.machine_commands.specs.declared.answer.Answer.{Answer}
use Rattle.machine_commands.specs.declared.command.Command.{Command}
use Rattle.machine_commands.specs.declared.command.Command.TheVariants.{Run}
use Rattle.cpu_1401.specs.CarryOut.{Carried, carry_out}
use Rattle.room_alone.specs.declared.entry.Entry.{Entry}
use Rattle.room_alone.specs.Journal.{answer_to, entry, state_of}
use Rattle.room_alone.proofs.ReplayLemmas.{state_of-append}
use Rattle.operate_sitting.specs.declared.search.Found.{Found}
use Rattle.operate_sitting.specs.RunOf.{answer_of, run_of}
use Rattle.operate_sitting.specs.Search.{Searched, limit_of, search}
use Rattle.operate_sitting.proofs.RunOfFoundLemmas.{run_of_found}

-- a command that both carried out
pub scout_after : (size size' : ℕ) (journal journal' : List Entry) (command : Command) (answer : Answer)
    (scout next : State) → scout ≡ state_of size journal → next ≡ (carry_out scout command).state
    → journal' ≡ journal ++ entry 0 command answer ∷ [] → size' ≡ size → next ≡ state_of size' journal'
scout_after size size' journal journal' command answer scout next before after recorded size_is =
    after
    ∙ ap (λ (s : State). (carry_out s command).state) before
    ∙ sym (state_of-append size journal (entry 0 command answer))
    ∙ ap (λ (j : List Entry). state_of size j) (sym recorded)
    ∙ ap (λ n. state_of n journal') (sym size_is)

-- The run of a scout's search, at the room whose machine the scout was: it comes to the scout, and is answered with
-- what the scout found.
pub record DoesAlike (size : ℕ) (journal : List Entry) (limit : ℕ) (next : State) (found : Found) : Type 0 where
  pub state : next ≡ (carry_out (state_of size journal) (Run limit)).state
  pub answer : answer_of found next ≡ answer_to size journal (Run limit)

-- the room first made room for an entry
pub does_alike : (M : Type 0) (seen : M → State → M) (is_met : M → Bool) (most : ℕ) (m m' : M) (size middle : ℕ)
    (before between : List Entry) (scout next : State) (found : Found) (limit : ℕ)
    → 0 < most → most ≤ most_steps → scout ≡ state_of size before
    → search seen is_met most m scout ≡ record { state = next; memory = m'; found = found }
    → limit ≡ limit_of found → middle ≡ size → between ≡ before → DoesAlike middle between limit next found
does_alike M seen is_met most m m' size middle before between scout next found limit some few scout_is found_is limit_is
    middle_is between_is =
    let at : State = state_of middle between in
    let there : at ≡ scout =
    ap (λ n. state_of n between) middle_is
    ∙ ap (λ (j : List Entry). state_of size j) between_is
    ∙ sym scout_is in
    let at_scout : carry_out scout (run_of found) ≡ record { state = next; answer = answer_of found next } =
    subst (λ (done : Searched M). carry_out scout (run_of done.found)
    ≡ record { state = done.state; answer = answer_of done.found done.state }) found_is
    (run_of_found M seen is_met most m scout some few) in
    let at_room : carry_out at (Run limit) ≡ record { state = next; answer = answer_of found next } =
    ap (λ k. carry_out at (Run k)) limit_is ∙ ap (λ s. carry_out s (run_of found)) there ∙ at_scout in
    record {
      state = sym (ap (λ (carried : Carried). carried.state) at_room);
      answer = sym (ap (λ (carried : Carried). carried.answer) at_room);
    }
