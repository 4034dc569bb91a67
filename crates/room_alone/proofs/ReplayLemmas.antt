-- One command more, and the journal with it.
use Rattle.std.proofs.Common.{◌≡◌, ℕ, suc, List, [], ◌∷◌, ◌++◌, ◌<◌, length}
use Rattle.std.proofs.Common.{refl, ap, sym, ◌∙◌, subst, arith, length-append}
use Rattle.std.proofs.lemmas.List.{map_push}
use Rattle.cpu_1401.specs.State.{State, power_on}
use Rattle.machine_commands.specs.declared.answer.Answer.{Answer}
use Rattle.machine_commands.specs.declared.command.Command.{Command}
use Rattle.room_alone.specs.declared.entry.Entry.{Entry}
use Rattle.room_alone.specs.declared.entry.SeatedCommand.{SeatedCommand}
use Rattle.room_alone.specs.Account.{IsExplained}
use Rattle.cpu_1401.specs.CarryOut.{carry_out}
use Rattle.room_alone.specs.Replay.{pair, state_after, answers_after, replay, answers_of}
use Rattle.room_alone.specs.Journal.{entry, pair_of, answer_in, pairs_of, state_of, IsLegal, answer_to, most_entries}

pub state_after-append : (s : State) (pairs : List SeatedCommand) (last : SeatedCommand)
    → state_after s (pairs ++ last ∷ []) ≡ (carry_out (state_after s pairs) last.command).state
state_after-append s [] last = refl
state_after-append s (first ∷ pairs) last = state_after-append (carry_out s first.command).state pairs last

answers_after-append : (s : State) (pairs : List SeatedCommand) (last : SeatedCommand)
    → answers_after s (pairs ++ last ∷ [])
    ≡ answers_after s pairs ++ (carry_out (state_after s pairs) last.command).answer ∷ []
answers_after-append s [] last = refl
answers_after-append s (first ∷ pairs) last =
    let carried = carry_out s first.command in
    ap (λ (answers : List Answer). carried.answer ∷ answers) (answers_after-append carried.state pairs last)

-- the commands of one entry more
pub pairs_of-append : (journal : List Entry) (seat : ℕ) (command : Command) (answer : Answer)
    → pairs_of (journal ++ entry seat command answer ∷ []) ≡ pairs_of journal ++ pair seat command ∷ []
pairs_of-append journal seat command answer = map_push pair_of journal (entry seat command answer)

pub length-pairs_of : (journal : List Entry) → length (pairs_of journal) ≡ length journal
length-pairs_of [] = refl
length-pairs_of (entry ∷ journal) = ap suc (length-pairs_of journal)

-- the machine after one entry more
pub state_of-append : (size : ℕ) (journal : List Entry) (last : Entry)
    → state_of size (journal ++ last ∷ []) ≡ (carry_out (state_of size journal) last.command).state
state_of-append size journal last =
    ap (λ (pairs : List SeatedCommand). replay size pairs) (map_push pair_of journal last)
    ∙ state_after-append (power_on size) (pairs_of journal) (pair_of last)

-- a legal journal stays legal by one command and its answer more
pub legal-append : (size seat : ℕ) (journal : List Entry) (command : Command) → IsLegal size journal
    → IsLegal size (journal ++ entry seat command (answer_to size journal command) ∷ [])
legal-append size seat journal command legal =
    let answer : Answer = answer_to size journal command in
    let last : Entry = entry seat command answer in
    map_push answer_in journal last
    ∙ ap (λ (answers : List Answer). answers ++ answer ∷ []) legal
    ∙ sym (answers_after-append (power_on size) (pairs_of journal) (pair_of last))
    ∙ ap (λ (pairs : List SeatedCommand). answers_of size pairs) (sym (map_push pair_of journal last))

-- the room's machine and journal after one command more
pub explained-append : (machine next : State) (seat : ℕ) (journal : List Entry) (command : Command) (answer : Answer)
    → IsExplained machine journal → length journal < most_entries
    → next ≡ (carry_out machine command).state → answer ≡ (carry_out machine command).answer
    → length next.storage ≡ length machine.storage
    → IsExplained next (journal ++ entry seat command answer ∷ [])
explained-append machine next seat journal command answer h few state_is answer_is size_is =
    let size = length machine.storage in
    let last : Entry = entry seat command answer in
    let more : List Entry = journal ++ last ∷ [] in
    let same : answer ≡ answer_to size journal command =
    answer_is ∙ ap (λ (s : State). (carry_out s command).answer) h.machine_is in
    let there : next ≡ state_of size more =
    state_is
    ∙ ap (λ (s : State). (carry_out s command).state) h.machine_is
    ∙ sym (state_of-append size journal last) in
    let legal : IsLegal size more =
    subst (λ (a : Answer). IsLegal size (journal ++ entry seat command a ∷ [])) (sym same)
    (legal-append size seat journal command h.legal) in
    record {
      machine_is = there ∙ ap (λ n. state_of n more) (sym size_is);
      legal = subst (λ n. IsLegal n more) (sym size_is) legal;
      bound = omega (arith, length-append journal (last ∷ []));
    }
