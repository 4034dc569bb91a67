-- What one command changes under the lock.
use Rattle.std.proofs.Common.{◌≡◌, ◌==◌, ◌≤◌, ℕ, Bool, true, false, List, [], ◌∷◌, ◌++◌, length, fold}
use Rattle.std.proofs.Common.{refl, ap, sym, ◌∙◌, subst, arith}
use Rattle.std.specs.Prelude.{Some, None, Option, IfSome, if◌then◌else◌}
use mathlib.Core.List.{IsPrefix}
use Rattle.logbook.specs.Pages.{Book}
use Rattle.cpu_1401.specs.State.{State, power_on}
use Rattle.machine_commands.specs.declared.command.Command.{Command}
use Rattle.room_alone.specs.declared.entry.SeatedCommand.{SeatedCommand}
use Rattle.room_1401.specs.declared.published.Shown.{Shown}
use Rattle.room_1401.specs.declared.published.Change.{Change}
use Rattle.cpu_1401.specs.CarryOut.{carry_out}
use Rattle.room_alone.specs.declared.entry.Entry.{Entry}
use Rattle.room_alone.specs.Journal.{most_entries, pairs_of}
use Rattle.room_1401.specs.Ahead.{state_ahead}
use Rattle.room_alone.specs.Replay.{pair, replay}
use Rattle.room_1401.specs.Rule.{IsReplay, Publishes, changed, machine_after, ran}
use Rattle.room_1401.proofs.PrefixLemmas.{prefix_self, prefix_trans}
use Rattle.room_alone.proofs.ReplayLemmas.{state_after-append}

fold-append : {A B : Type 0} (f : B → A → B) (first : B) (xs ys : List A)
    → fold f first (xs ++ ys) ≡ fold f (fold f first xs) ys
fold-append f first [] ys = refl
fold-append f first (x ∷ xs) ys = fold-append f (f first x) xs ys

-- The change is that of one command more.
pub record IsNext (book : Book) (size : ℕ) (change : Change) (pairs : List SeatedCommand) (seat : ℕ) (command : Command)
    : Type 0 where
  pub of_command : change.command ≡ Some command
  pub outcome : IfSome change.outcome (λ machine. machine ≡ replay size (pairs ++ pair seat command ∷ []))
  pub count : change.count ≡ length change.front.log
  pub bound : change.count ≤ most_entries
  pub list : change.front.log ≡ pairs ++ pair seat command ∷ []
  pub of_book : change.front.book ≡ book
  pub storage : length (replay size (pairs ++ pair seat command ∷ [])).storage ≡ size

-- a change leads to its outcome, whether that is copied or the command is carried out
leads_to : (s last : State) (command : Option Command) (outcome : Option State)
    → ran s command ≡ last → IfSome outcome (λ machine. machine ≡ last) → machine_after s command outcome ≡ last
leads_to s last command None is same = is
leads_to s last command (Some outcome) is same =
    elim (length outcome.storage == length s.storage) as (λ fits. (if fits then outcome else ran s command) ≡ last)
    [ true ↦ same | false ↦ is ]

-- after the pending changes it leads to the replay of one command more
next_publishes : (book : Book) (size : ℕ) (shown : Shown) (change : Change) (pending : List Change) (pairs : List SeatedCommand)
    (seat : ℕ) (command : Command)
    → Publishes book size shown pending pairs → IsNext book size change pairs seat command
    → Publishes book size shown (pending ++ change ∷ []) (pairs ++ pair seat command ∷ [])
next_publishes book size shown change pending pairs seat command was next =
    let before : Shown = fold changed shown pending in
    let after : Shown = changed before change in
    let more : List SeatedCommand = pairs ++ pair seat command ∷ [] in
    let last : fold changed shown (pending ++ change ∷ []) ≡ after = fold-append changed shown pending (change ∷ []) in
    let carried : ran before.machine change.command ≡ replay size more =
    ap (λ (one : Option Command). ran before.machine one) next.of_command
    ∙ ap (λ (s : State). (carry_out s command).state)
    (was.follows.0.machine ∙ ap (λ (list : List SeatedCommand). replay size list) was.list)
    ∙ sym (state_after-append (power_on size) pairs (pair seat command)) in
    let machine : machine_after before.machine change.command change.outcome ≡ replay size more =
    leads_to before.machine (replay size more) change.command change.outcome carried next.outcome in
    let is_replay : IsReplay book size after = record {
      of_book = next.of_book;
      machine = machine ∙ ap (λ (list : List SeatedCommand). replay size list) (sym next.list);
      storage = ap (λ (s : State). length s.storage) machine ∙ next.storage;
      count = next.count;
      bound = omega (arith, next.count, next.bound);
    } in
    let one_more : IsPrefix before.front.log after.front.log = (
      pair seat command ∷ [],
      ap (λ (list : List SeatedCommand). list ++ pair seat command ∷ []) was.list ∙ sym next.list,
    ) in
    let grows : IsPrefix shown.front.log after.front.log =
    prefix_trans shown.front.log before.front.log after.front.log was.follows.1 one_more in
    record {
      follows = subst (λ (s : Shown). IsReplay book size s × IsPrefix shown.front.log s.front.log) (sym last)
          (is_replay, grows);
      list = ap (λ (s : Shown). s.front.log) last ∙ next.list;
    }

-- so does what an append leaves
pub follows : (book : Book) (size : ℕ) (shown now : Shown) (change : Change) (pending more : List Change)
    (pairs : List SeatedCommand) (seat : ℕ) (command : Command)
    → Publishes book size shown pending pairs → IsNext book size change pairs seat command
    → now ≡ shown → more ≡ pending ++ change ∷ []
    → Publishes book size now more (pairs ++ pair seat command ∷ [])
follows book size shown now change pending more pairs seat command was next same one =
    let all : List SeatedCommand = pairs ++ pair seat command ∷ [] in
    subst (λ (changes : List Change). Publishes book size now changes all) (sym one)
    (subst (λ (s : Shown). Publishes book size s (pending ++ change ∷ []) all) (sym same)
    (next_publishes book size shown change pending pairs seat command was next))

-- what was published, with nothing pending
pub published : (book : Book) (size : ℕ) (shown now : Shown) (pending left : List Change) (pairs : List SeatedCommand)
    → Publishes book size shown pending pairs → now ≡ fold changed shown pending → left ≡ []
    → Publishes book size now left pairs
published book size shown now pending left pairs was is none =
    let last : Shown = fold changed shown pending in
    subst (λ (changes : List Change). Publishes book size now changes pairs) (sym none)
    (subst (λ (s : Shown). Publishes book size s [] pairs) (sym is)
    (record { follows = (was.follows.0, prefix_self last.front.log); list = was.list }))

-- the replay's storage is as long as that of the room's machine
pub storage_of : (size of_room : ℕ) (machine : State) (pairs more : List SeatedCommand)
    → machine ≡ replay of_room pairs → length machine.storage ≡ of_room → of_room ≡ size → pairs ≡ more
    → length (replay size more).storage ≡ size
storage_of size of_room machine pairs more is len same list =
    ap (λ n. length (replay n more).storage) (sym same)
    ∙ ap (λ (all : List SeatedCommand). length (replay of_room all).storage) (sym list)
    ∙ ap (λ (s : State). length s.storage) (sym is)
    ∙ len
    ∙ same

-- the outcome of a command carried out ahead of a room is the replay of one command more
pub led_by : (size of_room : ℕ) (journal : List Entry) (next : SeatedCommand) (outcome : Option State)
    → of_room ≡ size → IfSome outcome (λ machine. machine ≡ state_ahead of_room journal next.command)
    → IfSome outcome (λ machine. machine ≡ replay size (pairs_of journal ++ next ∷ []))
led_by size of_room journal next None same is = is
led_by size of_room journal next (Some machine) same is =
    is
    ∙ sym (state_after-append (power_on of_room) (pairs_of journal) next)
    ∙ ap (λ n. replay n (pairs_of journal ++ next ∷ [])) same
