-- What is published to the readers of a shared room, and the rule that each step keeps (own).
use Rattle.std.specs.Prelude.{◌≡◌, ◌==◌, ◌≤◌, ℕ, List, length, fold, Option, Some, None, if◌then◌else◌}
use Rattle.cpu_1401.specs.State.{State}
use mathlib.Core.List.{IsPrefix}
use mathlib.Core.Option.{some}
use lib.ListN.{get_elem?}
use Rattle.logbook.specs.Pages.{Book}
use Rattle.room_alone.specs.declared.entry.SeatedCommand.{SeatedCommand}
use Rattle.room_1401.specs.declared.published.Shown.{Shown}
use Rattle.room_1401.specs.declared.published.Change.{Change}
use Rattle.machine_commands.specs.declared.command.Command.{Command}
use Rattle.cpu_1401.specs.CarryOut.{carry_out}
use Rattle.room_alone.specs.Journal.{most_entries}
use Rattle.room_alone.specs.Replay.{replay}

-- the machine after a command, if there is one
abbrev pub ran : State → Option Command → State
ran s None = s
ran s (Some command) = (carry_out s command).state

-- the machine after a change: its outcome, if it has one of a machine of this size
abbrev pub machine_after : State → Option Command → Option State → State
machine_after s command None = ran s command
machine_after s command (Some outcome) =
    if length outcome.storage == length s.storage then outcome else ran s command

-- what is shown after a change
abbrev pub changed : Shown → Change → Shown
changed shown change = record {
  machine = machine_after shown.machine change.command change.outcome;
  count = change.count;
  front = change.front;
}

-- The machine and the count shown are those of the replay of the list shown, which the history has reached, and which
-- is no longer than a journal can be.
pub record IsReplay (book : Book) (size : ℕ) (shown : Shown) : Type 0 where
  pub of_book : shown.front.book ≡ book
  pub machine : shown.machine ≡ replay size shown.front.log
  pub storage : length shown.machine.storage ≡ size
  pub count : shown.count ≡ length shown.front.log
  pub bound : length shown.front.log ≤ most_entries

-- The rule: what is shown is a replay, and what each reader has seen is a prefix of its list.
abbrev pub Keeps : Book → ℕ → Shown → List (List SeatedCommand) → Type 0
Keeps book size shown views =
    IsReplay book size shown
    × ((reader : ℕ) (view : List SeatedCommand) → get_elem? views reader ≡ some view → IsPrefix view shown.front.log)

-- What a step tells its reader: the list that is shown afterwards, which goes on from what the reader had seen.
abbrev pub Sees : Book → ℕ → List SeatedCommand → Shown → Shown → List SeatedCommand → Type 0
Sees book size before old new after = IsReplay book size new × IsPrefix before after × (after ≡ new.front.log)

-- The changes lead to a replay of a list that goes on from the one shown.
abbrev pub Follows : Book → ℕ → Shown → List Change → Type 0
Follows book size shown changes =
    let last = fold changed shown changes in IsReplay book size last × IsPrefix shown.front.log last.front.log

-- Once the pending changes are shown, what is shown is the replay of these commands.
pub record Publishes (book : Book) (size : ℕ) (shown : Shown) (pending : List Change) (pairs : List SeatedCommand)
    : Type 0 where
  pub follows : Follows book size shown pending
  pub list : (fold changed shown pending).front.log ≡ pairs
