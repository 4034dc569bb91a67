-- What a line does to the journal, and to breaks and watches (own).
use Rattle.std.specs.Prelude.{◌≡◌, ◌⊎◌, ℕ, ◌+◌, if◌then◌else◌, min, Bool, true, false, ◌||◌, List, [], ◌∷◌, ◌++◌, length, take, option_map}
use Rattle.std.specs.Prelude.{Option, None, Some, Result, Ok, Err, not, is_err, is_some, slice_get, ◌-◌}
use Rattle.devices_1401.specs.declared.card.Card.{Card}
use Rattle.machine_commands.specs.declared.answer.Answer.{Answer}
use Rattle.machine_commands.specs.declared.answer.Answer.TheVariants as answer
use Rattle.machine_commands.specs.declared.answer.Refusal.{Refusal}
use Rattle.machine_commands.specs.declared.command.Command.{Command}
use Rattle.machine_commands.specs.declared.command.Command.TheVariants as command
use Rattle.cpu_1401.specs.State.{State}
use Rattle.operate_answers.specs.Stops.{AllStops, break_added, no_stops, stops_deleted, watch_added}
use Rattle.operate_answers.specs.declared.fault.LookFault.{LookFault}
use Rattle.operate_orders.specs.declared.fault.OrderFault.{OrderFault}
use Rattle.operate_orders.specs.declared.orders.Act.{Act}
use Rattle.operate_orders.specs.declared.orders.Act.TheVariants as act
use Rattle.operate_orders.specs.declared.orders.Note.{Note}
use Rattle.operate_orders.specs.declared.orders.Note.TheVariants as note
use Rattle.operate_orders.specs.declared.orders.Order.{Order}
use Rattle.operate_orders.specs.declared.orders.Order.TheVariants as order
use Rattle.operate_orders.specs.declared.orders.Past.{Past}
use Rattle.operate_orders.specs.declared.orders.Past.TheVariants as past
use Rattle.operate_orders.specs.OrderLine.{order_of}
use Rattle.operate_sitting.specs.Back.{back_of}
use Rattle.operate_orders.specs.declared.values.Condition.{Condition}
use Rattle.operate_program.specs.Act.{card_in, commands_of}
use Rattle.operate_program.specs.Comparison.{compared_at, condition_of}
use Rattle.operate_program.specs.Known.{Known}
use Rattle.operate_program.specs.Value.{address_of}
use Rattle.operate_program.specs.declared.comparison.Comparison.{Comparison}
use Rattle.operate_program.specs.declared.fault.ActFault.{ActFault}
use Rattle.operate_program.specs.declared.fault.PlaceFault.{PlaceFault}
use Rattle.operate_sitting.specs.Notes.{begun, held, notes_after}
use Rattle.operate_sitting.specs.declared.earlier.Origin.{Origin}
use Rattle.operate_sitting.specs.declared.earlier.Origin.TheVariants as origin
use Rattle.operate_sitting.specs.Sitting.{EarlierAccount, SittingAccount, cards_back, cards_loaded, journal_of, machine_of}
use Rattle.operate_sitting.specs.Sitting.{undone_at}
use Rattle.operate_sitting.specs.declared.notes.Mark.{Mark}
use Rattle.operate_sitting.specs.Tending.{carried_on}
use Rattle.operate_console.specs.Run.{AtConsole, InTurn, IsSame, NotebookAccount, RanAsFar, TendedAll, TendedPart}
use Rattle.operate_console.specs.declared.ends.Failure.{Failure}
use Rattle.operate_console.specs.declared.ends.OperateEnd.{OperateEnd}
use Rattle.operate_console.specs.declared.ends.OperateEnd.TheVariants as end
use Rattle.operate_console.specs.declared.extent.Reach.{Reach}
use Rattle.room_alone.specs.Journal.{answer_to, entry, pairs_of}
use Rattle.room_alone.specs.declared.entry.Entry.{Entry}

-- whether a line is cut off: it reports a fault, or the sitting ends with it
abbrev pub is_cut : Bool → NotebookAccount → Bool
is_cut is_last notebook = is_last || notebook.is_faulted

-- nothing was recorded, and breaks and watches stay
pub record IsLeft (before after : AtConsole) : Type 0 where
  pub same : IsSame before.sitting after.sitting
  pub stops : after.stops ≡ before.stops

-- a line began, and all of these commands were carried out in turn, each with the machine's answer
pub record CommandsDid (commands : List Command) (before after : SittingAccount) : Type 0 where
  pub carried : journal_of after ≡ carried_on before.account.room.size (journal_of before) commands
  pub size : after.account.room.size ≡ before.account.room.size
  pub notes : after.notes ≡ begun (length (journal_of before)) before.notes

-- the first of these commands were carried out in turn, each with the machine's answer, or none
abbrev pub CarriedFirst : ℕ → List Command → List Entry → List Entry → Type 0
CarriedFirst size [] before after = after ≡ before
CarriedFirst size (command ∷ commands) before after =
    (after ≡ before)
    ⊎ CarriedFirst size commands (before ++ entry 0 command (answer_to size before command) ∷ []) after

-- the first of them, but not all, or none: the room refused the next one
abbrev pub CarriedSome : ℕ → List Command → List Entry → List Entry → Type 0
CarriedSome size [] before after = ⊥
CarriedSome size (command ∷ commands) before after =
    (after ≡ before)
    ⊎ CarriedSome size commands (before ++ entry 0 command (answer_to size before command) ∷ []) after

-- the refusal of a command, if the machine refused it
abbrev pub refusal_in : Answer → Option Refusal
refusal_in answer.Done = None
refusal_in (answer.Cells cells) = None
refusal_in (answer.Regs regs) = None
refusal_in (answer.Ran steps stop i) = None
refusal_in (answer.Line line) = None
refusal_in (answer.Card card) = None
refusal_in (answer.Refused refusal) = Some refusal

abbrev pub refusal_of_entry : Option Entry → Option Refusal
refusal_of_entry None = None
refusal_of_entry (Some it) = refusal_in it.answer

-- the refusal of the last of some commands, which the last entry of a journal has
abbrev pub refusal_of_last : List Entry → List Command → Option Refusal
refusal_of_last journal [] = None
refusal_of_last journal (command ∷ commands) = refusal_of_entry (slice_get journal (length journal - 1))

-- the commands of a line, or the first of them
pub record CommandsBegun (commands : List Command) (before after : SittingAccount) : Type 0 where
  pub carried : CarriedFirst before.account.room.size commands (journal_of before) (journal_of after)
  pub size : after.account.room.size ≡ before.account.room.size

-- the first of them, but not all
pub record CommandsSome (commands : List Command) (before after : SittingAccount) : Type 0 where
  pub carried : CarriedSome before.account.room.size commands (journal_of before) (journal_of after)
  pub size : after.account.room.size ≡ before.account.room.size

-- not all of them, if the sitting goes on with a fault; or perhaps all, if it ends
abbrev pub CommandsCut : Bool → List Command → SittingAccount → SittingAccount → Type 0
CommandsCut true commands before after = CommandsBegun commands before after
CommandsCut false commands before after = CommandsSome commands before after

-- all commands that an act stands for at this machine
pub record CommandsOfAct (known : Known) (it : Act) (before after : SittingAccount) : Type 0 where
  pub commands : List Command
  pub commands_are : commands_of known (machine_of before) it ≡ Ok commands
  pub did : CommandsDid commands before after

-- the first of them, or all
pub record FirstOfAct (known : Known) (it : Act) (before after : SittingAccount) : Type 0 where
  pub commands : List Command
  pub commands_are : commands_of known (machine_of before) it ≡ Ok commands
  pub began : CommandsBegun commands before after

-- not all of them: the room refused one, as its journal is full or memory is refused
pub record SomeOfAct (known : Known) (it : Act) (before after : SittingAccount) : Type 0 where
  pub commands : List Command
  pub commands_are : commands_of known (machine_of before) it ≡ Ok commands
  pub some : CommandsSome commands before after

-- an act that stands for no commands, and so nothing was recorded
pub record NoAct (known : Known) (it : Act) (before after : SittingAccount) : Type 0 where
  pub fault : is_err (commands_of known (machine_of before) it) ≡ true
  pub same : IsSame before after

-- An act that was cut off: the sitting ended in the midst of its commands, or after them; or a fault was reported, and
-- not all of them were carried out.
abbrev pub PartOfAct : Known → Bool → Act → SittingAccount → SittingAccount → Type 0
PartOfAct known true it before after = IsSame before after ⊎ FirstOfAct known it before after
PartOfAct known false it before after = NoAct known it before after ⊎ SomeOfAct known it before after

-- these cards came into the hand
pub record CardsHeld (cards : List Card) (before after : SittingAccount) : Type 0 where
  pub account : after.account ≡ before.account
  pub notes : after.notes ≡ held cards before.notes

-- they came into the hand, and all that devices want was done: the hopper takes of the hand what it has room for
pub record CardsDone (cards : List Card) (before after : SittingAccount) : Type 0 where
  pub middle : SittingAccount
  pub in_hand : CardsHeld cards before middle
  pub tended : TendedAll middle after

-- they came into the hand, and perhaps not all of that was done; or not even that
pub record CardsBegun (cards : List Card) (before after : SittingAccount) : Type 0 where
  pub middle : SittingAccount
  pub in_hand : CardsHeld cards before middle
  pub tended : TendedPart middle after

abbrev pub PartOfCards : List Card → SittingAccount → SittingAccount → Type 0
PartOfCards cards before after = IsSame before after ⊎ CardsBegun cards before after

-- the same, with breaks and watches as they are
pub record CardsOfLine (is_cut : Bool) (cards : List Card) (before after : AtConsole) : Type 0 where
  pub did : CardsDone cards before.sitting after.sitting
      ⊎ ((is_cut ≡ true) × PartOfCards cards before.sitting after.sitting)
  pub stops : after.stops ≡ before.stops

-- the cards of a file
pub record DeckOfLine (is_cut : Bool) (before after : AtConsole) : Type 0 where
  pub cards : List Card
  pub did : CardsOfLine is_cut cards before after

-- a card, or the fault of its text
abbrev pub FeedDid : Bool → Result Card ActFault → AtConsole → AtConsole → Type 0
FeedDid is_cut (Ok card) before after = CardsOfLine is_cut (card ∷ []) before after
FeedDid is_cut (Err why) before after = (is_cut ≡ true) × IsLeft before after

-- all that devices want was done, and then the load key was pressed, with the machine's answer; a refusal is a fault
pub record LoadDone (is_cut : Bool) (before after : SittingAccount) : Type 0 where
  pub middle : SittingAccount
  pub tended : TendedAll before middle
  pub pressed : journal_of after ≡ carried_on middle.account.room.size (journal_of middle) (command.LoadKey ∷ [])
  pub refused : is_some (refusal_of_last (journal_of after) (command.LoadKey ∷ [])) ≡ true → is_cut ≡ true
  pub size : after.account.room.size ≡ middle.account.room.size
  pub notes : after.notes ≡ middle.notes

-- the first of it, or all, or nothing
pub record PartOfLoad (before after : SittingAccount) : Type 0 where
  pub middle : SittingAccount
  pub tended : TendedPart before middle
  pub pressed : CarriedFirst middle.account.room.size (command.LoadKey ∷ []) (journal_of middle) (journal_of after)
  pub size : after.account.room.size ≡ middle.account.room.size
  pub notes : after.notes ≡ middle.notes

-- the same, with breaks and watches as they are
pub record LoadOfLine (is_cut : Bool) (before after : AtConsole) : Type 0 where
  pub did : LoadDone is_cut before.sitting after.sitting ⊎ ((is_cut ≡ true) × PartOfLoad before.sitting after.sitting)
  pub stops : after.stops ≡ before.stops

-- the lower of two bounds, as far as there are any
abbrev pub least_of : Option ℕ → Option ℕ → Option ℕ
least_of None other = other
least_of (Some one) None = Some one
least_of (Some one) (Some other) = Some (min one other)

-- how far a run goes of so many instructions, if there is a bound, within the limit, if there is one
abbrev pub reach_of : Option ℕ → Option ℕ → Reach
reach_of count limit = record { most = least_of count limit; until = None }

-- a run up to the address that a place means, or the fault of the place
abbrev pub UntilDid : Option ℕ → Bool → Result ℕ PlaceFault → AtConsole → AtConsole → Type 0
UntilDid limit is_cut (Ok at) before after =
    RanAsFar limit is_cut (record { most = least_of None limit; until = Some at }) before after
UntilDid limit is_cut (Err why) before after = (is_cut ≡ true) × IsLeft before after

-- what follows the commands of an act: nothing, cards, the load key, or a run as far as it says
abbrev pub FollowDid : Known → Option ℕ → Bool → Act → AtConsole → AtConsole → Type 0
FollowDid known limit is_cut (act.Deposit place what) before after = IsLeft before after
FollowDid known limit is_cut (act.Set field value) before after = IsLeft before after
FollowDid known limit is_cut (act.Mark place) before after = IsLeft before after
FollowDid known limit is_cut (act.Unmark place) before after = IsLeft before after
FollowDid known limit is_cut (act.Start place) before after = IsLeft before after
FollowDid known limit is_cut (act.Switch switch on) before after = IsLeft before after
FollowDid known limit is_cut (act.Feed text) before after = FeedDid is_cut (card_in text) before after
FollowDid known limit is_cut (act.Deck name) before after = DeckOfLine is_cut before after
FollowDid known limit is_cut act.Load before after = LoadOfLine is_cut before after
FollowDid known limit is_cut (act.Step count) before after =
    RanAsFar limit is_cut (reach_of (Some count) limit) before after
FollowDid known limit is_cut (act.Continue count) before after =
    RanAsFar limit is_cut (reach_of count limit) before after
FollowDid known limit is_cut (act.Until place) before after =
    UntilDid limit is_cut (address_of known (machine_of before.sitting) place) before after
FollowDid known limit is_cut (act.Go place) before after = RanAsFar limit is_cut (reach_of None limit) before after

-- an act: all of its commands, and then what follows them
pub record WholeAct (known : Known) (limit : Option ℕ) (is_cut : Bool) (it : Act) (before after : AtConsole)
    : Type 0 where
  pub middle : AtConsole
  pub commands : CommandsOfAct known it before.sitting middle.sitting
  pub stops : middle.stops ≡ before.stops
  pub follows : FollowDid known limit is_cut it middle after

-- an act that was cut off
pub record CutAct (known : Known) (is_last is_faulted : Bool) (it : Act) (before after : AtConsole) : Type 0 where
  pub is_so : (is_last || is_faulted) ≡ true
  pub part : PartOfAct known is_last it before.sitting after.sitting
  pub stops : after.stops ≡ before.stops

-- The sitting ends with an act (`is_last`), or a fault is reported (`is_faulted`), or all of it is done.
abbrev pub ActDid : Known → Option ℕ → Bool → Bool → Act → AtConsole → AtConsole → Type 0
ActDid known limit is_last is_faulted it before after =
    WholeAct known limit (is_last || is_faulted) it before after ⊎ CutAct known is_last is_faulted it before after

-- The journal to which a line goes back: without the last lines that recorded something, without the last instructions,
-- as it was when the program was loaded, or another one.
abbrev pub IsEarlier : Past → SittingAccount → ℕ → List Entry → Type 0
IsEarlier (past.Undo lines) before size journal =
    (size ≡ before.account.room.size)
    × (Some journal ≡ option_map (λ (at : Mark). take at.entries (journal_of before)) (undone_at lines before))
IsEarlier (past.Back count) before size journal =
    (size ≡ before.account.room.size) × (Some (pairs_of journal) ≡ back_of count (journal_of before))
IsEarlier past.Restart before size journal =
    (size ≡ before.account.room.size) × (journal ≡ take before.notes.loaded (journal_of before))
IsEarlier (past.Restore name) before size journal = Unit {0}

-- where that journal comes from, and how many cards of decks had come into the hand by then
abbrev pub IsOrigin : Past → SittingAccount → Origin → Type 0
IsOrigin (past.Undo lines) before from =
    Some from ≡ option_map (λ (at : Mark). origin.Own at.cards) (undone_at lines before)
IsOrigin (past.Back count) before from = from ≡ origin.Own (cards_back count before)
IsOrigin past.Restart before from = from ≡ origin.Own (cards_loaded before)
IsOrigin (past.Restore name) before from = from ≡ origin.Other

-- the same of an earlier room
pub record EarlierIs (it : Past) (before : SittingAccount) (earlier : EarlierAccount) : Type 0 where
  pub journal : IsEarlier it before earlier.room.size earlier.room.journal
  pub origin : IsOrigin it before earlier.origin

-- a line went back, and what is noted of the shorter journal stays
pub record WentBack (it : Past) (before after : SittingAccount) : Type 0 where
  pub journal : IsEarlier it before after.account.room.size (journal_of after)
  pub from : Origin
  pub origin : IsOrigin it before from
  pub notes : after.notes ≡ notes_after from (length (journal_of after)) before.notes

-- a line goes back; or nowhere, if it was cut off
abbrev pub PastDid : Bool → Past → SittingAccount → SittingAccount → Type 0
PastDid is_cut it before after = WentBack it before after ⊎ ((is_cut ≡ true) × IsSame before after)

-- the same, with breaks and watches as they are
pub record PastOfLine (is_cut : Bool) (it : Past) (before after : AtConsole) : Type 0 where
  pub did : PastDid is_cut it before.sitting after.sitting
  pub stops : after.stops ≡ before.stops

-- breaks and watches are those that the answer has; or they stay, if a fault is reported or the sitting ends
abbrev pub IsSet : Bool → Result AllStops LookFault → AllStops → AllStops → Type 0
IsSet is_cut answer before after = (answer ≡ Ok after) ⊎ ((is_cut ≡ true) × (after ≡ before))

-- what a note makes of breaks and watches, at this machine
abbrev pub StopsNoted : Known → State → Bool → Note → AllStops → AllStops → Type 0
StopsNoted known s is_cut (note.Break place nth condition) before after =
    IsSet is_cut (break_added known s place nth condition before) before after
StopsNoted known s is_cut (note.Watch watched) before after =
    IsSet is_cut (watch_added known s watched before) before after
StopsNoted known s is_cut (note.Delete numbers) before after =
    IsSet is_cut (stops_deleted numbers before) before after
StopsNoted known s is_cut (note.Do name) before after = after ≡ before
StopsNoted known s is_cut (note.Transcript name) before after = after ≡ before
StopsNoted known s is_cut (note.Assert condition) before after = after ≡ before
StopsNoted known s is_cut (note.Help keyword) before after = after ≡ before
StopsNoted known s is_cut (note.Save name) before after = after ≡ before

-- whether a condition is so at this machine: its field is there, and is in that relation to the value
abbrev pub is_so_of : State → Result Comparison PlaceFault → Bool
is_so_of s (Ok it) = compared_at s.storage it.field it.relation it.value
is_so_of s (Err why) = false

abbrev pub is_so_at : Known → State → Condition → Bool
is_so_at known s condition = is_so_of s (condition_of known s condition)

-- what is asserted is so, or else a fault is reported, or the sitting ends
abbrev pub Asserted : Known → State → Bool → Note → Type 0
Asserted known s is_cut (note.Break place nth condition) = Unit {0}
Asserted known s is_cut (note.Watch watched) = Unit {0}
Asserted known s is_cut (note.Delete numbers) = Unit {0}
Asserted known s is_cut (note.Do name) = Unit {0}
Asserted known s is_cut (note.Transcript name) = Unit {0}
Asserted known s is_cut (note.Assert condition) = is_cut ≡ not (is_so_at known s condition)
Asserted known s is_cut (note.Help keyword) = Unit {0}
Asserted known s is_cut (note.Save name) = Unit {0}

-- a note records nothing
pub record NoteOfLine (known : Known) (is_cut : Bool) (it : Note) (before after : AtConsole) : Type 0 where
  pub same : IsSame before.sitting after.sitting
  pub stops : StopsNoted known (machine_of before.sitting) is_cut it before.stops after.stops
  pub asserted : Asserted known (machine_of before.sitting) is_cut it

-- what a line says, done: only an act and what goes back change the journal, and only an act and a note breaks and watches
abbrev pub OrderDid : Known → Option ℕ → Bool → Bool → Order → AtConsole → AtConsole → Type 0
OrderDid known limit is_last is_faulted order.Nothing before after = IsLeft before after
OrderDid known limit is_last is_faulted (order.Look look) before after = IsLeft before after
OrderDid known limit is_last is_faulted (order.Act it) before after =
    ActDid known limit is_last is_faulted it before after
OrderDid known limit is_last is_faulted (order.Past it) before after =
    PastOfLine (is_last || is_faulted) it before after
OrderDid known limit is_last is_faulted (order.Note it) before after =
    NoteOfLine known (is_last || is_faulted) it before after
OrderDid known limit is_last is_faulted order.Quit before after = IsLeft before after

-- a line that says nothing has done nothing, and is reported
abbrev pub LineDid : Known → Option ℕ → Bool → Bool → Result Order OrderFault → AtConsole → AtConsole → Type 0
LineDid known limit is_last is_faulted (Ok it) before after = OrderDid known limit is_last is_faulted it before after
LineDid known limit is_last is_faulted (Err fault) before after = ((is_last || is_faulted) ≡ true) × IsLeft before after

-- whether a line says `quit`
abbrev pub is_quit_order : Order → Bool
is_quit_order order.Nothing = false
is_quit_order (order.Look look) = false
is_quit_order (order.Act it) = false
is_quit_order (order.Past it) = false
is_quit_order (order.Note it) = false
is_quit_order order.Quit = true

abbrev pub is_quit : Result Order OrderFault → Bool
is_quit (Ok it) = is_quit_order it
is_quit (Err fault) = false

-- a console after some lines, and how many of them had a fault
pub record AfterLines : Type 0 where
  pub at : AtConsole
  pub faults : ℕ

abbrev pub faults_with : ℕ → Bool → ℕ
faults_with faults is_faulted = if is_faulted then faults + 1 else faults

-- some line, done, which doesn't say `quit`; the sitting ends with it or goes on
pub record SomeLineDid (known : Known) (limit : Option ℕ) (is_last : Bool) (before after : AfterLines) : Type 0 where
  pub line : List ℕ
  pub is_faulted : Bool
  pub stays : is_quit (order_of line) ≡ false
  pub did : LineDid known limit is_last is_faulted (order_of line) before.at after.at
  pub faults : after.faults ≡ faults_with before.faults is_faulted

-- lines, each from what the one before left
abbrev pub LinesSoFar : Known → Option ℕ → AfterLines → AfterLines → Type 0
LinesSoFar known limit before after =
    (between : List AfterLines) × InTurn (SomeLineDid known limit false) before between after

-- some line, which says `quit`
pub record QuitSaid : Type 0 where
  pub line : List ℕ
  pub is_so : is_quit (order_of line) ≡ true

-- how a sitting ends after some lines: by `quit`, without another line, or if something failed in another one
abbrev pub LinesEnd : Known → Option ℕ → OperateEnd → AfterLines → AfterLines → Type 0
LinesEnd known limit end.Quit last after = QuitSaid × (after ≡ last)
LinesEnd known limit end.EndOfInput last after = after ≡ last
LinesEnd known limit (end.Failed why) last after = (after ≡ last) ⊎ SomeLineDid known limit true last after

-- lines up to such an end
pub record LinesDid (known : Known) (limit : Option ℕ) (ended : OperateEnd) (before after : AfterLines) : Type 0 where
  pub last : AfterLines
  pub lines : LinesSoFar known limit before last
  pub ends : LinesEnd known limit ended last after

-- the same of a sitting, which begins with no break and no watch
pub record OperatedBy (known : Known) (limit : Option ℕ) (before : SittingAccount) (ended : OperateEnd) (faults : ℕ)
    (after : SittingAccount) : Type 0 where
  pub left : AllStops
  pub lines : LinesDid known limit ended
      (record { at = record { sitting = before; stops = no_stops }; faults = 0 })
      (record { at = record { sitting = after; stops = left }; faults = faults })
