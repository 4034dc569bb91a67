-- Lines, and the commands that they stand for.
use Rattle.std.proofs.Common.{◌≡◌, ℕ, List, [], ◌∷◌, ◌++◌, length, refl, sym, ◌∙◌, ap, subst, inl, inr, true≢false}
use Rattle.std.proofs.Common.{Option, None, Some, Result, Ok, Err, Bool, true, false, not, ◌||◌, is_some, is_err, ◌≢◌, ◌⊎◌, ◌-◌}
use Rattle.std.specs.Prelude.{slice_get}
use Rattle.cpu_1401.specs.State.{State}
use Rattle.devices_1401.specs.declared.card.Card.{Card}
use Rattle.machine_commands.specs.declared.answer.Answer.{Answer}
use Rattle.machine_commands.specs.declared.answer.Refusal.{Refusal}
use Rattle.machine_commands.specs.declared.fault.RoomFault.{RoomFault}
use Rattle.machine_commands.specs.declared.command.Command.{Command}
use Rattle.machine_commands.specs.declared.command.Command.TheVariants.{LoadKey}
use Rattle.operate_answers.specs.Stops.{AllStops, no_stops}
use Rattle.operate_answers.specs.declared.fault.LookFault.{LookFault}
use Rattle.operate_orders.specs.OrderLine.{order_of}
use Rattle.operate_orders.specs.declared.fault.OrderFault.{OrderFault}
use Rattle.operate_orders.specs.declared.orders.Act.{Act}
use Rattle.operate_orders.specs.declared.orders.Note.{Note}
use Rattle.operate_orders.specs.declared.orders.Order.{Order}
use Rattle.operate_orders.specs.declared.orders.Past.{Past}
use Rattle.operate_orders.specs.declared.values.Condition.{Condition}
use Rattle.operate_program.specs.Act.{commands_of}
use Rattle.operate_program.specs.Comparison.{compared_at, condition_of}
use Rattle.operate_program.specs.declared.comparison.Comparison.{Comparison}
use Rattle.operate_program.specs.Known.{Known}
use Rattle.operate_program.specs.declared.fault.ActFault.{ActFault}
use Rattle.operate_program.specs.declared.fault.ActFault.TheVariants as fault
use Rattle.operate_program.specs.declared.fault.PlaceFault.{PlaceFault}
use Rattle.operate_sitting.specs.Notes.{begun, held, notes_after}
use Rattle.operate_sitting.specs.Sitting.{EarlierAccount, SittingAccount, journal_of, machine_of}
use Rattle.operate_sitting.specs.Tending.{carried_on}
use Rattle.operate_console.specs.Line.{ActDid, AfterLines, Asserted, CardsDone, CardsOfLine, CarriedFirst, CarriedSome}
use Rattle.operate_console.specs.Line.{CommandsBegun, CommandsCut, CommandsDid, CommandsOfAct, CommandsSome, DeckOfLine}
use Rattle.operate_console.specs.Line.{EarlierIs, FeedDid, FollowDid, IsEarlier, IsLeft, IsOrigin}
use Rattle.operate_console.specs.Line.{LinesEnd, QuitSaid, is_quit, is_so_at, is_so_of, refusal_of_entry, refusal_of_last}
use Rattle.operate_console.specs.Line.{IsSet, LineDid, LinesDid, LinesSoFar, LoadOfLine, PartOfCards}
use Rattle.operate_console.specs.Line.{NoteOfLine, OperatedBy, PartOfAct, PastDid, PastOfLine, SomeLineDid, StopsNoted}
use Rattle.operate_console.specs.Line.{UntilDid, faults_with, is_cut, least_of}
use Rattle.operate_console.specs.Run.{AtConsole, IsSame, NotebookAccount, RanAsFar, TendedAll, TendedPart, at_console}
use Rattle.operate_console.specs.Ends.{LastShown, failure_in_cut, is_over, is_unkept, is_unkept_fault}
use Rattle.operate_console.specs.declared.acting.Cut.{Cut}
use Rattle.operate_console.specs.declared.acting.Cut.TheVariants as cut
use Rattle.operate_console.specs.declared.ends.Failure.{Failure}
use Rattle.operate_console.specs.declared.ends.OperateEnd.{OperateEnd}
use Rattle.operate_console.specs.declared.ends.OperateEnd.TheVariants as end
use Rattle.operate_console.specs.declared.extent.Reach.{Reach}
use Rattle.room_alone.specs.Account.{Account}
use Rattle.room_alone.specs.Kept.{KeptAccount}
use Rattle.room_alone.specs.Journal.{answer_to, entry, state_of}
use Rattle.room_alone.specs.declared.entry.Entry.{Entry}
use Rattle.room_files.specs.JournalText.{journal_text}

-- none of some commands was carried out
pub none_carried : (size : ℕ) (commands : List Command) (journal : List Entry)
    → CarriedFirst size commands journal journal
none_carried size [] journal = refl
none_carried size (command ∷ commands) journal = inl refl

-- one command, and then the others
pub all_carried : (size size' : ℕ) (command : Command) (more : List Command) (answer : Answer)
    (before middle after : List Entry)
    → answer ≡ answer_to size before command → middle ≡ before ++ entry 0 command answer ∷ []
    → size' ≡ size → after ≡ carried_on size' middle more → after ≡ carried_on size before (command ∷ more)
all_carried size size' command more answer before middle after said recorded same all =
    all ∙ ap (λ n. carried_on n middle more) same
    ∙ ap (λ (journal : List Entry). carried_on size journal more)
    (recorded ∙ ap (λ (given : Answer). before ++ entry 0 command given ∷ []) said)

pub first_carried : (size size' : ℕ) (command : Command) (more : List Command) (answer : Answer)
    (before middle after : List Entry)
    → answer ≡ answer_to size before command → middle ≡ before ++ entry 0 command answer ∷ []
    → size' ≡ size → CarriedFirst size' more middle after → CarriedFirst size (command ∷ more) before after
first_carried size size' command more answer before middle after said recorded same first =
    let here : middle ≡ before ++ entry 0 command (answer_to size before command) ∷ [] =
    recorded ∙ ap (λ (given : Answer). before ++ entry 0 command given ∷ []) said in
    inr (subst (λ (journal : List Entry). CarriedFirst size more journal after) here
    (subst (λ n. CarriedFirst n more middle after) same first))

-- one command, and no other
pub one_carried : (size : ℕ) (command : Command) (more : List Command) (answer : Answer)
    (before after : List Entry)
    → answer ≡ answer_to size before command → after ≡ before ++ entry 0 command answer ∷ []
    → CarriedFirst size (command ∷ more) before after
one_carried size command more answer before after said recorded =
    first_carried size size command more answer before after after said recorded refl (none_carried size more after)

pub some_carried : (size size' : ℕ) (command : Command) (more : List Command) (answer : Answer)
    (before middle after : List Entry)
    → answer ≡ answer_to size before command → middle ≡ before ++ entry 0 command answer ∷ []
    → size' ≡ size → CarriedSome size' more middle after → CarriedSome size (command ∷ more) before after
some_carried size size' command more answer before middle after said recorded same some =
    let here : middle ≡ before ++ entry 0 command (answer_to size before command) ∷ [] =
    recorded ∙ ap (λ (given : Answer). before ++ entry 0 command given ∷ []) said in
    inr (subst (λ (journal : List Entry). CarriedSome size more journal after) here
    (subst (λ n. CarriedSome n more middle after) same some))

pub some_refused : (size : ℕ) (command : Command) (more : List Command) (before after : List Entry)
    → after ≡ before → CarriedSome size (command ∷ more) before after
some_refused size command more before after same = inl same

pub refused : (size : ℕ) (command : Command) (more : List Command) (before after : List Entry)
    → after ≡ before → CarriedFirst size (command ∷ more) before after
refused size command more before after same = inl same

-- a line begins, and commands are carried out, or the first of them; or it doesn't begin
pub commands_did : (commands : List Command) (before middle after : SittingAccount)
    → middle.account ≡ before.account → middle.notes ≡ begun (length (journal_of before)) before.notes
    → journal_of after ≡ carried_on middle.account.room.size (journal_of middle) commands
    → after.account.room.size ≡ middle.account.room.size → after.notes ≡ middle.notes
    → CommandsDid commands before after
commands_did commands before middle after same began carried size notes = record {
  carried = subst (λ (it : KeptAccount). journal_of after ≡ carried_on it.room.size it.room.journal commands) same carried;
  size = size ∙ ap (λ (it : KeptAccount). it.room.size) same;
  notes = notes ∙ began;
}

pub commands_began : (commands : List Command) (before middle after : SittingAccount)
    → middle.account ≡ before.account
    → CarriedFirst middle.account.room.size commands (journal_of middle) (journal_of after)
    → after.account.room.size ≡ middle.account.room.size → CommandsBegun commands before after
commands_began commands before middle after same first size = record {
  carried = subst (λ (it : KeptAccount). CarriedFirst it.room.size commands it.room.journal (journal_of after)) same first;
  size = size ∙ ap (λ (it : KeptAccount). it.room.size) same;
}

pub commands_none : (commands : List Command) (before after : SittingAccount)
    → after.account ≡ before.account → CommandsBegun commands before after
commands_none commands before after same =
    commands_began commands before after after same
    (none_carried after.account.room.size commands (journal_of after)) refl

-- the room refused a command, or didn't keep it
pub commands_cut : (how : Cut) (fault : RoomFault) (commands : List Command) (before middle after : SittingAccount)
    → middle.account ≡ before.account
    → CarriedFirst middle.account.room.size commands (journal_of middle) (journal_of after)
    → (is_unkept_fault fault ≡ false
    → CarriedSome middle.account.room.size commands (journal_of middle) (journal_of after))
    → after.account.room.size ≡ middle.account.room.size
    → is_unkept (failure_in_cut how) ≡ is_unkept_fault fault → CommandsCut (is_over how) commands before after
commands_cut cut.Faulted fault commands before middle after same first some size kept = record {
  carried = subst (λ (it : KeptAccount). CarriedSome it.room.size commands it.room.journal (journal_of after)) same
      (some (sym kept));
  size = size ∙ ap (λ (it : KeptAccount). it.room.size) same;
}
commands_cut (cut.Over why) fault commands before middle after same first some size kept =
    commands_began commands before middle after same first size

-- the commands that an act stands for were carried out, or the first of them
pub act_did : (known : Known) (it : Act) (machine : State) (commands : List Command) (before after : SittingAccount)
    → commands_of known machine it ≡ Ok commands → machine ≡ machine_of before → CommandsDid commands before after
    → CommandsOfAct known it before after
act_did known it machine commands before after is same did = record {
  commands = commands;
  commands_are = ap (λ (s : State). commands_of known s it) (sym same) ∙ is;
  did = did;
}

pub act_cut : (how : Cut) (known : Known) (it : Act) (machine : State) (commands : List Command)
    (before after : SittingAccount)
    → commands_of known machine it ≡ Ok commands → machine ≡ machine_of before
    → CommandsCut (is_over how) commands before after → PartOfAct known (is_over how) it before after
act_cut cut.Faulted known it machine commands before after is same some = inr (record {
  commands = commands;
  commands_are = ap (λ (s : State). commands_of known s it) (sym same) ∙ is;
  some = some;
})
act_cut (cut.Over why) known it machine commands before after is same began = inr (record {
  commands = commands;
  commands_are = ap (λ (s : State). commands_of known s it) (sym same) ∙ is;
  began = began;
})

-- nothing was recorded
pub same : (it : SittingAccount) → IsSame it it
same it = record { journal = refl; size = refl; notes = refl }

pub no_act : (known : Known) (it : Act) (before : SittingAccount) → PartOfAct known true it before before
no_act known it before = inl (same before)

pub not_acted : (known : Known) (it : Act) (machine : State) (why : ActFault) (before : SittingAccount)
    → (why ≡ fault.Memory) ⊎ (commands_of known machine it ≡ Err why) → why ≢ fault.Memory → machine ≡ machine_of before
    → PartOfAct known false it before before
not_acted known it machine why before (inl memory) other here = absurd (other memory)
not_acted known it machine why before (inr is) other here = inl (record {
  fault = ap (λ (s : State). is_err (commands_of known s it)) (sym here)
      ∙ ap (λ (answer : Result (List Command) ActFault). is_err answer) is;
  same = same before;
})

-- a fault is reported, and nothing has changed
pub is_told : (is_last : Bool) (notebook : NotebookAccount) → notebook.is_faulted ≡ true → is_cut is_last notebook ≡ true
is_told true notebook told = refl
is_told false notebook told = told

pub left : (sitting sitting' : SittingAccount) (before after : NotebookAccount)
    → sitting' ≡ sitting → after.stops ≡ before.stops → IsLeft (at_console sitting before) (at_console sitting' after)
left sitting sitting' before after is stops = record {
  same = subst (λ (it : SittingAccount). IsSame sitting it) (sym is) (same sitting);
  stops = stops;
}

-- cards came into the hand, and were fed, or some of them; or none came
pub cards_done : (cards : List Card) (before middle after : SittingAccount)
    → middle.account ≡ before.account → middle.notes ≡ held cards before.notes → TendedAll middle after
    → CardsDone cards before after
cards_done cards before middle after account notes tended = record {
  middle = middle;
  in_hand = record { account = account; notes = notes };
  tended = tended;
}

pub cards_part : (cards : List Card) (before middle after : SittingAccount)
    → middle.account ≡ before.account → middle.notes ≡ held cards before.notes → TendedPart middle after
    → PartOfCards cards before after
cards_part cards before middle after account notes tended = inr (record {
  middle = middle;
  in_hand = record { account = account; notes = notes };
  tended = tended;
})

pub no_cards : (cards : List Card) (before after : SittingAccount)
    → after.account ≡ before.account → after.notes ≡ before.notes → PartOfCards cards before after
no_cards cards before after account notes = inl (record {
  journal = ap (λ (it : KeptAccount). it.room.journal) account;
  size = ap (λ (it : KeptAccount). it.room.size) account;
  notes = notes;
})

-- the same of a line
cards_line_done : (is_so : Bool) (cards : List Card) (sitting sitting' : SittingAccount) (before after : NotebookAccount)
    → CardsDone cards sitting sitting' → after.stops ≡ before.stops
    → CardsOfLine is_so cards (at_console sitting before) (at_console sitting' after)
cards_line_done is_so cards sitting sitting' before after did stops = record { did = inl did; stops = stops }

cards_line_part : (is_so : Bool) (cards : List Card) (sitting sitting' : SittingAccount) (before after : NotebookAccount)
    → is_so ≡ true → PartOfCards cards sitting sitting' → after.stops ≡ before.stops
    → CardsOfLine is_so cards (at_console sitting before) (at_console sitting' after)
cards_line_part is_so cards sitting sitting' before after cut part stops =
    record { did = inr (cut, part); stops = stops }

-- the cards of a deck
pub deck_line_done : (is_so : Bool) (cards : List Card) (sitting sitting' : SittingAccount) (before after : NotebookAccount)
    → CardsDone cards sitting sitting' → after.stops ≡ before.stops
    → DeckOfLine is_so (at_console sitting before) (at_console sitting' after)
deck_line_done is_so cards sitting sitting' before after did stops = record {
  cards = cards;
  did = cards_line_done is_so cards sitting sitting' before after did stops;
}

pub deck_line_part : (is_so : Bool) (cards : List Card) (sitting sitting' : SittingAccount) (before after : NotebookAccount)
    → is_so ≡ true → PartOfCards cards sitting sitting' → after.stops ≡ before.stops
    → DeckOfLine is_so (at_console sitting before) (at_console sitting' after)
deck_line_part is_so cards sitting sitting' before after cut part stops = record {
  cards = cards;
  did = cards_line_part is_so cards sitting sitting' before after cut part stops;
}

pub ruleset deck_did = (deck_line_done, deck_line_part)

pub no_deck : (is_so : Bool) (sitting : SittingAccount) (before after : NotebookAccount)
    → is_so ≡ true → after.stops ≡ before.stops
    → DeckOfLine is_so (at_console sitting before) (at_console sitting after)
no_deck is_so sitting before after cut stops =
    deck_line_part is_so [] sitting sitting before after cut (inl (same sitting)) stops

-- one card
pub card_line_done : (is_so : Bool) (card : Card) (cards : List Card) (sitting sitting' : SittingAccount)
    (before after : NotebookAccount)
    → cards ≡ card ∷ [] → CardsDone cards sitting sitting' → after.stops ≡ before.stops
    → CardsOfLine is_so (card ∷ []) (at_console sitting before) (at_console sitting' after)
card_line_done is_so card cards sitting sitting' before after is did stops =
    subst (λ (some : List Card). CardsOfLine is_so some (at_console sitting before) (at_console sitting' after)) is
    (cards_line_done is_so cards sitting sitting' before after did stops)

pub card_line_part : (is_so : Bool) (card : Card) (cards : List Card) (sitting sitting' : SittingAccount)
    (before after : NotebookAccount)
    → cards ≡ card ∷ [] → is_so ≡ true → PartOfCards cards sitting sitting' → after.stops ≡ before.stops
    → CardsOfLine is_so (card ∷ []) (at_console sitting before) (at_console sitting' after)
card_line_part is_so card cards sitting sitting' before after is cut part stops =
    subst (λ (some : List Card). CardsOfLine is_so some (at_console sitting before) (at_console sitting' after)) is
    (cards_line_part is_so cards sitting sitting' before after cut part stops)

pub ruleset card_did = (card_line_done, card_line_part)

pub no_card : (is_so : Bool) (card : Card) (it : AtConsole) → is_so ≡ true → CardsOfLine is_so (card ∷ []) it it
no_card is_so card it cut = record { did = inr (cut, inl (same it.sitting)); stops = refl }

-- the card of a line, or the fault of its text
pub feed_did : (is_so : Bool) (answer : Result Card ActFault) (card : Card) (before after : AtConsole)
    → answer ≡ Ok card → CardsOfLine is_so (card ∷ []) before after → FeedDid is_so answer before after
feed_did is_so answer card before after is did =
    subst (λ (it : Result Card ActFault). FeedDid is_so it before after) (sym is) did

pub feed_nothing : (is_so : Bool) (answer : Result Card ActFault) (why : ActFault) (before after : AtConsole)
    → answer ≡ Err why → is_so ≡ true → IsLeft before after → FeedDid is_so answer before after
feed_nothing is_so answer why before after is cut left =
    subst (λ (it : Result Card ActFault). FeedDid is_so it before after) (sym is) (cut, left)

-- the load key, after what devices want; or not all of that
pub load_done : (before middle after : SittingAccount) (commands : List Command) (is_last : Bool)
    (noted noted' : NotebookAccount) (room : Account)
    → TendedAll before middle → commands ≡ LoadKey ∷ []
    → journal_of after ≡ carried_on middle.account.room.size (journal_of middle) commands
    → after.account.room.size ≡ middle.account.room.size → after.notes ≡ middle.notes → noted'.stops ≡ noted.stops
    → room ≡ after.account.room
    → (is_some (refusal_of_last room.journal commands) ≡ true → noted'.is_faulted ≡ true)
    → LoadOfLine (is_cut is_last noted') (at_console before noted) (at_console after noted')
load_done before middle after commands is_last noted noted' room tended is pressed size notes stops here told = record {
  did = inl (record {
    middle = middle;
    tended = tended;
    pressed = pressed ∙ ap (λ (some : List Command). carried_on middle.account.room.size (journal_of middle) some) is;
    refused = λ refused. is_told is_last noted' (told (
        ap (λ (some : List Command). is_some (refusal_of_last room.journal some)) is
        ∙ ap (λ (at : Account). is_some (refusal_of_last at.journal (LoadKey ∷ []))) here ∙ refused));
    size = size;
    notes = notes;
  });
  stops = stops;
}

pub load_part : (before middle after : SittingAccount) (commands : List Command) (is_so : Bool)
    (noted noted' : NotebookAccount)
    → TendedPart before middle → commands ≡ LoadKey ∷ [] → is_so ≡ true
    → CarriedFirst middle.account.room.size commands (journal_of middle) (journal_of after)
    → after.account.room.size ≡ middle.account.room.size → after.notes ≡ middle.notes → noted'.stops ≡ noted.stops
    → LoadOfLine is_so (at_console before noted) (at_console after noted')
load_part before middle after commands is_so noted noted' tended is cut pressed size notes stops = record {
  did = inr (
    cut,
    record {
      middle = middle;
      tended = tended;
      pressed = subst (λ (some : List Command). CarriedFirst middle.account.room.size some (journal_of middle)
          (journal_of after)) is pressed;
      size = size;
      notes = notes;
    },
  );
  stops = stops;
}

pub no_load : (before after : SittingAccount) (is_so : Bool) (noted noted' : NotebookAccount)
    → TendedPart before after → is_so ≡ true → noted'.stops ≡ noted.stops
    → LoadOfLine is_so (at_console before noted) (at_console after noted')
no_load before after is_so noted noted' tended cut stops =
    load_part before after after (LoadKey ∷ []) is_so noted noted' tended refl cut
    (none_carried after.account.room.size (LoadKey ∷ []) (journal_of after)) refl refl stops

-- a run up to the address that a place means, or its fault
pub until_did : (limit : Option ℕ) (is_so : Bool) (place : Result ℕ PlaceFault) (at : ℕ) (reach : Reach)
    (before after : AtConsole)
    → place ≡ Ok at → reach ≡ record { most = least_of None limit; until = Some at }
    → RanAsFar limit is_so reach before after → UntilDid limit is_so place before after
until_did limit is_so place at reach before after is far ran =
    subst (λ (it : Result ℕ PlaceFault). UntilDid limit is_so it before after) (sym is)
    (subst (λ (it : Reach). RanAsFar limit is_so it before after) far ran)

pub until_nowhere : (limit : Option ℕ) (is_so : Bool) (place : Result ℕ PlaceFault) (why : PlaceFault)
    (before after : AtConsole)
    → place ≡ Err why → is_so ≡ true → IsLeft before after → UntilDid limit is_so place before after
until_nowhere limit is_so place why before after is cut left =
    subst (λ (it : Result ℕ PlaceFault). UntilDid limit is_so it before after) (sym is) (cut, left)

-- a run of this reach
pub ran_of : (limit : Option ℕ) (is_so : Bool) (reach far : Reach) (before after : AtConsole)
    → reach ≡ far → RanAsFar limit is_so reach before after → RanAsFar limit is_so far before after
ran_of limit is_so reach far before after is ran =
    subst (λ (it : Reach). RanAsFar limit is_so it before after) is ran

-- an act from its parts, and an act that was cut off
pub whole_act : (known : Known) (limit : Option ℕ) (is_last is_faulted : Bool) (it : Act) (before middle after : AtConsole)
    → CommandsOfAct known it before.sitting middle.sitting → middle.stops ≡ before.stops
    → FollowDid known limit (is_last || is_faulted) it middle after → ActDid known limit is_last is_faulted it before after
whole_act known limit is_last is_faulted it before middle after did stops more =
    inl (record { middle = middle; commands = did; stops = stops; follows = more })

pub cut_act : (known : Known) (limit : Option ℕ) (is_last is_faulted : Bool) (it : Act) (before after : AtConsole)
    → (is_last || is_faulted) ≡ true → PartOfAct known is_last it before.sitting after.sitting
    → after.stops ≡ before.stops → ActDid known limit is_last is_faulted it before after
cut_act known limit is_last is_faulted it before after cut part stops =
    inr (record { is_so = cut; part = part; stops = stops })

-- a line goes back to a room, or nowhere
pub went_back : (is_so : Bool) (it : Past) (before after : SittingAccount) (earlier : EarlierAccount)
    → after.account.room ≡ earlier.room
    → after.notes ≡ notes_after earlier.origin (length earlier.room.journal) before.notes
    → EarlierIs it before earlier → PastDid is_so it before after
went_back is_so it before after earlier is notes found = inl (record {
  journal = subst (λ (room : Account). IsEarlier it before room.size room.journal) (sym is) found.journal;
  from = earlier.origin;
  origin = found.origin;
  notes = notes
      ∙ ap (λ (room : Account). notes_after earlier.origin (length room.journal) before.notes) (sym is);
})

-- an earlier room
pub earlier_is : (it : Past) (before : SittingAccount) (earlier : EarlierAccount)
    → IsEarlier it before earlier.room.size earlier.room.journal → IsOrigin it before earlier.origin
    → EarlierIs it before earlier
earlier_is it before earlier journal origin = record { journal = journal; origin = origin }

pub no_past : (is_so : Bool) (it : Past) (before : SittingAccount) → is_so ≡ true → PastDid is_so it before before
no_past is_so it before cut = inr (cut, same before)

pub past_of_line : (is_so : Bool) (it : Past) (sitting sitting' : SittingAccount) (before after : NotebookAccount)
    → PastDid is_so it sitting sitting' → after.stops ≡ before.stops
    → PastOfLine is_so it (at_console sitting before) (at_console sitting' after)
past_of_line is_so it sitting sitting' before after did stops = record { did = did; stops = stops }

-- a note
pub note_of_line : (known : Known) (is_so : Bool) (it : Note) (room : Account) (sitting sitting' : SittingAccount)
    (before after : NotebookAccount)
    → room ≡ sitting.account.room → sitting' ≡ sitting
    → StopsNoted known (state_of room.size room.journal) is_so it before.stops after.stops
    → Asserted known (state_of room.size room.journal) is_so it
    → NoteOfLine known is_so it (at_console sitting before) (at_console sitting' after)
note_of_line known is_so it room sitting sitting' before after here is stops asserted = record {
  same = subst (λ (now : SittingAccount). IsSame sitting now) (sym is) (same sitting);
  stops = subst
      (λ (at : Account). StopsNoted known (state_of at.size at.journal) is_so it before.stops after.stops) here stops;
  asserted = subst (λ (at : Account). Asserted known (state_of at.size at.journal) is_so it) here asserted;
}

-- what is asserted is so, or isn't, or has no field
pub asserted_so : (known : Known) (s : State) (condition : Condition) (it : Comparison) (noted : NotebookAccount)
    → Ok it ≡ condition_of known s condition → true ≡ compared_at s.storage it.field it.relation it.value
    → noted.is_faulted ≡ false → is_cut false noted ≡ not (is_so_at known s condition)
asserted_so known s condition it noted is so unfaulted =
    unfaulted ∙ ap not so ∙ ap (λ (found : Result Comparison PlaceFault). not (is_so_of s found)) is

pub asserted_not : (known : Known) (s : State) (condition : Condition) (it : Comparison) (is_last : Bool)
    (noted : NotebookAccount)
    → Ok it ≡ condition_of known s condition → false ≡ compared_at s.storage it.field it.relation it.value
    → noted.is_faulted ≡ true → is_cut is_last noted ≡ not (is_so_at known s condition)
asserted_not known s condition it is_last noted is not_so told =
    is_told is_last noted told ∙ ap not not_so
    ∙ ap (λ (found : Result Comparison PlaceFault). not (is_so_of s found)) is

pub asserted_nothing : (known : Known) (s : State) (condition : Condition) (why : PlaceFault) (is_last : Bool)
    (noted : NotebookAccount)
    → Err why ≡ condition_of known s condition → noted.is_faulted ≡ true
    → is_cut is_last noted ≡ not (is_so_at known s condition)
asserted_nothing known s condition why is_last noted is told =
    is_told is_last noted told ∙ ap (λ (found : Result Comparison PlaceFault). not (is_so_of s found)) is

pub ruleset is_asserted = (asserted_so, asserted_not, asserted_nothing)

-- the refusal of the last command, if there is an entry
pub last_refusal : (journal : List Entry) (command : Command) (commands : List Command) (it : Entry)
    (found : Option Refusal)
    → Some it ≡ slice_get journal (length journal - 1) → found ≡ refusal_of_entry (Some it)
    → found ≡ refusal_of_last journal (command ∷ commands)
last_refusal journal command commands it found last is = is ∙ ap refusal_of_entry last

-- no refusal
pub not_refused : (found : Option Refusal) (noted : NotebookAccount)
    → None ≡ found → is_some found ≡ true → noted.is_faulted ≡ true
not_refused found noted none is = absurd (true≢false (sym is ∙ ap is_some (sym none)))

-- the text of the journal
pub saved_text : (text : List ℕ) (size : ℕ) (journal : List Entry) (room : Account)
    → text ≡ journal_text size journal → size ≡ room.size → journal ≡ room.journal
    → text ≡ journal_text room.size room.journal
saved_text text size journal room is same whole =
    is ∙ ap (λ n. journal_text n journal) same ∙ ap (λ (entries : List Entry). journal_text room.size entries) whole

-- breaks and watches are set, or a fault is reported
pub set_so : (is_so : Bool) (answer : Result AllStops LookFault) (before after now : AllStops)
    → answer ≡ Ok after → now ≡ after → IsSet is_so answer before now
set_so is_so answer before after now is same =
    subst (λ (it : AllStops). IsSet is_so answer before it) (sym same) (inl is)

pub not_set : (is_so : Bool) (answer : Result AllStops LookFault) (before after now : AllStops)
    → is_so ≡ true → after ≡ before → now ≡ after → IsSet is_so answer before now
not_set is_so answer before after now cut stays same = inr (cut, same ∙ stays)

pub ruleset is_set = (set_so, not_set)

-- no line was done yet
pub no_line : (known : Known) (limit : Option ℕ) (it : AfterLines) → LinesSoFar known limit it it
no_line known limit it = ([], refl)

-- a line was done, from these breaks and watches
pub line_did : (known : Known) (limit : Option ℕ) (ended is_last : Bool) (line : List ℕ) (said : Result Order OrderFault)
    (sitting sitting' : SittingAccount) (found begun after : NotebookAccount) (faults faults' : ℕ)
    → ended ≡ is_last → said ≡ order_of line → is_quit said ≡ false → begun.stops ≡ found.stops
    → LineDid known limit ended after.is_faulted said (at_console sitting begun) (at_console sitting' after)
    → faults' ≡ faults_with faults after.is_faulted
    → SomeLineDid known limit is_last (record { at = at_console sitting found; faults = faults })
    (record { at = at_console sitting' after; faults = faults' })
line_did known limit ended is_last line said sitting sitting' found begun after faults faults' last is stays stops did so =
    record {
      line = line;
      is_faulted = after.is_faulted;
      stays = ap is_quit (sym is) ∙ stays;
      did = subst (λ (it : Bool). LineDid known limit it after.is_faulted (order_of line)
          (at_console sitting found) (at_console sitting' after)) last
          (subst (λ (it : Result Order OrderFault). LineDid known limit ended after.is_faulted it
          (at_console sitting found) (at_console sitting' after)) is
          (subst (λ (it : AllStops). LineDid known limit ended after.is_faulted said
          (record { sitting = sitting; stops = it }) (at_console sitting' after)) stops did));
      faults = so;
    }

-- a line more
pub line_more : (known : Known) (limit : Option ℕ) (before middle after : AfterLines)
    → LinesSoFar known limit before middle → SomeLineDid known limit false middle after
    → LinesSoFar known limit before after
line_more known limit before middle after so_far did = (middle ∷ so_far.0, (so_far.1, did))

-- the same breaks and watches, with another notebook
console_same : (sitting : SittingAccount) (found now : NotebookAccount) (faults : ℕ) (limit : Option ℕ) (known : Known)
    (before : AfterLines) → now.stops ≡ found.stops
    → LinesSoFar known limit before (record { at = at_console sitting found; faults = faults })
    → LinesSoFar known limit before (record { at = at_console sitting now; faults = faults })
console_same sitting found now faults limit known before same so_far =
    subst (λ (stops : AllStops). LinesSoFar known limit before
    (record { at = record { sitting = sitting; stops = stops }; faults = faults })) (sym same) so_far

-- lines that end by `quit`, with the input, or since something failed between two lines or in the last one
pub quit_said : (known : Known) (limit : Option ℕ) (before : AfterLines) (sitting : SittingAccount)
    (found now : NotebookAccount) (faults : ℕ) (line : List ℕ) (said : Result Order OrderFault)
    → LinesSoFar known limit before (record { at = at_console sitting found; faults = faults })
    → now.stops ≡ found.stops → said ≡ order_of line → is_quit said ≡ true
    → LinesDid known limit end.Quit before (record { at = at_console sitting now; faults = faults })
quit_said known limit before sitting found now faults line said so_far same is quits = record {
  last = record { at = at_console sitting now; faults = faults };
  lines = console_same sitting found now faults limit known before same so_far;
  ends = (record { line = line; is_so = ap is_quit (sym is) ∙ quits }, refl);
}

pub input_ended : (known : Known) (limit : Option ℕ) (before : AfterLines) (sitting : SittingAccount)
    (found now : NotebookAccount) (faults : ℕ)
    → LinesSoFar known limit before (record { at = at_console sitting found; faults = faults })
    → now.stops ≡ found.stops
    → LinesDid known limit end.EndOfInput before (record { at = at_console sitting now; faults = faults })
input_ended known limit before sitting found now faults so_far same = record {
  last = record { at = at_console sitting now; faults = faults };
  lines = console_same sitting found now faults limit known before same so_far;
  ends = refl;
}

pub unread : (known : Known) (limit : Option ℕ) (why : Failure) (before : AfterLines) (sitting : SittingAccount)
    (found now : NotebookAccount) (faults : ℕ)
    → LinesSoFar known limit before (record { at = at_console sitting found; faults = faults })
    → now.stops ≡ found.stops
    → LinesDid known limit (end.Failed why) before (record { at = at_console sitting now; faults = faults })
unread known limit why before sitting found now faults so_far same = record {
  last = record { at = at_console sitting now; faults = faults };
  lines = console_same sitting found now faults limit known before same so_far;
  ends = inl refl;
}

pub last_line : (known : Known) (limit : Option ℕ) (why : Failure) (before middle after : AfterLines)
    → LinesSoFar known limit before middle → SomeLineDid known limit true middle after
    → LinesDid known limit (end.Failed why) before after
last_line known limit why before middle after so_far did = record { last = middle; lines = so_far; ends = inr did }

-- lines end otherwise if their last answer can't be shown
worse_end : (known : Known) (limit : Option ℕ) (ended : OperateEnd) (why : Failure) (last after : AfterLines)
    → LinesEnd known limit ended last after → LinesEnd known limit (end.Failed why) last after
worse_end known limit end.Quit why last after ends = inl ends.1
worse_end known limit end.EndOfInput why last after ends = inl ends
worse_end known limit (end.Failed other) why last after ends = ends

shown_end : (known : Known) (limit : Option ℕ) (ended shown : OperateEnd) (before after : AfterLines)
    → LastShown ended shown → LinesDid known limit ended before after → LinesDid known limit shown before after
shown_end known limit ended shown before after (inl same) did =
    subst (λ (it : OperateEnd). LinesDid known limit it before after) (sym same) did
shown_end known limit ended shown before after (inr worse) did =
    subst (λ (it : OperateEnd). LinesDid known limit it before after) (sym worse.3) (record {
      last = did.last;
      lines = did.lines;
      ends = worse_end known limit ended worse.0 did.last after did.ends;
    })

-- the same of a sitting
pub operated : (known : Known) (limit : Option ℕ) (ended shown : OperateEnd) (before after : SittingAccount)
    (begun left : NotebookAccount) (faults : ℕ)
    → begun.stops ≡ no_stops
    → LinesDid known limit ended (record { at = at_console before begun; faults = 0 })
    (record { at = at_console after left; faults = faults })
    → LastShown ended shown
    → OperatedBy known limit before shown faults after
operated known limit ended shown before after begun left faults none did last = record {
  left = left.stops;
  lines = shown_end known limit ended shown
      (record { at = record { sitting = before; stops = no_stops }; faults = 0 })
      (record { at = at_console after left; faults = faults }) last
      (subst (λ (stops : AllStops). LinesDid known limit ended
      (record { at = record { sitting = before; stops = stops }; faults = 0 })
      (record { at = at_console after left; faults = faults })) none did);
}

pub not_operated : (known : Known) (limit : Option ℕ) (why : Failure) (before : SittingAccount)
    → OperatedBy known limit before (end.Failed why) 0 before
not_operated known limit why before = record {
  left = no_stops;
  lines = record {
    last = record { at = record { sitting = before; stops = no_stops }; faults = 0 };
    lines = no_line known limit (record { at = record { sitting = before; stops = no_stops }; faults = 0 });
    ends = inl refl;
  };
}
