-- What the lines answered one by one at a seat come to.
use Rattle.std.proofs.Common.{◌≡◌, ◌≤◌, ℕ, ◌+◌, List, [], ◌∷◌, ◌++◌, length, Option, None, Some}
use Rattle.std.proofs.Common.{refl, ◌∙◌, sym, ap, subst, arith, append_assoc}
use Rattle.std.proofs.lemmas.List.{length-append}
use Rattle.std.proofs.lemmas.List.Concat.{flat_map-cons}
use Rattle.std.specs.List.{zip}
use Rattle.std.specs.Prelude.{Ok, Err}
use mathlib.Core.List.{IsPrefix}
use Rattle.machine_commands.specs.declared.answer.Answer.{Answer}
use Rattle.machine_commands.specs.declared.command.Command.{Command}
use Rattle.room_alone.specs.declared.entry.SeatedCommand.{SeatedCommand}
use Rattle.machine_commands.specs.declared.fault.RoomFault.TheVariants.{Memory, JournalFull, NoReading, Unkept}
use Rattle.room_alone.specs.Journal.{most_entries}
use Rattle.room_alone.specs.Replay.{pair}
use Rattle.room_1401.specs.Seen.{SeatView}
use Rattle.console_text.specs.declared.line.Line.TheVariants as line
use Rattle.room_alone.specs.declared.reply.Reply.{Reply}
use Rattle.room_alone.specs.declared.reply.Reply.TheVariants as reply
use Rattle.room_alone.specs.declared.session_end.SessionEnd.{SessionEnd}
use Rattle.room_alone.specs.declared.session_end.SessionEnd.TheVariants as end
use Rattle.room_alone.specs.Answering.{AnsweredAll}
use Rattle.console_1401.specs.Attended.{Replied, Stand, Between, LineReplied, AllReplied, Attended, carried_in}
use Rattle.console_1401.specs.Attended.{command_in, answer_in}
use Rattle.console_text.specs.ConsoleLine.{Said}
use Rattle.room_alone.specs.ReplyText.{bytes_of}
use Rattle.room_alone.specs.Session.{HasEnded, SessionDid}
use Rattle.console_1401.specs.SeatTurns.{KeptResponds, SeatResponds, LineResponds}

prefix_self : {A : Type 0} (xs : List A) → IsPrefix xs xs
prefix_self [] = ([], refl)
prefix_self (x ∷ xs) = (let rest = prefix_self xs in rest.0, ap (λ ys. x ∷ ys) (prefix_self xs).1)

prefix_trans : {A : Type 0} (xs ys zs : List A) → IsPrefix xs ys → IsPrefix ys zs → IsPrefix xs zs
prefix_trans xs ys zs p q =
    (p.0 ++ q.0, sym (append_assoc xs p.0 q.0) ∙ (ap (λ more. more ++ q.0) p.1 ∙ q.1))

prefix_more : {A : Type 0} (xs : List A) (x : A) → IsPrefix xs (xs ++ x ∷ [])
prefix_more xs x = (x ∷ [], refl)

prefix_of_same : (xs ys : List SeatedCommand) → ys ≡ xs → IsPrefix xs ys
prefix_of_same xs ys same = subst (λ list. IsPrefix xs list) (sym same) (prefix_self xs)

-- what goes beyond a list makes the other one go on from it
goes_on : (size seat : ℕ) (before : List SeatedCommand) (carried : List (Command × Answer)) (list : List SeatedCommand)
    → Stand size seat before carried list → IsPrefix before list
goes_on size seat before [] list s = s
goes_on size seat before (one ∷ more) list s =
    let last : SeatedCommand = pair seat one.0 in
    prefix_trans before s.0 list s.1
    (prefix_trans s.0 (s.0 ++ last ∷ []) list (prefix_more s.0 last)
    (goes_on size seat (s.0 ++ last ∷ []) more list s.3))

-- what goes beyond a list goes beyond a beginning of it
stand_from : (size seat : ℕ) (first before : List SeatedCommand) (carried : List (Command × Answer)) (list : List SeatedCommand)
    → IsPrefix first before → Stand size seat before carried list → Stand size seat first carried list
stand_from size seat first before [] list p s = prefix_trans first before list p s
stand_from size seat first before (one ∷ more) list p s = (s.0, prefix_trans first before s.0 p s.1, s.2, s.3)

between_from : (first before after : List SeatedCommand) (P : List SeatedCommand → Type 0) → IsPrefix first before
    → Between before after P → Between first after P
between_from first before after P p b = (b.0, prefix_trans first before b.0 p b.1, b.2, b.3)

-- a reply between two lists is one between a beginning of the first and the second
reply_from : (size : ℕ) (first before after : List SeatedCommand) (said : Said) (given : Option Reply)
    → IsPrefix first before
    → LineReplied size before after said given → LineReplied size first after said given
reply_from size first before after (Ok line.Empty) given p r = r
reply_from size first before after (Ok (line.Command command)) None p r = r
reply_from size first before after (Ok (line.Command command)) (Some (reply.Answer answer)) p r = r
reply_from size first before after (Ok (line.Command command)) (Some (reply.RoomFault Memory)) p r =
    between_from first before after _ p r
reply_from size first before after (Ok (line.Command command)) (Some (reply.RoomFault JournalFull)) p r = r
reply_from size first before after (Ok (line.Command command)) (Some (reply.RoomFault NoReading)) p r = r
reply_from size first before after (Ok (line.Command command)) (Some (reply.RoomFault Unkept)) p r = r
reply_from size first before after (Ok (line.Command command)) (Some (reply.Glance glance)) p r = r
reply_from size first before after (Ok (line.Command command)) (Some (reply.GlanceFault fault)) p r = r
reply_from size first before after (Ok (line.Command command)) (Some (reply.LineFault fault)) p r = r
reply_from size first before after (Ok (line.Command command)) (Some reply.Bye) p r = r
reply_from size first before after (Ok (line.Glance address)) None p r = r
reply_from size first before after (Ok (line.Glance address)) (Some (reply.Answer answer)) p r = r
reply_from size first before after (Ok (line.Glance address)) (Some (reply.RoomFault fault)) p r = r
reply_from size first before after (Ok (line.Glance address)) (Some (reply.Glance glance)) p r =
    (r.0, between_from first before after _ p r.1)
reply_from size first before after (Ok (line.Glance address)) (Some (reply.GlanceFault fault)) p r = r
reply_from size first before after (Ok (line.Glance address)) (Some (reply.LineFault fault)) p r = r
reply_from size first before after (Ok (line.Glance address)) (Some reply.Bye) p r = r
reply_from size first before after (Ok line.Quit) given p r = r
reply_from size first before after (Err fault) given p r = r

all_from : (size : ℕ) (first before after : List SeatedCommand) (replied : List Replied) → IsPrefix first before
    → AllReplied size before after replied → AllReplied size first after replied
all_from size first before after [] p r = tt
all_from size first before after (given ∷ more) p r =
    (reply_from size first before after given.said given.reply p r.0, all_from size first before after more p r.1)

-- One line in front of what is known of those after it.
pub record Leads (size : ℕ) (before : SeatView) (said : Said) (given : Option Reply) (middle after : SeatView) : Type 0 where
  pub grows : IsPrefix before.list middle.list
  pub made_is : middle.made ≡ before.made + length (zip (command_in said) (answer_in given))
  pub reply : IsPrefix middle.list after.list → length after.list ≤ most_entries
      → LineReplied size before.list after.list said given
  pub stand : (carried : List (Command × Answer)) → Stand size before.number middle.list carried after.list
      → Stand size before.number before.list (zip (command_in said) (answer_in given) ++ carried) after.list

-- a line after which the seat knows the same, and which neither gives a command nor is answered by the machine
pub record Stays (size : ℕ) (before : SeatView) (said : Said) (given : Option Reply) (middle after : SeatView) : Type 0 where
  pub grows : IsPrefix before.list middle.list
  pub made_is : middle.made ≡ before.made
  pub none : zip (command_in said) (answer_in given) ≡ []
  pub reply : IsPrefix middle.list after.list → length after.list ≤ most_entries
      → LineReplied size before.list after.list said given

still : (size : ℕ) (before : SeatView) (said : Said) (given : Option Reply) (middle after : SeatView)
    → Stays size before said given middle after → Leads size before said given middle after
still size before said given middle after s = record {
  grows = s.grows;
  made_is = omega (arith, s.made_is, ap length s.none);
  reply = s.reply;
  stand = λ carried more.
      subst (λ (now : List (Command × Answer)). Stand size before.number before.list (now ++ carried) after.list)
      (sym s.none) (stand_from size before.number before.list middle.list carried after.list s.grows more);
}

-- nothing was seen or made, whatever else the reply is
same : (size : ℕ) (before : SeatView) (said : Said) (given : Option Reply) (middle after : SeatView) → middle ≡ before
    → zip (command_in said) (answer_in given) ≡ [] → LineReplied size before.list after.list said given
    → Leads size before said given middle after
same size before said given middle after is none replied =
    still size before said given middle after (record {
      grows = prefix_of_same before.list middle.list (ap (λ (seat : SeatView). seat.list) is);
      made_is = ap (λ (seat : SeatView). seat.made) is;
      none = none;
      reply = λ grows few. replied;
    })

-- a list that goes on from a full one, and isn't longer than a full one, is full
all_seen : (full list : List SeatedCommand) → length full ≡ most_entries → IsPrefix full list
    → length list ≤ most_entries
    → length list ≡ most_entries
all_seen full list is grows few = omega (arith, is, few, ap length (grows.1), length-append full grows.0)

-- one line in front, by what it says and how it was answered
in_front : (size : ℕ) (before : SeatView) (said : Said) (given : Option Reply) (middle after : SeatView)
    → LineResponds size before said given middle → Leads size before said given middle after
in_front size before (Ok line.Empty) given middle after r =
    same size before (Ok line.Empty) given middle after r.1 refl r.0
in_front size before (Ok (line.Command command)) None middle after r = absurd r
in_front size before (Ok (line.Command command)) (Some (reply.Answer answer)) middle after r =
    let carries = r.0 in
    let last : SeatedCommand = pair before.number command in
    let there : IsPrefix carries.front middle.list =
    subst (λ list. IsPrefix carries.front list) (sym carries.ends) (prefix_more carries.front last) in
    record {
      grows = prefix_trans before.list carries.front middle.list carries.begins there;
      made_is = r.1;
      reply = λ grows few. tt;
      stand = λ carried more. (
        carries.front,
        carries.begins,
        carries.answered,
        subst (λ list. Stand size before.number list carried after.list) carries.ends more,
      );
    }
in_front size before (Ok (line.Command command)) (Some (reply.RoomFault Memory)) middle after r =
    still size before (Ok (line.Command command)) (Some (reply.RoomFault Memory)) middle after
    (record { grows = r.0; made_is = r.1; none = refl; reply = λ grows few. (middle.list, r.0, grows, r.3 refl) })
in_front size before (Ok (line.Command command)) (Some (reply.RoomFault JournalFull)) middle after r =
    still size before (Ok (line.Command command)) (Some (reply.RoomFault JournalFull)) middle after
    (record {
      grows = r.0;
      made_is = r.1;
      none = refl;
      reply = λ grows few. all_seen middle.list after.list (r.2 refl) grows few;
    })
in_front size before (Ok (line.Command command)) (Some (reply.RoomFault NoReading)) middle after r =
    still size before (Ok (line.Command command)) (Some (reply.RoomFault NoReading)) middle after
    (record { grows = r.0; made_is = r.1; none = refl; reply = λ grows few. tt })
in_front size before (Ok (line.Command command)) (Some (reply.RoomFault Unkept)) middle after r =
    still size before (Ok (line.Command command)) (Some (reply.RoomFault Unkept)) middle after
    (record { grows = r.0; made_is = r.1; none = refl; reply = λ grows few. tt })
in_front size before (Ok (line.Command command)) (Some (reply.Glance glance)) middle after r = absurd r
in_front size before (Ok (line.Command command)) (Some (reply.GlanceFault fault)) middle after r = absurd r
in_front size before (Ok (line.Command command)) (Some (reply.LineFault fault)) middle after r = absurd r
in_front size before (Ok (line.Command command)) (Some reply.Bye) middle after r = absurd r
in_front size before (Ok (line.Glance address)) None middle after r = absurd r
in_front size before (Ok (line.Glance address)) (Some (reply.Answer answer)) middle after r = absurd r
in_front size before (Ok (line.Glance address)) (Some (reply.RoomFault fault)) middle after r = absurd r
in_front size before (Ok (line.Glance address)) (Some (reply.Glance glance)) middle after r =
    still size before (Ok (line.Glance address)) (Some (reply.Glance glance)) middle after (record {
      grows = r.1;
      made_is = r.4;
      none = refl;
      reply = λ grows few. (r.0, (middle.list, r.1, grows, (r.2, r.3)));
    })
in_front size before (Ok (line.Glance address)) (Some (reply.GlanceFault fault)) middle after r =
    same size before (Ok (line.Glance address)) (Some (reply.GlanceFault fault)) middle after r.1 refl r.0
in_front size before (Ok (line.Glance address)) (Some (reply.LineFault fault)) middle after r = absurd r
in_front size before (Ok (line.Glance address)) (Some reply.Bye) middle after r = absurd r
in_front size before (Ok line.Quit) given middle after r =
    same size before (Ok line.Quit) given middle after r.1 refl r.0
in_front size before (Err fault) given middle after r =
    same size before (Err fault) given middle after r.1 refl r.0

-- after each line the seat has seen no more than a full journal, so at the end too
seen_few : (size : ℕ) (before : SeatView) (lines : List Said) (written : List ℕ) (after : SeatView)
    → length before.list ≤ most_entries → AnsweredAll (SeatResponds size) before lines written after
    → length after.list ≤ most_entries
seen_few size before [] written after few a =
    subst (λ (seat : SeatView). length seat.list ≤ most_entries) (sym a.1) few
seen_few size before (said ∷ lines) written after few a = seen_few size a.0 lines a.2 after a.3.bound a.5

-- how many commands these lines gave, one line apart
carried_more : (said : Said) (given : Option Reply) (more : List Replied)
    → carried_in (record { said = said; reply = given } ∷ more)
    ≡ zip (command_in said) (answer_in given) ++ carried_in more
carried_more said given more =
    flat_map-cons (λ (one : Replied). zip (command_in one.said) (answer_in one.reply))
    (record { said = said; reply = given }) more

-- the lines answered at a seat, as the seat's own commands
attended_at_seat : (size : ℕ) (before : SeatView) (lines : List Said) (written : List ℕ) (after : SeatView)
    → AnsweredAll (SeatResponds size) before lines written after → Attended size before lines written after
attended_at_seat size before [] written after a = record {
  replied = [];
  lines_are = refl;
  written_is = a.0;
  number_is = ap (λ (seat : SeatView). seat.number) a.1;
  made_is = omega (arith, ap (λ (seat : SeatView). seat.made) a.1);
  stand = prefix_of_same before.list after.list (ap (λ (seat : SeatView). seat.list) a.1);
  each = tt;
}
attended_at_seat size before (said ∷ lines) written after a =
    let middle : SeatView = a.0 in
    let given : Option Reply = a.1 in
    let more : Attended size middle lines a.2 after = attended_at_seat size middle lines a.2 after a.5 in
    let front : Leads size before said given middle after =
    in_front size before said given middle after a.3.line in
    let here : Replied = record { said = said; reply = given } in
    let rest = carried_in more.replied in
    let beyond : Stand size before.number middle.list rest after.list =
    subst (λ seat. Stand size seat middle.list rest after.list) a.3.number_is more.stand in
    let grows : IsPrefix middle.list after.list = goes_on size before.number middle.list rest after.list beyond in
    let few = seen_few size middle lines a.2 after a.3.bound a.5 in
    let carried = carried_more said given more.replied in
    record {
      replied = here ∷ more.replied;
      lines_are = ap (λ (rest : List Said). said ∷ rest) more.lines_are;
      written_is =
          a.4 ∙ ap (λ (rest : List ℕ). bytes_of given ++ rest) more.written_is
          ∙ sym (flat_map-cons (λ (one : Replied). bytes_of one.reply) here more.replied);
      number_is = more.number_is ∙ a.3.number_is;
      made_is = omega (
        arith,
        more.made_is,
        front.made_is,
        ap length carried,
        length-append (zip (command_in said) (answer_in given)) rest,
      );
      stand =
          subst (λ (now : List (Command × Answer)). Stand size before.number before.list now after.list)
          (sym carried) (front.stand rest beyond);
      each = (
        front.reply grows few,
        all_from size before.list middle.list after.list more.replied front.grows more.each,
      );
    }

-- lines answered at a seat of a room with a keeper are answered at a seat
answered_at_seat : (size : ℕ) (has_kept has_failed : List SeatedCommand → Type 0) (before : SeatView)
    (lines : List Said) (written : List ℕ) (after : SeatView)
    → AnsweredAll (KeptResponds size has_kept has_failed) before lines written after
    → AnsweredAll (SeatResponds size) before lines written after
answered_at_seat size has_kept has_failed before [] written after a = a
answered_at_seat size has_kept has_failed before (said ∷ lines) written after a =
    (a.0, a.1, a.2, a.3.responded, a.4, answered_at_seat size has_kept has_failed a.0 lines a.2 after a.5)

pub attended_when_kept : (size : ℕ) (has_kept has_failed : List SeatedCommand → Type 0) (before : SeatView)
    (lines : List Said) (written : List ℕ) (after : SeatView)
    → AnsweredAll (KeptResponds size has_kept has_failed) before lines written after
    → Attended size before lines written after
attended_when_kept size has_kept has_failed before lines written after a =
    attended_at_seat size before lines written after
    (answered_at_seat size has_kept has_failed before lines written after a)

number_by_end : (size : ℕ) (last : SessionEnd) (left : Option (List ℕ)) (before : SeatView) (read written : List ℕ)
    (after : SeatView) → HasEnded (Attended size) last left before read written after → after.number ≡ before.number
number_by_end size end.Quit left before read written after s = s.3.number_is
number_by_end size end.EndOfInput left before read written after s = s.2.number_is
number_by_end size end.Read left before read written after s = s.2.number_is
number_by_end size end.Bound left before read written after s = s.2.number_is
number_by_end size end.Write left before read written after s =
    s.4.last_answered.number_is ∙ s.4.front_answered.number_is
number_by_end size end.Memory left before read written after s =
    s.4.last_answered.number_is ∙ s.4.front_answered.number_is
number_by_end size end.Unkept left before read written after s =
    s.4.last_answered.number_is ∙ s.4.front_answered.number_is

-- a seat keeps its number
pub number_stays : (size : ℕ) (last : SessionEnd) (l0 l1 t0 t1 : Option (List ℕ)) (before after : SeatView)
    → SessionDid (Attended size) last l0 l1 t0 t1 before after → after.number ≡ before.number
number_stays size last l0 l1 t0 t1 before after did =
    number_by_end size last l1 before did.read did.written after did.session
