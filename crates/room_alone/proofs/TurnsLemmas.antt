-- The lines that were answered at a room, and what a session there leaves.
use Rattle.std.proofs.Common.{◌≡◌, ℕ, zero, suc, ◌+◌, ◌<◌, ◌≤◌, Bool, false, List, [], ◌∷◌, ◌++◌, length, take, Option}
use Rattle.std.proofs.Common.{refl, ◌∙◌, ap, subst, arith}
use Rattle.std.proofs.lemmas.List.{take-take}
use Rattle.std.proofs.lemmas.List.Elements.{All-nil, All-cons, All-take}
use Rattle.std.specs.Prelude.{All, Ok, Err}
use Rattle.room_alone.specs.declared.entry.Entry.{Entry}
use Rattle.room_alone.specs.Account.{Account}
use Rattle.room_alone.specs.Kept.{KeptAccount}
use Rattle.room_alone.specs.declared.reply.Reply.{Reply}
use Rattle.room_alone.specs.declared.session_end.SessionEnd.{SessionEnd}
use Rattle.room_alone.specs.declared.session_end.SessionEnd.TheVariants as end
use Rattle.console_text.specs.ConsoleLine.{Said}
use Rattle.room_alone.specs.ReplyText.{bytes_of}
use Rattle.console_text.specs.declared.line.Line.TheVariants as line
use Rattle.room_alone.specs.Turns.{Turn, RoomResponds, Answered, NoneRefused, entries_of, commands_in, reply_of}
use Rattle.room_alone.specs.Turns.{AnsweredKept, KeptResponds, journal_after, replies_to}
use Rattle.room_alone.specs.Session.{HasEnded, SessionDid}
use Rattle.room_alone.specs.Answering.{AnsweredAll}

-- of fewer commands none was refused either
none_of_fewer : (fewer many : ℕ) (turns : List Turn) → fewer ≤ many → NoneRefused (take many turns)
    → NoneRefused (take fewer turns)
none_of_fewer fewer many turns few none =
    let P : Turn → Type 0 = λ turn. turn.memory_refused ≡ false in
    subst (All P) (take-take fewer many turns few) (All-take P fewer (take many turns) none)

-- one command in front: memory was refused at it only if nothing was spare
none_in_front : (spare left : ℕ) (turn : Turn) (turns : List Turn) → (0 < spare → turn.memory_refused ≡ false)
    → spare ≤ left + 1 → NoneRefused (take left turns) → NoneRefused (take spare (turn ∷ turns))
none_in_front zero left turn turns here few none = All-nil (λ (t : Turn). t.memory_refused ≡ false)
none_in_front (suc spare) left turn turns here few none =
    let P : Turn → Type 0 = λ turn. turn.memory_refused ≡ false in
    All-cons P turn (take spare turns) (here (omega arith)) (none_of_fewer spare left turns (omega arith) none)

-- one line in front, which is a command or isn't
none_with : (said : Said) (memory_refused : Bool) (spare left : ℕ) (turns : List Turn)
    → (0 < spare → memory_refused ≡ false) → spare ≤ left + entries_of said
    → NoneRefused (take left (commands_in turns))
    → NoneRefused (take spare (commands_in (record { said = said; memory_refused = memory_refused } ∷ turns)))
none_with (Ok line.Empty) memory_refused spare left turns here few none =
    none_of_fewer spare left (commands_in turns) (omega arith) none
none_with (Ok (line.Command command)) memory_refused spare left turns here few none =
    let turn : Turn = record { said = Ok (line.Command command); memory_refused = memory_refused } in
    none_in_front spare left turn (commands_in turns) here few none
none_with (Ok (line.Glance address)) memory_refused spare left turns here few none =
    none_of_fewer spare left (commands_in turns) (omega arith) none
none_with (Ok line.Quit) memory_refused spare left turns here few none =
    none_of_fewer spare left (commands_in turns) (omega arith) none
none_with (Err fault) memory_refused spare left turns here few none =
    none_of_fewer spare left (commands_in turns) (omega arith) none

-- what is spare afterwards, with one line in front
spare_with : (said : Said) (memory_refused : Bool) (spare middle left : ℕ) (turns : List Turn)
    → spare ≤ middle + entries_of said → middle ≤ left + length (commands_in turns)
    → spare ≤ left + length (commands_in (record { said = said; memory_refused = memory_refused } ∷ turns))
spare_with (Ok line.Empty) memory_refused spare middle left turns here rest = omega arith
spare_with (Ok (line.Command command)) memory_refused spare middle left turns here rest = omega arith
spare_with (Ok (line.Glance address)) memory_refused spare middle left turns here rest = omega arith
spare_with (Ok line.Quit) memory_refused spare middle left turns here rest = omega arith
spare_with (Err fault) memory_refused spare middle left turns here rest = omega arith

-- at a room, the lines answered are turns, each with its flag
pub answered_at_room : (before : Account) (lines : List Said) (written : List ℕ) (after : Account)
    → AnsweredAll RoomResponds before lines written after → Answered before lines written after
answered_at_room before [] written after a = record {
  turns = [];
  lines_are = refl;
  reserved =
      let P : Turn → Type 0 = λ turn. turn.memory_refused ≡ false in All-take P before.spare [] (All-nil P);
  spare_is = omega (arith, ap (λ (room : Account). room.spare) a.1);
  written_is = a.0;
  journal_is = ap (λ (room : Account). room.journal) a.1;
  size_is = ap (λ (room : Account). room.size) a.1;
}
answered_at_room before (said ∷ lines) written after a =
    let took = a.3 in
    let more : Answered a.0 lines a.2 after = answered_at_room a.0 lines a.2 after a.5 in
    record {
      turns = record { said = said; memory_refused = took.memory_refused } ∷ more.turns;
      lines_are = ap (λ (rest : List Said). said ∷ rest) more.lines_are;
      reserved =
          none_with said took.memory_refused before.spare a.0.spare more.turns
          took.reserved took.spare_is more.reserved;
      spare_is =
          spare_with said took.memory_refused before.spare a.0.spare after.spare more.turns took.spare_is more.spare_is;
      written_is =
          a.4
          ∙ ap (λ (reply : Option Reply). bytes_of reply ++ a.2) took.reply_is
          ∙ ap (λ (rest : List ℕ). bytes_of (reply_of before.size before.journal said took.memory_refused) ++ rest)
          (more.written_is ∙ ap (λ (size : ℕ). replies_to size a.0.journal more.turns) took.size_is
          ∙ ap (λ (journal : List Entry). replies_to before.size journal more.turns) took.journal_is);
      journal_is =
          more.journal_is
          ∙ ap (λ (size : ℕ). journal_after size a.0.journal more.turns) took.size_is
          ∙ ap (λ (journal : List Entry). journal_after before.size journal more.turns) took.journal_is;
      size_is = more.size_is ∙ took.size_is;
    }

size_by_end : (last : SessionEnd) (left : Option (List ℕ)) (before : Account) (read written : List ℕ) (after : Account)
    → HasEnded Answered last left before read written after → after.size ≡ before.size
size_by_end end.Quit left before read written after s = s.3.size_is
size_by_end end.EndOfInput left before read written after s = s.2.size_is
size_by_end end.Read left before read written after s = s.2.size_is
size_by_end end.Bound left before read written after s = s.2.size_is
size_by_end end.Write left before read written after s = s.4.last_answered.size_is ∙ s.4.front_answered.size_is
size_by_end end.Memory left before read written after s = s.4.last_answered.size_is ∙ s.4.front_answered.size_is
size_by_end end.Unkept left before read written after s = s.4.last_answered.size_is ∙ s.4.front_answered.size_is

-- a session leaves the room's size
pub size_stays : (last : SessionEnd) (l0 l1 t0 t1 : Option (List ℕ)) (before after : Account)
    → SessionDid Answered last l0 l1 t0 t1 before after → after.size ≡ before.size
size_stays last l0 l1 t0 t1 before after did = size_by_end last l1 before did.read did.written after did.session

-- lines answered at a room that is kept are answered at the room
at_its_room : (before : KeptAccount) (lines : List Said) (written : List ℕ) (after : KeptAccount)
    → AnsweredAll KeptResponds before lines written after
    → AnsweredAll RoomResponds before.room lines written after.room
at_its_room before [] written after a = (a.0, ap (λ (kept : KeptAccount). kept.room) a.1)
at_its_room before (said ∷ lines) written after a =
    (a.0.room, a.1, a.2, a.3, a.4, at_its_room a.0 lines a.2 after a.5)

pub answered_at_kept : (before : KeptAccount) (lines : List Said) (written : List ℕ) (after : KeptAccount)
    → AnsweredAll KeptResponds before lines written after → AnsweredKept before lines written after
answered_at_kept before lines written after a =
    answered_at_room before.room lines written after.room (at_its_room before lines written after a)

kept_size_by_end : (last : SessionEnd) (left : Option (List ℕ)) (before : KeptAccount) (read written : List ℕ)
    (after : KeptAccount)
    → HasEnded AnsweredKept last left before read written after → after.room.size ≡ before.room.size
kept_size_by_end end.Quit left before read written after s = s.3.size_is
kept_size_by_end end.EndOfInput left before read written after s = s.2.size_is
kept_size_by_end end.Read left before read written after s = s.2.size_is
kept_size_by_end end.Bound left before read written after s = s.2.size_is
kept_size_by_end end.Write left before read written after s = s.4.last_answered.size_is ∙ s.4.front_answered.size_is
kept_size_by_end end.Memory left before read written after s = s.4.last_answered.size_is ∙ s.4.front_answered.size_is
kept_size_by_end end.Unkept left before read written after s = s.4.last_answered.size_is ∙ s.4.front_answered.size_is

-- a session leaves the size of a room that is kept
pub kept_size_stays : (last : SessionEnd) (l0 l1 t0 t1 : Option (List ℕ)) (before after : KeptAccount)
    → SessionDid AnsweredKept last l0 l1 t0 t1 before after → after.room.size ≡ before.room.size
kept_size_stays last l0 l1 t0 t1 before after did =
    kept_size_by_end last l1 before did.read did.written after did.session
