-- A session of each end, computed.
use Rattle.std.proofs.Common.{◌≡◌, ◌≢◌, ℕ, zero, suc, false, List, [], ◌∷◌, ◌++◌, take, map, replicate, refl, sym, ◌∙◌}
use Rattle.std.proofs.Common.{ap, subst, arith}
use Rattle.std.proofs.lemmas.List.{length-replicate}
use Rattle.std.proofs.lemmas.List.Elements.{All-nil, All-cons}
use Rattle.std.specs.Prelude.{Some, Ok, codes}
use Rattle.core_1401.specs.Storage.{blank}
use Rattle.machine_commands.specs.declared.answer.Answer.TheVariants.{Cells}
use Rattle.machine_commands.specs.declared.command.Command.TheVariants.{Examine}
use Rattle.room_alone.specs.declared.entry.Entry.{Entry}
use Rattle.room_alone.specs.Account.{Account}
use Rattle.room_alone.specs.Journal.{entry}
use Rattle.console_text.specs.declared.line.Line.TheVariants.{Command, Quit}
use Rattle.console_text.specs.ConsoleLine.{Said}
use Rattle.room_alone.specs.declared.session_end.SessionEnd.TheVariants as end
use Rattle.machine_notation.specs.Bytes.{line_feed}
use Rattle.room_alone.specs.Session.{NoQuit, SessionDid}
use Rattle.room_alone.specs.Turns.{Turn, Answered, NoneRefused}
use Rattle.room_alone.specs.Limits.{most_bytes}
use Rattle.room_alone.specs.Text.{Cut, in_front, cut_of, said_finished, lines_of}
use Rattle.room_alone.proofs.SessionExamples.{lines_in, replies_in, good}

-- a text and a line feed
abbrev with_feed : List ℕ → List ℕ
with_feed text = text ++ line_feed ∷ []

-- a room of 20 places with this journal, and no entry spare
abbrev room_with : List Entry → Account
room_with journal = record { size = 20; journal = journal; spare = 0 }

-- what EXAMINE 5 says, how it is recorded, and what it is replied
abbrev examine : Said
examine = Ok (Command (Examine 5 1))

abbrev examined : Entry
examined = entry 0 (Examine 5 1) (Cells (blank ∷ []))

abbrev shown : List ℕ
shown = with_feed (codes " ")

-- nothing was refused
none_refused : (turns : List Turn) → NoneRefused (take 0 turns)
none_refused turns = All-nil (λ (turn : Turn). turn.memory_refused ≡ false)

-- none of these lines is QUIT
no_line_quits : NoQuit []
no_line_quits = All-nil (λ said. said ≢ Ok Quit)

examine_alone : NoQuit (examine ∷ [])
examine_alone = All-cons (λ said. said ≢ Ok Quit) examine [] (λ is. cc) no_line_quits

-- no line leaves a room as it was
nothing_answered : (journal : List Entry) → Answered (room_with journal) [] [] (room_with journal)
nothing_answered journal = record {
  turns = [];
  lines_are = refl;
  reserved = none_refused [];
  spare_is = omega arith;
  written_is = refl;
  journal_is = refl;
  size_is = refl;
}

-- a room answers EXAMINE 5
examine_answered : Answered (room_with []) (examine ∷ []) shown (room_with (examined ∷ []))
unfolding replies_in good
examine_answered = record {
  turns = good examine ∷ [];
  lines_are = refl;
  reserved = none_refused (good examine ∷ []);
  spare_is = omega arith;
  written_is = refl;
  journal_is = refl;
  size_is = refl;
}

-- a room that has answered it answers it once more
examine_answered_again : Answered (room_with (examined ∷ [])) (examine ∷ []) shown
    (room_with (examined ∷ examined ∷ []))
unfolding replies_in good
examine_answered_again = record {
  turns = good examine ∷ [];
  lines_are = refl;
  reserved = none_refused (good examine ∷ []);
  spare_is = omega arith;
  written_is = refl;
  journal_is = refl;
  size_is = refl;
}

-- QUIT ends a session, and what follows it is left
ends_with_quit : SessionDid Answered end.Quit
    (Some (with_feed (codes "EXAMINE 5") ++ with_feed (codes "QUIT") ++ codes "REGS")) (Some (codes "REGS"))
    (Some (codes "OLD")) (Some (codes "OLD" ++ shown ++ with_feed (codes "BYE")))
    (room_with []) (room_with (examined ∷ []))
unfolding lines_in replies_in good
ends_with_quit = record {
  read = with_feed (codes "EXAMINE 5") ++ with_feed (codes "QUIT");
  written = shown ++ with_feed (codes "BYE");
  consumed = refl;
  appended = refl;
  bound = omega arith;
  session = (
    false,
    examine ∷ [],
    record { lines_are = refl; no_quit = examine_alone; ends = refl },
    record {
      turns = good examine ∷ good (Ok Quit) ∷ [];
      lines_are = refl;
      reserved = none_refused (good examine ∷ []);
      spare_is = omega arith;
      written_is = refl;
      journal_is = refl;
      size_is = refl;
    },
  );
}

-- the input ends, and its last line, which has no line feed, is answered
ends_with_the_input : SessionDid Answered end.EndOfInput
    (Some (codes "EXAMINE 5")) (Some []) (Some []) (Some shown) (room_with []) (room_with (examined ∷ []))
unfolding lines_in
ends_with_the_input = record {
  read = codes "EXAMINE 5";
  written = shown;
  consumed = refl;
  appended = refl;
  bound = omega arith;
  session = ((refl, omega arith), examine_alone, examine_answered);
}

-- a read fails in the second line, which isn't answered
ends_with_a_failed_read : SessionDid Answered end.Read
    (Some (with_feed (codes "EXAMINE 5") ++ with_feed (codes "QUIT"))) (Some (with_feed (codes "IT")))
    (Some []) (Some shown) (room_with []) (room_with (examined ∷ []))
unfolding lines_in
ends_with_a_failed_read = record {
  read = with_feed (codes "EXAMINE 5") ++ codes "QU";
  written = shown;
  consumed = refl;
  appended = refl;
  bound = omega arith;
  session = (omega arith, examine_alone, examine_answered);
}

-- a write fails in the second reply, of which the blank was written and the line feed wasn't: the command is recorded
ends_with_a_failed_write : SessionDid Answered end.Write
    (Some (with_feed (codes "EXAMINE 5") ++ with_feed (codes "EXAMINE 5") ++ codes "QUIT")) (Some (codes "QUIT"))
    (Some []) (Some (shown ++ codes " ")) (room_with []) (room_with (examined ∷ examined ∷ []))
unfolding lines_in
ends_with_a_failed_write = record {
  read = with_feed (codes "EXAMINE 5") ++ with_feed (codes "EXAMINE 5");
  written = shown ++ codes " ";
  consumed = refl;
  appended = refl;
  bound = omega arith;
  session = (
    false,
    examine ∷ [],
    examine,
    record { lines_are = refl; no_quit = examine_alone; ends = refl },
    record {
      replies = shown;
      middle = room_with (examined ∷ []);
      front_answered = examine_answered;
      reply = shown;
      last_answered = examine_answered_again;
      some = omega arith;
      part = codes " ";
      begins = (line_feed ∷ [], refl);
      written_is = refl;
    },
  );
}

-- the memory for the first reply is refused: nothing is written, and the command is recorded
ends_with_refused_memory : SessionDid Answered end.Memory
    (Some (with_feed (codes "EXAMINE 5") ++ codes "QUIT")) (Some (codes "QUIT"))
    (Some []) (Some []) (room_with []) (room_with (examined ∷ []))
unfolding lines_in
ends_with_refused_memory = record {
  read = with_feed (codes "EXAMINE 5");
  written = [];
  consumed = refl;
  appended = refl;
  bound = omega arith;
  session = (
    false,
    [],
    examine,
    record { lines_are = refl; no_quit = no_line_quits; ends = refl },
    record {
      replies = [];
      middle = room_with [];
      front_answered = nothing_answered [];
      reply = shown;
      last_answered = examine_answered;
      some = omega arith;
      part = [];
      begins = (shown, refl);
      written_is = refl;
    },
    refl,
  );
}

-- in a text of blanks alone no line is finished
blanks_alone : (n : ℕ) → cut_of (replicate n 32) ≡ record { finished = []; rest = replicate n 32 }
unfolding cut_of
blanks_alone zero = refl
blanks_alone (suc n) = ap (in_front 32) (blanks_alone n)

-- as many blanks were read as a session reads bytes: they are no line, and QUIT after them isn't read
ends_at_the_bound : (n : ℕ) → n ≡ most_bytes → SessionDid Answered end.Bound
    (Some (replicate n 32 ++ codes "QUIT")) (Some (codes "QUIT")) (Some []) (Some []) (room_with []) (room_with [])
ends_at_the_bound n all =
    let none : lines_of false (replicate n 32) ≡ [] =
    ap (λ (cut : Cut). map said_finished cut.finished) (blanks_alone n) in
    record {
      read = replicate n 32;
      written = [];
      consumed = refl;
      appended = refl;
      bound = omega (arith, length-replicate {A = ℕ} n 32);
      session = (
        length-replicate {A = ℕ} n 32 ∙ all,
        subst NoQuit (sym none) no_line_quits,
        subst (λ lines. Answered (room_with []) lines [] (room_with [])) (sym none) (nothing_answered []),
      );
    }
