-- Glances: what is typed for one, what it is answered, and what it leaves, computed.
use Rattle.std.proofs.Common.{◌≡◌, ℕ, true, false, List, [], ◌∷◌, ◌++◌, length, map, refl, arith}
use Rattle.std.specs.Fmt.{digits}
use Rattle.std.specs.Prelude.{Ok, Err, codes}
use Rattle.bcd_1401.specs.declared.cell.Cell.{Cell}
use Rattle.bcd_1401.specs.Graphic.{graphics}
use Rattle.machine_commands.specs.declared.command.Command.TheVariants.{Deposit, Examine}
use Rattle.machine_commands.specs.declared.fault.GlanceFault.TheVariants.{Range, Gone}
use Rattle.cpu_1401.specs.CarryOut.{carry_out}
use Rattle.console_text.specs.declared.line.Line.TheVariants.{Command, Glance}
use Rattle.console_text.specs.declared.line.LineFault.TheVariants.{Number, Extra, Word}
use Rattle.room_alone.specs.declared.reply.Reply.{Reply}
use Rattle.room_alone.specs.declared.reply.Reply.TheVariants as reply
use Rattle.console_text.specs.Words.{word_in, beyond_word, keyword_of, number_of, address_of}
use Rattle.console_text.specs.ConsoleLine.{Said, said_by, said_in_words, said_with, ended, glance_of}
use Rattle.console_text.specs.LineText.{IsLineOf}
use Rattle.console_text.specs.AnswerText.{answer_text, glance_text}
use Rattle.machine_notation.specs.Cells.{cells_text}
use Rattle.room_alone.specs.ReplyText.{text_of_reply}
use Rattle.room_alone.specs.Turns.{Turn, replies_to, journal_after}

-- what a line says, with all that its grammar consists of open
says : List ℕ → Said
unfolding said_by said_in_words said_with ended glance_of word_in beyond_word keyword_of number_of address_of
says line = said_by line

-- each of these lines says what is beside it
abbrev AllSay : List (List ℕ × Said) → Type 0
AllSay lines = map (λ line. said_by line.0) lines ≡ map (λ line. line.1) lines

a_glance_has_an_address : AllSay (
    (codes "GLANCE 0500", Ok (Glance 500)) ∷
    (codes "  GLANCE   15999 ", Ok (Glance 15999)) ∷
    (codes "GLANCE", Err Number) ∷
    (codes "GLANCE 16000", Err Number) ∷
    (codes "GLANCE K", Err Number) ∷
    (codes "GLANCE K 1", Err Number) ∷
    (codes "GLANCE 500 1", Err Extra) ∷
    (codes "GLANCE 16000 1", Err Number) ∷
    (codes "GLANCES 500", Err Word) ∷ [])
unfolding says
a_glance_has_an_address = refl

-- blanks in front, between and after, and zeros in front of the address
glance_with_blanks_and_zeros : IsLineOf (Glance 500) (codes " GLANCE  0500  ")
unfolding digits
glance_with_blanks_and_zeros = record {
  can_be = omega arith;
  short = omega arith;
  typed = (
    1,
    codes "GLANCE",
    codes "  0500  ",
    refl,
    refl,
    refl,
    (2, codes "0500", codes "  ", refl, (1, refl, omega arith), refl, (2, refl)),
  );
}

-- the text of a reply, with all that it consists of open
unfoldable text : Reply → List ℕ
unfolding text_of_reply glance_text digits graphics
text given = text_of_reply given

-- each of these replies has the text beside it
abbrev AllRead : List (Reply × List ℕ) → Type 0
AllRead replies = map (λ given. text_of_reply given.0) replies ≡ map (λ given. given.1) replies

a_glance_shows_a_count_and_a_cell : AllRead (
    (reply.Glance (record { after = 1; cell = record { char = 34; mark = true } }), codes "AFTER 1 ~K") ∷
    (reply.Glance (record { after = 0; cell = record { char = 0; mark = false } }), codes "AFTER 0  ") ∷
    (reply.Glance (record { after = 100000; cell = record { char = 10; mark = false } }), codes "AFTER 100000 0") ∷
    (reply.GlanceFault Range, codes "GLANCE FAULT 1 RANGE") ∷
    (reply.GlanceFault Gone, codes "GLANCE FAULT 2 GONE") ∷ [])
unfolding text
a_glance_shows_a_count_and_a_cell = refl

-- 0 with a word mark, and K
two_cells : List Cell
two_cells = record { char = 10; mark = true } ∷ record { char = 34; mark = false } ∷ []

-- a line at which memory isn't refused, and one at which it is
unfoldable good : Said → Turn
good said = record { said = said; memory_refused = false }

refused : Said → Turn
refused said = record { said = said; memory_refused = true }

-- the replies to some lines at a machine of this size, with all that they consist of open
unfoldable replies_in : ℕ → List Turn → List ℕ
unfolding text_of_reply glance_text answer_text cells_text digits graphics carry_out
replies_in size turns = replies_to size [] turns

a_glance_shows_what_was_deposited :
    replies_to 20 []
    (good (Ok (Glance 5)) ∷ good (Ok (Command (Deposit 5 two_cells))) ∷ good (Ok (Glance 5)) ∷ good (Ok (Glance 6))
    ∷ good (Ok (Glance 19)) ∷ good (Ok (Glance 20)) ∷ refused (Ok (Glance 6)) ∷ [])
    ≡ codes "AFTER 0  " ++ 10 ∷ codes "OK" ++ 10 ∷ codes "AFTER 1 ~0" ++ 10 ∷ codes "AFTER 1 K" ++ 10
    ∷ codes "AFTER 1  " ++ 10 ∷ codes "GLANCE FAULT 1 RANGE" ++ 10 ∷ codes "AFTER 1 K" ++ 10 ∷ []
unfolding replies_in two_cells good refused
a_glance_shows_what_was_deposited = refl

a_glance_is_not_recorded :
    length (journal_after 20 []
    (good (Ok (Glance 5)) ∷ good (Ok (Command (Examine 20 1))) ∷ refused (Ok (Glance 5)) ∷ good (Ok (Glance 20)) ∷ []))
    ≡ 1
unfolding replies_in good refused
a_glance_is_not_recorded = refl
