-- Answers and their texts, computed.
use Rattle.std.proofs.Common.{◌≡◌, ℕ, true, false, List, [], ◌∷◌, ◌++◌, map, replicate, refl}
use Rattle.std.specs.Prelude.{codes}
use Rattle.std.specs.Fmt.{digits}
use Rattle.bcd_1401.specs.declared.cell.Cell.{Cell}
use Rattle.bcd_1401.specs.Graphic.{graphics}
use Rattle.machine_tables.specs.declared.regs.Regs.{Regs}
use Rattle.machine_tables.specs.declared.stop.Stop.TheVariants as stop
use Rattle.machine_commands.specs.declared.answer.Answer.{Answer}
use Rattle.machine_commands.specs.declared.answer.Answer.TheVariants as answer
use Rattle.machine_commands.specs.declared.answer.Refusal.TheVariants.{Address, Hopper, Reader, Empty, Limit, Count}
use Rattle.console_text.specs.AnswerText.{answer_text, switches_text, regs_text, ran_text, line_text}
use Rattle.machine_notation.specs.Cells.{cells_text}
use Rattle.console_text.specs.AnswerText.{card_text}
use Rattle.machine_notation.specs.Characters.{graphics_of, trimmed}

-- the text of an answer, with all that it consists of open
text : Answer → List ℕ
unfolding answer_text cells_text switches_text regs_text ran_text line_text card_text graphics_of trimmed digits
    graphics
text given = answer_text given

-- each of these answers has the text beside it
abbrev AllRead : List (Answer × List ℕ) → Type 0
AllRead answers = map (λ given. answer_text given.0) answers ≡ map (λ given. given.1) answers

-- a character without a word mark, and one with it
abbrev plain : ℕ → Cell
plain code = record { char = code; mark = false }

abbrev marked : ℕ → Cell
marked code = record { char = code; mark = true }

-- the registers at power-on
abbrev power_on : Regs
power_on = record {
  i = 0;
  a = 0;
  b = 0;
  unequal = false;
  low = false;
  high = false;
  overflow = false;
  switches = false ∷ false ∷ false ∷ false ∷ false ∷ false ∷ false ∷ [];
  hopper = 0;
  stacker = 0;
  paper = 0;
  form = 1;
  line = 1;
}

done_is_ok : AllRead ((answer.Done, codes "OK") ∷ [])
unfolding text
done_is_ok = refl

a_tilde_stands_before_each_marked_cell : AllRead (
    (answer.Cells (marked 10 ∷ plain 34 ∷ []), codes "~0K") ∷
    (answer.Cells (plain 34 ∷ marked 49 ∷ marked 0 ∷ []), codes "K~A~ ") ∷ [])
unfolding text
a_tilde_stands_before_each_marked_cell = refl

blanks_at_the_end_stay : AllRead ((answer.Cells (plain 0 ∷ plain 49 ∷ plain 0 ∷ plain 0 ∷ []), codes " A  ") ∷ [])
unfolding text
blanks_at_the_end_stay = refl

registers_have_their_widths : AllRead ((
  answer.Regs power_on,
  codes "I=00000 A=00000 B=00000 UNEQUAL=0 LOW=0 HIGH=0 OVERFLOW=0 SWITCHES=-------"
      ++ codes " HOPPER=000 STACKER=000 PAPER=000 FORM=0001 LINE=01",
) ∷ (
  answer.Regs
      (record power_on {
        i = 41;
        a = 56;
        b = 15999;
        unequal = true;
        low = true;
        hopper = 3;
        paper = 500;
        form = 8;
        line = 40;
      }),
  codes "I=00041 A=00056 B=15999 UNEQUAL=1 LOW=1 HIGH=0 OVERFLOW=0 SWITCHES=-------"
      ++ codes " HOPPER=003 STACKER=000 PAPER=500 FORM=0008 LINE=40",
) ∷ (
  answer.Regs (record power_on { high = true; overflow = true; stacker = 12; form = 9999; line = 66 }),
  codes "I=00000 A=00000 B=00000 UNEQUAL=0 LOW=0 HIGH=1 OVERFLOW=1 SWITCHES=-------"
      ++ codes " HOPPER=000 STACKER=012 PAPER=000 FORM=9999 LINE=66",
) ∷ [])
unfolding text
registers_have_their_widths = refl

a_switch_that_is_on_shows_its_letter : AllRead ((
  answer.Regs (record power_on { switches = true ∷ false ∷ true ∷ false ∷ false ∷ false ∷ true ∷ [] }),
  codes "I=00000 A=00000 B=00000 UNEQUAL=0 LOW=0 HIGH=0 OVERFLOW=0 SWITCHES=A-C---G"
      ++ codes " HOPPER=000 STACKER=000 PAPER=000 FORM=0001 LINE=01",
) ∷ (
  answer.Regs (record power_on { switches = true ∷ true ∷ true ∷ true ∷ true ∷ true ∷ true ∷ [] }),
  codes "I=00000 A=00000 B=00000 UNEQUAL=0 LOW=0 HIGH=0 OVERFLOW=0 SWITCHES=ABCDEFG"
      ++ codes " HOPPER=000 STACKER=000 PAPER=000 FORM=0001 LINE=01",
) ∷ [])
unfolding text
a_switch_that_is_on_shows_its_letter = refl

a_number_that_needs_more_digits_has_them : AllRead ((
  answer.Regs (record power_on { i = 65535; hopper = 1000; form = 65535; line = 255 }),
  codes "I=65535 A=00000 B=00000 UNEQUAL=0 LOW=0 HIGH=0 OVERFLOW=0 SWITCHES=-------"
      ++ codes " HOPPER=1000 STACKER=000 PAPER=000 FORM=65535 LINE=255",
) ∷ [])
unfolding text
a_number_that_needs_more_digits_has_them = refl

a_run_tells_its_stop_and_its_steps : AllRead (
    (answer.Ran 7 stop.Reader 41, codes "STOP 03 READER STEPS 7 I 00041") ∷
    (answer.Ran 0 stop.DChar 606, codes "STOP 13 DCHAR STEPS 0 I 00606") ∷
    (answer.Ran 1000000 stop.Limit 15999, codes "STOP 01 LIMIT STEPS 1000000 I 15999") ∷
    (answer.Ran 1 stop.Halt 601, codes "STOP 02 HALT STEPS 1 I 00601") ∷
    (answer.Ran 500 stop.Forms 600, codes "STOP 04 FORMS STEPS 500 I 00600") ∷
    (answer.Ran 2 stop.Stacker 1, codes "STOP 05 STACKER STEPS 2 I 00001") ∷
    (answer.Ran 0 stop.NoMark 0, codes "STOP 06 NOMARK STEPS 0 I 00000") ∷
    (answer.Ran 0 stop.OpCode 600, codes "STOP 07 OPCODE STEPS 0 I 00600") ∷
    (answer.Ran 0 stop.Length 600, codes "STOP 08 LENGTH STEPS 0 I 00600") ∷
    (answer.Ran 0 stop.Address 607, codes "STOP 09 ADDRESS STEPS 0 I 00607") ∷
    (answer.Ran 0 stop.Overlap 600, codes "STOP 10 OVERLAP STEPS 0 I 00600") ∷
    (answer.Ran 4 stop.Carriage 606, codes "STOP 11 CARRIAGE STEPS 4 I 00606") ∷
    (answer.Ran 0 stop.NotFitted 600, codes "STOP 12 NOTFITTED STEPS 0 I 00600") ∷ [])
unfolding text
a_run_tells_its_stop_and_its_steps = refl

-- a line at this place of a form
abbrev printed : ℕ → ℕ → List ℕ → Answer
printed form line text = answer.Line (record { form = form; line = line; text = text })

abbrev card : List ℕ → Answer
card chars = answer.Card (record { 0 = chars })

a_line_tells_its_place_and_ends_before_its_blanks : AllRead (
    (printed 1 4 (56 ∷ 53 ∷ replicate 130 0), codes "LINE 0001 04 HE") ∷
    (printed 9999 66 (0 ∷ 49 ∷ 0 ∷ 49 ∷ replicate 128 0), codes "LINE 9999 66  A A") ∷
    (printed 0 60 (replicate 131 0 ++ 49 ∷ []), codes "LINE 0000 60 " ++ replicate 131 32 ++ codes "A") ∷ [])
unfolding text
a_line_tells_its_place_and_ends_before_its_blanks = refl

a_card_ends_before_its_blanks : AllRead (
    (card (49 ∷ 0 ∷ 50 ∷ replicate 77 0), codes "CARD A B") ∷
    (card (0 ∷ 10 ∷ replicate 78 0), codes "CARD  0") ∷
    (card (replicate 80 15), codes "CARD " ++ replicate 80 40) ∷ [])
unfolding text
a_card_ends_before_its_blanks = refl

the_blank_beyond_a_name_and_a_number_stays : AllRead (
    (printed 12 1 (replicate 132 0), codes "LINE 0012 01 ") ∷
    (card (replicate 80 0), codes "CARD ") ∷ [])
unfolding text
the_blank_beyond_a_name_and_a_number_stays = refl

a_refusal_has_its_number_and_its_name : AllRead (
    (answer.Refused Address, codes "REFUSED 1 ADDRESS") ∷
    (answer.Refused Hopper, codes "REFUSED 2 HOPPER") ∷
    (answer.Refused Reader, codes "REFUSED 3 READER") ∷
    (answer.Refused Empty, codes "REFUSED 4 EMPTY") ∷
    (answer.Refused Limit, codes "REFUSED 5 LIMIT") ∷
    (answer.Refused Count, codes "REFUSED 6 COUNT") ∷ [])
unfolding text
a_refusal_has_its_number_and_its_name = refl
