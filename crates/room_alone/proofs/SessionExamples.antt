-- Small texts, the lines in them and the replies to these, computed.
use Rattle.std.proofs.Common.{◌≡◌, ℕ, Bool, true, false, List, [], ◌∷◌, ◌++◌, length, replicate, refl}
use Rattle.std.specs.Prelude.{Ok, Err, codes}
use Rattle.bcd_1401.specs.declared.cell.Cell.{Cell}
use Rattle.bcd_1401.specs.Graphic.{graphics}
use Rattle.machine_commands.specs.declared.command.Command.TheVariants.{Deposit, Examine}
use Rattle.cpu_1401.specs.CarryOut.{carry_out}
use Rattle.console_text.specs.declared.line.Line.TheVariants.{Empty, Command, Quit}
use Rattle.console_text.specs.declared.line.LineFault.TheVariants.{Word, Length}
use Rattle.console_text.specs.Words.{word_in, beyond_word, keyword_of, number_of, address_of, count_of}
use Rattle.console_text.specs.ConsoleLine.{Said, said_by, said_in_words, said_with, ended, examine_of}
use Rattle.console_text.specs.AnswerText.{answer_text}
use Rattle.machine_notation.specs.Cells.{cells_text}
use Rattle.room_alone.specs.ReplyText.{text_of_reply}
use Rattle.room_alone.specs.Turns.{Turn, replies_to, journal_after}
use Rattle.room_alone.specs.Text.{cut_of, without_return, lines_of}

-- the lines of a text, with all that they consist of open
unfoldable pub lines_in : Bool → List ℕ → List Said
unfolding cut_of without_return said_by said_in_words said_with ended examine_of word_in beyond_word keyword_of
    number_of address_of count_of
lines_in ends text = lines_of ends text

-- the replies to some lines at a machine of this size, with all that they consist of open
unfoldable pub replies_in : ℕ → List Turn → List ℕ
unfolding text_of_reply answer_text cells_text graphics carry_out
replies_in size turns = replies_to size [] turns

a_return_before_the_line_feed_is_dropped : lines_of false (codes "QUIT" ++ 13 ∷ 10 ∷ []) ≡ Ok Quit ∷ []
unfolding lines_in
a_return_before_the_line_feed_is_dropped = refl

of_two_returns_one_stays : lines_of false (codes "QUIT" ++ 13 ∷ 13 ∷ 10 ∷ []) ≡ Err Word ∷ []
unfolding lines_in
of_two_returns_one_stays = refl

a_return_at_the_end_of_input_stays : lines_of true (codes "QUIT" ++ 13 ∷ []) ≡ Err Word ∷ []
unfolding lines_in
a_return_at_the_end_of_input_stays = refl

an_unfinished_line_counts_at_the_end :
    lines_of true (10 ∷ codes "EXAMINE 7" ++ 10 ∷ codes "QUIT") ≡ Ok Empty ∷ Ok (Command (Examine 7 1)) ∷ Ok Quit ∷ []
unfolding lines_in
an_unfinished_line_counts_at_the_end = refl

and_before_the_end_it_does_not :
    lines_of false (10 ∷ codes "EXAMINE 7" ++ 10 ∷ codes "QUIT") ≡ Ok Empty ∷ Ok (Command (Examine 7 1)) ∷ []
unfolding lines_in
and_before_the_end_it_does_not = refl

nothing_comes_after_a_line_feed_at_the_end : lines_of true (codes "QUIT" ++ 10 ∷ []) ≡ Ok Quit ∷ []
unfolding lines_in
nothing_comes_after_a_line_feed_at_the_end = refl

a_line_of_201_bytes_is_too_long :
    lines_of false (replicate 200 32 ++ 13 ∷ 10 ∷ replicate 201 32 ++ 10 ∷ []) ≡ Ok Empty ∷ Err Length ∷ []
unfolding lines_in
a_line_of_201_bytes_is_too_long = refl

-- 0 with a word mark, and K
two_cells : List Cell
two_cells = record { char = 10; mark = true } ∷ record { char = 34; mark = false } ∷ []

-- a line at which memory isn't refused, and one at which it is
unfoldable pub good : Said → Turn
good said = record { said = said; memory_refused = false }

refused : Said → Turn
refused said = record { said = said; memory_refused = true }

each_line_has_its_reply :
    replies_to 20 []
    (good (Ok (Command (Deposit 5 two_cells))) ∷ good (Ok Empty) ∷ good (Ok (Command (Examine 5 2)))
    ∷ good (Err Word) ∷ good (Ok Quit) ∷ [])
    ≡ codes "OK" ++ 10 ∷ codes "~0K" ++ 10 ∷ codes "ERROR 1 WORD" ++ 10 ∷ codes "BYE" ++ 10 ∷ []
unfolding replies_in two_cells good
each_line_has_its_reply = refl

a_refused_growth_leaves_the_machine :
    replies_to 20 [] (refused (Ok (Command (Deposit 5 two_cells))) ∷ good (Ok (Command (Examine 5 2))) ∷ [])
    ≡ codes "FAULT 1 MEMORY" ++ 10 ∷ codes "  " ++ 10 ∷ []
unfolding replies_in two_cells good refused
a_refused_growth_leaves_the_machine = refl

a_refused_command_is_recorded :
    length (journal_after 20 []
    (good (Ok (Command (Examine 20 1))) ∷ good (Err Word) ∷ refused (Ok (Command (Examine 0 1))) ∷ [])) ≡ 1
unfolding replies_in good refused
a_refused_command_is_recorded = refl
