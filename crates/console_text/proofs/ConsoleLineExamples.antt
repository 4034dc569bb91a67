-- Lines and what they say, computed.
use Rattle.std.proofs.Common.{◌≡◌, ℕ, true, false, List, [], ◌∷◌, ◌++◌, map, replicate, refl}
use Rattle.std.specs.Prelude.{Ok, Err, codes}
use Rattle.bcd_1401.specs.declared.cell.Cell.{Cell}
use Rattle.bcd_1401.specs.Graphic.{graphics}
use Rattle.machine_commands.specs.declared.command.Command.TheVariants.{Deposit, Examine, Registers, SetI, Switch, Feed}
use Rattle.machine_commands.specs.declared.command.Command.TheVariants.{LoadKey, Run, TakeLine, TakeCard}
use Rattle.machine_tables.specs.declared.switch_name.SwitchName.TheVariants.{A, B, C, D, E, F, G}
use Rattle.console_text.specs.declared.line.Line.TheVariants.{Empty, Command, Quit}
use Rattle.console_text.specs.declared.line.LineFault.TheVariants.{Word, Number, Graphic, Length, Extra}
use Rattle.console_text.specs.Words.{word_in, beyond_word, keyword_of, number_of, address_of, count_of, switch_named}
use Rattle.console_text.specs.Words.{setting_of}
use Rattle.console_text.specs.ConsoleLine.{Said, said_by, said_in_words, said_with, ended}
use Rattle.machine_notation.specs.Cells.{spelled, cells_of}
use Rattle.console_text.specs.ConsoleLine.{deposit_of, examine_of, start_of, switch_said, feed_of, run_of}
use Rattle.machine_notation.specs.Characters.{chars_of}
use Rattle.console_text.specs.CardText.{card_of}

-- what a line says, with all that its grammar consists of open
says : List ℕ → Said
unfolding said_by said_in_words said_with ended spelled cells_of chars_of card_of deposit_of examine_of start_of
    switch_said feed_of run_of word_in beyond_word keyword_of number_of address_of count_of switch_named setting_of
    graphics
says line = said_by line

-- each of these lines says what is beside it
abbrev AllSay : List (List ℕ × Said) → Type 0
AllSay lines = map (λ line. said_by line.0) lines ≡ map (λ line. line.1) lines

-- a character without a word mark, and one with it
abbrev plain : ℕ → Cell
plain code = record { char = code; mark = false }

abbrev marked : ℕ → Cell
marked code = record { char = code; mark = true }

a_line_of_blanks_is_empty : AllSay (
    ([], Ok Empty) ∷
    (codes " ", Ok Empty) ∷
    (replicate 200 32, Ok Empty) ∷ [])
unfolding says
a_line_of_blanks_is_empty = refl

blanks_in_front_between_and_beyond_part_words : AllSay (
    (codes "EXAMINE 0500 2", Ok (Command (Examine 500 2))) ∷
    (codes "  EXAMINE   0500  2   ", Ok (Command (Examine 500 2))) ∷ [])
unfolding says
blanks_in_front_between_and_beyond_part_words = refl

one_cell_where_no_number_says_how_many : AllSay (
    (codes "EXAMINE 2", Ok (Command (Examine 2 1))) ∷
    (codes "EXAMINE 15999  ", Ok (Command (Examine 15999 1))) ∷ [])
unfolding says
one_cell_where_no_number_says_how_many = refl

words_alone : AllSay (
    (codes "REGS", Ok (Command Registers)) ∷
    (codes " REGS ", Ok (Command Registers)) ∷
    (codes "QUIT", Ok Quit) ∷
    (codes "  QUIT  ", Ok Quit) ∷
    (codes "LOAD", Ok (Command LoadKey)) ∷
    (codes " LINE ", Ok (Command TakeLine)) ∷
    (codes "CARD", Ok (Command TakeCard)) ∷ [])
unfolding says
words_alone = refl

start_takes_an_address_and_run_a_number : AllSay (
    (codes "START 0600", Ok (Command (SetI 600))) ∷
    (codes "RUN 0", Ok (Command (Run 0))) ∷
    (codes "RUN 1000001", Ok (Command (Run 1000001))) ∷
    (codes "RUN 9999999 ", Ok (Command (Run 9999999))) ∷ [])
unfolding says
start_takes_an_address_and_run_a_number = refl

each_switch_has_its_letter : AllSay (
    (codes "SWITCH A ON", Ok (Command (Switch A true))) ∷
    (codes "SWITCH B OFF", Ok (Command (Switch B false))) ∷
    (codes "SWITCH C ON", Ok (Command (Switch C true))) ∷
    (codes "SWITCH D OFF", Ok (Command (Switch D false))) ∷
    (codes "SWITCH E ON", Ok (Command (Switch E true))) ∷
    (codes "SWITCH F OFF", Ok (Command (Switch F false))) ∷
    (codes "  SWITCH   G  ON ", Ok (Command (Switch G true))) ∷ [])
unfolding says
each_switch_has_its_letter = refl

no_switch_or_neither_on_nor_off_is_no_word : AllSay (
    (codes "SWITCH", Err Word) ∷
    (codes "SWITCH H ON", Err Word) ∷
    (codes "SWITCH a ON", Err Word) ∷
    (codes "SWITCH AB ON", Err Word) ∷
    (codes "SWITCH 1 ON X", Err Word) ∷
    (codes "SWITCH ON", Err Word) ∷
    (codes "SWITCH A", Err Word) ∷
    (codes "SWITCH A ", Err Word) ∷
    (codes "SWITCH A on", Err Word) ∷
    (codes "SWITCH A ONE", Err Word) ∷
    (codes "SWITCH A X X", Err Word) ∷
    (codes "SWITCHA ON", Err Word) ∷ [])
unfolding says
no_switch_or_neither_on_nor_off_is_no_word = refl

a_tilde_marks_the_next_cell :
    said_by (codes "DEPOSIT 0500 ~0K~A") ≡ Ok (Command (Deposit 500 (marked 10 ∷ plain 34 ∷ marked 49 ∷ [])))
unfolding says
a_tilde_marks_the_next_cell = refl

all_beyond_one_blank_is_text : AllSay (
    (codes "DEPOSIT 0500  A", Ok (Command (Deposit 500 (plain 0 ∷ plain 49 ∷ [])))) ∷
    (codes " DEPOSIT  500 A ", Ok (Command (Deposit 500 (plain 49 ∷ plain 0 ∷ [])))) ∷
    (codes "DEPOSIT 7 ~ ", Ok (Command (Deposit 7 (marked 0 ∷ [])))) ∷ [])
unfolding says
all_beyond_one_blank_is_text = refl

forty_cells_are_the_most : AllSay (
    (codes "DEPOSIT 0 " ++ replicate 40 65, Ok (Command (Deposit 0 (replicate 40 (plain 49))))) ∷
    (codes "DEPOSIT 0 " ++ replicate 41 65, Err Length) ∷ [])
unfolding says
forty_cells_are_the_most = refl

forty_marked_cells_are_the_most :
    said_by (codes "DEPOSIT 0 ~A~A~A~A~A~A~A~A~A~A~A~A~A~A~A~A~A~A~A~A~A~A~A~A~A~A~A~A~A~A~A~A~A~A~A~A~A~A~A~A")
    ≡ Ok (Command (Deposit 0 (replicate 40 (marked 49))))
unfolding says
forty_marked_cells_are_the_most = refl

a_text_has_a_cell : AllSay (
    (codes "DEPOSIT 0500", Err Length) ∷
    (codes "DEPOSIT 0500 ", Err Length) ∷ [])
unfolding says
a_text_has_a_cell = refl

a_byte_that_is_no_graphic : AllSay (
    (codes "DEPOSIT 0500 a", Err Graphic) ∷
    (codes "DEPOSIT 0500 ABa", Err Graphic) ∷
    (codes "DEPOSIT 0500 A" ++ 9 ∷ [], Err Graphic) ∷
    (codes "DEPOSIT 0500 A" ++ 0 ∷ [], Err Graphic) ∷
    (codes "DEPOSIT 0500 A" ++ 255 ∷ [], Err Graphic) ∷ [])
unfolding says
a_byte_that_is_no_graphic = refl

a_tilde_without_a_graphic : AllSay (
    (codes "DEPOSIT 0500 ~", Err Graphic) ∷
    (codes "DEPOSIT 0500 A~", Err Graphic) ∷
    (codes "DEPOSIT 0500 ~~A", Err Graphic) ∷
    (codes "DEPOSIT 0500 ~a", Err Graphic) ∷ [])
unfolding says
a_tilde_without_a_graphic = refl

beyond_the_fortieth_cell_any_byte_is_too_many : AllSay (
    (codes "DEPOSIT 0 " ++ replicate 40 65 ++ codes "a", Err Length) ∷
    (codes "DEPOSIT 0 " ++ replicate 40 65 ++ codes "~", Err Length) ∷
    (codes "DEPOSIT 0 " ++ replicate 40 65 ++ codes " ", Err Length) ∷ [])
unfolding says
beyond_the_fortieth_cell_any_byte_is_too_many = refl

up_to_the_fortieth_cell_a_graphic_is_missed_first : AllSay (
    (codes "DEPOSIT 0 " ++ replicate 39 65 ++ codes "aA", Err Graphic) ∷
    (codes "DEPOSIT 0 " ++ replicate 39 65 ++ codes "~", Err Graphic) ∷ [])
unfolding says
up_to_the_fortieth_cell_a_graphic_is_missed_first = refl

-- a card with these characters in its first columns, and blanks in the others
abbrev fed : List ℕ → Said
fed chars = Ok (Command (Feed (record { 0 = chars })))

the_columns_beyond_a_text_are_blank : AllSay (
    (codes "FEED A", fed (49 ∷ replicate 79 0)) ∷
    (codes " FEED A ", fed (49 ∷ replicate 79 0)) ∷
    (codes "FEED  A", fed (0 ∷ 49 ∷ replicate 78 0)) ∷ [])
unfolding says
the_columns_beyond_a_text_are_blank = refl

feed_alone_is_a_blank_card : AllSay (
    (codes "FEED", fed (replicate 80 0)) ∷
    (codes "FEED ", fed (replicate 80 0)) ∷
    (codes "FEED" ++ replicate 81 32, fed (replicate 80 0)) ∷ [])
unfolding says
feed_alone_is_a_blank_card = refl

eighty_columns_are_the_most : AllSay (
    (codes "FEED " ++ replicate 80 65, fed (replicate 80 49)) ∷
    (codes "FEED " ++ replicate 81 65, Err Length) ∷
    (codes "FEED " ++ replicate 81 32, Err Length) ∷
    (codes "FEED " ++ replicate 80 65 ++ codes " ", Err Length) ∷
    (codes "FEED " ++ replicate 80 65 ++ codes "a", Err Length) ∷ [])
unfolding says
eighty_columns_are_the_most = refl

a_column_that_is_no_graphic : AllSay (
    (codes "FEED a", Err Graphic) ∷
    (codes "FEED ~A", Err Graphic) ∷
    (codes "FEED A" ++ 9 ∷ [], Err Graphic) ∷
    (codes "FEED " ++ replicate 79 65 ++ codes "a", Err Graphic) ∷
    (codes "FEED " ++ replicate 79 65 ++ codes "aA", Err Graphic) ∷ [])
unfolding says
a_column_that_is_no_graphic = refl

a_missing_number : AllSay (
    (codes "EXAMINE", Err Number) ∷
    (codes "EXAMINE  ", Err Number) ∷
    (codes "DEPOSIT", Err Number) ∷
    (codes "DEPOSIT ", Err Number) ∷
    (codes "START", Err Number) ∷
    (codes "RUN", Err Number) ∷ [])
unfolding says
a_missing_number = refl

no_number : AllSay (
    (codes "EXAMINE x y z", Err Number) ∷
    (codes "EXAMINE 1 2x", Err Number) ∷
    (codes "DEPOSIT 0500X A", Err Number) ∷
    (codes "DEPOSIT ~A", Err Number) ∷
    (codes "START -1", Err Number) ∷
    (codes "RUN 1,000", Err Number) ∷
    (codes "RUN +5", Err Number) ∷ [])
unfolding says
no_number = refl

seven_digits_are_the_most : AllSay (
    (codes "EXAMINE 00000500", Err Number) ∷
    (codes "EXAMINE 0000500", Ok (Command (Examine 500 1))) ∷
    (codes "EXAMINE 1 00000002", Err Number) ∷
    (codes "RUN 10000000", Err Number) ∷ [])
unfolding says
seven_digits_are_the_most = refl

an_address_is_below_16_000 : AllSay (
    (codes "EXAMINE 16000", Err Number) ∷
    (codes "START 9999999", Err Number) ∷
    (codes "DEPOSIT 16000 a", Err Number) ∷
    (codes "START 15999", Ok (Command (SetI 15999))) ∷ [])
unfolding says
an_address_is_below_16_000 = refl

a_count_may_be_any_number : AllSay (
    (codes "EXAMINE 0 0", Ok (Command (Examine 0 0))) ∷
    (codes "EXAMINE 0 16000", Ok (Command (Examine 0 16000))) ∷ [])
unfolding says
a_count_may_be_any_number = refl

more_than_a_line_says : AllSay (
    (codes "EXAMINE 1 2 3", Err Extra) ∷
    (codes "QUIT X", Err Extra) ∷
    (codes "REGS X", Err Extra) ∷
    (codes "START 1 X", Err Extra) ∷
    (codes "SWITCH A ON X", Err Extra) ∷
    (codes "SWITCH A OFF ON", Err Extra) ∷
    (codes "RUN 1 1", Err Extra) ∷
    (codes "LOAD 1", Err Extra) ∷
    (codes "LINE X", Err Extra) ∷
    (codes "CARD 1", Err Extra) ∷ [])
unfolding says
more_than_a_line_says = refl

other_words : AllSay (
    (codes "HELLO", Err Word) ∷
    (codes "HELLO 1 2 3", Err Word) ∷
    (codes "quit", Err Word) ∷
    (codes "QUITX", Err Word) ∷
    (codes "QUI", Err Word) ∷
    (codes "DEPOSIT0500 A", Err Word) ∷
    (codes "0500", Err Word) ∷
    (codes "FEEDA", Err Word) ∷
    (codes "LOADS", Err Word) ∷
    (codes "LIN", Err Word) ∷
    (codes "CARDS", Err Word) ∷ [])
unfolding says
other_words = refl

byte_32_alone_is_a_blank : AllSay (
    (codes "QUIT" ++ 13 ∷ [], Err Word) ∷
    (9 ∷ codes "QUIT", Err Word) ∷
    (codes "QUIT" ++ 0 ∷ [], Err Word) ∷
    (codes "EXAMINE" ++ 9 ∷ codes "1", Err Word) ∷
    (160 ∷ [], Err Word) ∷
    (codes "REGS " ++ 13 ∷ [], Err Extra) ∷
    (codes "EXAMINE 1" ++ 9 ∷ codes "2", Err Number) ∷ [])
unfolding says
byte_32_alone_is_a_blank = refl

more_than_200_bytes_are_too_long : AllSay (
    (codes "QUIT" ++ replicate 196 32, Ok Quit) ∷
    (codes "QUIT" ++ replicate 197 32, Err Length) ∷
    (replicate 201 32, Err Length) ∷
    (replicate 201 65, Err Length) ∷ [])
unfolding says
more_than_200_bytes_are_too_long = refl
