-- Commands and their texts, computed.
use Rattle.std.proofs.Common.{◌≡◌, ℕ, true, false, List, [], ◌∷◌, ◌++◌, map, replicate, refl}
use Rattle.std.specs.Prelude.{codes}
use Rattle.std.specs.Fmt.{digits}
use Rattle.bcd_1401.specs.declared.cell.Cell.{Cell}
use Rattle.bcd_1401.specs.Graphic.{graphics}
use Rattle.machine_commands.specs.declared.command.Command.{Command}
use Rattle.machine_commands.specs.declared.command.Command.TheVariants.{Deposit, Examine, Registers, SetI, Switch, Feed}
use Rattle.machine_commands.specs.declared.command.Command.TheVariants.{LoadKey, Run, TakeLine, TakeCard}
use Rattle.machine_tables.specs.declared.switch_name.SwitchName.TheVariants.{A, G}
use Rattle.machine_notation.specs.Cells.{cells_text}
use Rattle.machine_notation.specs.Characters.{graphics_of, trimmed}
use Rattle.console_text.specs.CommandText.{command_text}

-- the text of a command, with all that it consists of open
text : Command → List ℕ
unfolding command_text cells_text graphics_of trimmed digits graphics
text given = command_text given

-- each of these commands has the text beside it
abbrev AllRead : List (Command × List ℕ) → Type 0
AllRead commands = map (λ given. command_text given.0) commands ≡ map (λ given. given.1) commands

-- a character without a word mark, and one with it
abbrev plain : ℕ → Cell
plain code = record { char = code; mark = false }

abbrev marked : ℕ → Cell
marked code = record { char = code; mark = true }

cells_stand_beyond_their_address : AllRead (
    (Deposit 700 (marked 9 ∷ plain 9 ∷ plain 9 ∷ []), codes "DEPOSIT 0700 ~999") ∷
    (Deposit 15999 (plain 49 ∷ plain 0 ∷ []), codes "DEPOSIT 15999 A ") ∷ [])
unfolding text
cells_stand_beyond_their_address = refl

examine_has_its_count : AllRead (
    (Examine 2 1, codes "EXAMINE 0002 1") ∷
    (Examine 500 11, codes "EXAMINE 0500 11") ∷
    (Examine 0 0, codes "EXAMINE 0000 0") ∷ [])
unfolding text
examine_has_its_count = refl

words_alone : AllRead (
    (Registers, codes "REGS") ∷
    (LoadKey, codes "LOAD") ∷
    (TakeLine, codes "LINE") ∷
    (TakeCard, codes "CARD") ∷ [])
unfolding text
words_alone = refl

start_and_run : AllRead (
    (SetI 600, codes "START 0600") ∷
    (Run 0, codes "RUN 0") ∷
    (Run 1000000, codes "RUN 1000000") ∷ [])
unfolding text
start_and_run = refl

switches : AllRead (
    (Switch A true, codes "SWITCH A ON") ∷
    (Switch G false, codes "SWITCH G OFF") ∷ [])
unfolding text
switches = refl

a_card_has_no_blanks_at_its_end : AllRead (
    (Feed (record { 0 = replicate 80 0 }), codes "FEED ") ∷
    (Feed (record { 0 = 0 ∷ 49 ∷ replicate 78 0 }), codes "FEED  A") ∷
    (Feed (record { 0 = replicate 79 0 ++ 10 ∷ [] }), codes "FEED " ++ replicate 79 32 ++ codes "0") ∷ [])
unfolding text
a_card_has_no_blanks_at_its_end = refl
