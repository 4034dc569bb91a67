-- The texts of answers, glances and faults of lines (own).
use Rattle.std.specs.Prelude.{◌≡◌, ℕ, Bool, if◌then◌else◌, List, ◌++◌, length, drop}
use Rattle.std.specs.Prelude.{false, Ok, codes, slice_index_or}
use Rattle.bcd_1401.specs.declared.cell.Cell.{Cell}
use Rattle.machine_notation.specs.Cells.{cell_text, cells_of, cells_text, spelled}
use Rattle.machine_notation.specs.Digits.{digits_in}
use Rattle.machine_tables.specs.declared.regs.Regs.{Regs}
use Rattle.machine_tables.specs.declared.stop.Stop.{Stop}
use Rattle.machine_tables.specs.declared.switch_name.SwitchName.{SwitchName}
use Rattle.machine_tables.specs.declared.switch_name.SwitchName.TheVariants.{A, B, C, D, E, F, G}
use Rattle.machine_tables.specs.Stop.{stop_number, stop_name}
use Rattle.machine_tables.specs.SwitchName.{switch_number}
use Rattle.devices_1401.specs.declared.card.Card.{Card}
use Rattle.devices_1401.specs.declared.print_line.PrintLine.{PrintLine}
use Rattle.machine_commands.specs.declared.answer.Answer.{Answer}
use Rattle.machine_commands.specs.declared.answer.Answer.TheVariants as answer
use Rattle.machine_commands.specs.RefusalText.{refusal_text}
use Rattle.machine_commands.specs.declared.command.Command.TheVariants as command
use Rattle.console_text.specs.declared.line.LineFault.{LineFault}
use Rattle.console_text.specs.declared.line.LineFault.TheVariants as line_fault
use Rattle.console_text.specs.declared.line.Line.TheVariants as line
use Rattle.machine_notation.specs.Characters.{graphics_of, trimmed}
use Rattle.console_text.specs.ConsoleLine.{feed_of}
use Rattle.console_text.specs.Words.{letter_of}

-- an indicator: 1 if it is on
abbrev pub indicator_text : Bool → List ℕ
indicator_text on = if on then codes "1" else codes "0"

-- the letter of a switch that is on, and - for one that is off
abbrev pub switch_text : List Bool → SwitchName → List ℕ
switch_text switches switch =
    if slice_index_or switches (switch_number switch) false then letter_of switch else codes "-"

-- the switches A to G
unfoldable pub switches_text : List Bool → List ℕ
switches_text on =
    switch_text on A ++ switch_text on B ++ switch_text on C ++ switch_text on D ++ switch_text on E
    ++ switch_text on F ++ switch_text on G

-- the registers: five digits for an address, three for cards and lines, of which there are at most 500, four for
-- the form and two for the line
unfoldable pub regs_text : Regs → List ℕ
regs_text regs =
    codes "I=" ++ digits_in 5 regs.i ++ codes " A=" ++ digits_in 5 regs.a ++ codes " B=" ++ digits_in 5 regs.b
    ++ codes " UNEQUAL=" ++ indicator_text regs.unequal ++ codes " LOW=" ++ indicator_text regs.low
    ++ codes " HIGH=" ++ indicator_text regs.high ++ codes " OVERFLOW=" ++ indicator_text regs.overflow
    ++ codes " SWITCHES=" ++ switches_text regs.switches
    ++ codes " HOPPER=" ++ digits_in 3 regs.hopper ++ codes " STACKER=" ++ digits_in 3 regs.stacker
    ++ codes " PAPER=" ++ digits_in 3 regs.paper ++ codes " FORM=" ++ digits_in 4 regs.form
    ++ codes " LINE=" ++ digits_in 2 regs.line

-- a run: the stop by number and name, how many instructions were carried out, and the I register
unfoldable pub ran_text : ℕ → Stop → ℕ → List ℕ
ran_text steps stop i =
    codes "STOP " ++ digits_in 2 (stop_number stop) ++ codes " " ++ stop_name stop
    ++ codes " STEPS " ++ digits_in 1 steps ++ codes " I " ++ digits_in 5 i

-- a printed line: its form and its line, and its characters without the blanks at their end
unfoldable pub line_text : PrintLine → List ℕ
line_text line =
    codes "LINE " ++ digits_in 4 line.form ++ codes " " ++ digits_in 2 line.line ++ codes " "
    ++ graphics_of (trimmed line.text)

-- a card: its characters without the blanks at their end
unfoldable pub card_text : Card → List ℕ
card_text card = codes "CARD " ++ graphics_of (trimmed card.0)

-- an answer
unfoldable pub answer_text : Answer → List ℕ
answer_text answer.Done = codes "OK"
answer_text (answer.Cells cells) = cells_text cells
answer_text (answer.Regs regs) = regs_text regs
answer_text (answer.Ran steps why i) = ran_text steps why i
answer_text (answer.Line line) = line_text line
answer_text (answer.Card card) = card_text card
answer_text (answer.Refused why) = refusal_text why

-- what follows CARD is read as that card after FEED
abbrev pub IsFedAgain : Card → List ℕ → Type 0
IsFedAgain card text = feed_of (drop (length (codes "CARD")) text) ≡ Ok (line.Command (command.Feed card))

-- cells that are shown are read again from their text, as DEPOSIT reads one, and so is a card, as FEED reads one
abbrev pub IsReadAgain : Answer → List ℕ → Type 0
IsReadAgain answer.Done text = Unit {0}
IsReadAgain (answer.Cells cells) text = cells_of (spelled text) ≡ Ok cells
IsReadAgain (answer.Regs regs) text = Unit {0}
IsReadAgain (answer.Ran steps why i) text = Unit {0}
IsReadAgain (answer.Line line) text = Unit {0}
IsReadAgain (answer.Card card) text = IsFedAgain card text
IsReadAgain (answer.Refused why) text = Unit {0}

-- a line that can't be read
abbrev pub fault_text : LineFault → List ℕ
fault_text line_fault.Word = codes "ERROR 1 WORD"
fault_text line_fault.Number = codes "ERROR 2 NUMBER"
fault_text line_fault.Graphic = codes "ERROR 3 GRAPHIC"
fault_text line_fault.Length = codes "ERROR 4 LENGTH"
fault_text line_fault.Extra = codes "ERROR 5 EXTRA"

-- its number
abbrev pub fault_number : LineFault → ℕ
fault_number line_fault.Word = 1
fault_number line_fault.Number = 2
fault_number line_fault.Graphic = 3
fault_number line_fault.Length = 4
fault_number line_fault.Extra = 5

-- a glance: after how many commands, and the cell there then
unfoldable pub glance_text : ℕ → Cell → List ℕ
glance_text after cell = codes "AFTER " ++ digits_in 1 after ++ codes " " ++ cell_text cell
