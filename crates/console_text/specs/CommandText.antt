-- The text of a command, as a journal has it (own): the line that says it, with one blank between its words. What fits
-- a machine is said by no line.
use Rattle.std.specs.Prelude.{ℕ, List, ◌++◌, codes}
use Rattle.machine_notation.specs.Cells.{cells_text}
use Rattle.machine_notation.specs.Digits.{digits_in}
use Rattle.machine_commands.specs.declared.command.Command.{Command}
use Rattle.machine_commands.specs.declared.command.Command.TheVariants.{Deposit, Examine, Registers, SetI, Switch, Feed}
use Rattle.machine_commands.specs.declared.command.Command.TheVariants.{LoadKey, Run, TakeLine, TakeCard, Fit}
use Rattle.machine_notation.specs.Characters.{graphics_of, trimmed}
use Rattle.console_text.specs.FitText.{fit_text}
use Rattle.console_text.specs.LineText.{setting_text}
use Rattle.console_text.specs.Words.{letter_of}

-- a command: an address has four digits, or five from 10,000 on, and EXAMINE its count; a card has its characters
-- without the blanks at their end
unfoldable pub command_text : Command → List ℕ
command_text (Deposit address cells) = codes "DEPOSIT " ++ digits_in 4 address ++ codes " " ++ cells_text cells
command_text (Examine address count) = codes "EXAMINE " ++ digits_in 4 address ++ codes " " ++ digits_in 1 count
command_text Registers = codes "REGS"
command_text (SetI address) = codes "START " ++ digits_in 4 address
command_text (Switch n on) = codes "SWITCH " ++ letter_of n ++ codes " " ++ setting_text on
command_text (Feed card) = codes "FEED " ++ graphics_of (trimmed card.0)
command_text LoadKey = codes "LOAD"
command_text (Run limit) = codes "RUN " ++ digits_in 1 limit
command_text TakeLine = codes "LINE"
command_text TakeCard = codes "CARD"
command_text (Fit features) = fit_text features
