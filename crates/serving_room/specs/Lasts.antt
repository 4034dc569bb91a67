-- What was last done at a machine (own).
use Rattle.std.specs.Prelude.{ℕ, List, ◌++◌, codes}
use Rattle.machine_notation.specs.Digits.{digits_in}
use Rattle.machine_commands.specs.declared.command.Command.{Command}
use Rattle.machine_commands.specs.declared.command.Command.TheVariants as command
use Rattle.serving_room.specs.declared.last.Act.{Act}
use Rattle.serving_room.specs.declared.last.Act.TheVariants.{Deposit, Examine, Registers, Start, Switch, Feed, Load}
use Rattle.serving_room.specs.declared.last.Act.TheVariants.{Run}
use Rattle.serving_room.specs.declared.last.Act.TheVariants.{Line, Card, Fit}

-- what a command does
abbrev pub act_of : Command → Act
act_of (command.Deposit address cells) = Deposit
act_of (command.Examine address count) = Examine
act_of command.Registers = Registers
act_of (command.SetI address) = Start
act_of (command.Switch n on) = Switch
act_of (command.Feed card) = Feed
act_of command.LoadKey = Load
act_of (command.Run limit) = Run limit
act_of command.TakeLine = Line
act_of command.TakeCard = Card
act_of (command.Fit features) = Fit

-- the console's word for it, or a journal's where a console has none; for a run also its limit
abbrev pub act_text : Act → List ℕ
act_text Deposit = codes "DEPOSIT"
act_text Examine = codes "EXAMINE"
act_text Registers = codes "REGS"
act_text Start = codes "START"
act_text Switch = codes "SWITCH"
act_text Feed = codes "FEED"
act_text Load = codes "LOAD"
act_text (Run limit) = codes "RUN " ++ digits_in 1 limit
act_text Line = codes "LINE"
act_text Card = codes "CARD"
act_text Fit = codes "FIT"
