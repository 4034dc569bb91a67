-- What a line at the console says (own): a word, and then addresses, numbers or a text.
use Rattle.std.specs.Prelude.{ℕ, ◌==◌, nat_lt, if◌then◌else◌, List, length, drop, Option, None, Some, Result, Ok, Err}
use Rattle.bcd_1401.specs.declared.cell.Cell.{Cell}
use Rattle.machine_notation.specs.Cells.{cells_of, spelled}
use Rattle.machine_commands.specs.declared.command.Command.TheVariants as command
use Rattle.machine_notation.specs.declared.fault.CellsFault.{CellsFault}
use Rattle.machine_notation.specs.declared.fault.CellsFault.TheVariants as cells_fault
use Rattle.console_text.specs.declared.line.Line.{Line}
use Rattle.console_text.specs.declared.line.Line.TheVariants.{Empty, Command, Glance, Quit}
use Rattle.console_text.specs.declared.line.LineFault.{LineFault}
use Rattle.console_text.specs.declared.line.LineFault.TheVariants.{Word, Graphic, Length, Extra}
use Rattle.console_text.specs.declared.words.Keyword.{Keyword}
use Rattle.console_text.specs.declared.words.Keyword.TheVariants as keyword
use Rattle.console_text.specs.Words.{◌>>=◌, word_in, beyond_word, keyword_of, number_of, address_of, count_of}
use Rattle.console_text.specs.Words.{switch_of, setting_of}
use Rattle.machine_notation.specs.Characters.{chars_of}
use Rattle.console_text.specs.CardText.{card_of}

-- what a line says, or its first fault from left to right
abbrev pub Said : Type 0
Said = Result Line LineFault

-- what a text that spells no cells is as a fault of its line
abbrev pub fault_of : CellsFault → LineFault
fault_of cells_fault.Graphic = Graphic
fault_of cells_fault.Length = Length

-- the cells that a text spells, or the fault of its line
abbrev pub if_cells : Result (List Cell) CellsFault → Result (List Cell) LineFault
if_cells (Ok cells) = Ok cells
if_cells (Err fault) = Err (fault_of fault)

-- nothing but blanks follows what is said
unfoldable pub ended : List ℕ → Line → Said
ended rest line = if length (word_in rest) == 0 then Ok line else Err Extra

-- DEPOSIT a text: all bytes after the address and one blank are the text
unfoldable pub deposit_of : List ℕ → Said
deposit_of operands = do
  address ← address_of (word_in operands)
  cells ← if_cells (cells_of (spelled (drop 1 (beyond_word operands))))
  Ok (Command (command.Deposit address cells))

-- EXAMINE a, or EXAMINE a n
unfoldable pub examine_of : List ℕ → Said
examine_of operands = do
  address ← address_of (word_in operands)
  count ← count_of (word_in (beyond_word operands))
  ended (beyond_word (beyond_word operands)) (Command (command.Examine address count))

-- START a
unfoldable pub start_of : List ℕ → Said
start_of operands = do
  address ← address_of (word_in operands)
  ended (beyond_word operands) (Command (command.SetI address))

-- SWITCH x ON, or SWITCH x OFF
unfoldable pub switch_said : List ℕ → Said
switch_said operands = do
  switch ← switch_of (word_in operands)
  on ← setting_of (word_in (beyond_word operands))
  ended (beyond_word (beyond_word operands)) (Command (command.Switch switch on))

-- FEED a text: all bytes after one blank are the text, and a card without a text is blank
unfoldable pub feed_of : List ℕ → Said
feed_of operands = do
  card ← card_of (chars_of (drop 1 operands))
  Ok (Command (command.Feed card))

-- RUN n
unfoldable pub run_of : List ℕ → Said
run_of operands = do
  limit ← number_of (word_in operands)
  ended (beyond_word operands) (Command (command.Run limit))

-- GLANCE a
unfoldable pub glance_of : List ℕ → Said
glance_of operands = do
  address ← address_of (word_in operands)
  ended (beyond_word operands) (Glance address)

-- what a line says by its first word and what follows that
unfoldable pub said_with : Option Keyword → List ℕ → Said
said_with None operands = Err Word
said_with (Some keyword.Deposit) operands = deposit_of operands
said_with (Some keyword.Examine) operands = examine_of operands
said_with (Some keyword.Regs) operands = ended operands (Command command.Registers)
said_with (Some keyword.Start) operands = start_of operands
said_with (Some keyword.Switch) operands = switch_said operands
said_with (Some keyword.Feed) operands = feed_of operands
said_with (Some keyword.Load) operands = ended operands (Command command.LoadKey)
said_with (Some keyword.Run) operands = run_of operands
said_with (Some keyword.Line) operands = ended operands (Command command.TakeLine)
said_with (Some keyword.Card) operands = ended operands (Command command.TakeCard)
said_with (Some keyword.Glance) operands = glance_of operands
said_with (Some keyword.Quit) operands = ended operands Quit

-- a line of blanks alone is empty
unfoldable pub said_in_words : List ℕ → Said
said_in_words line =
    if length (word_in line) == 0 then Ok Empty else said_with (keyword_of (word_in line)) (beyond_word line)

-- the most bytes that a line has
abbrev pub most_line_bytes : ℕ
most_line_bytes = 200

-- more than 200 bytes are a fault before all else
unfoldable pub said_by : List ℕ → Said
said_by line = if nat_lt most_line_bytes (length line) then Err Length else said_in_words line
