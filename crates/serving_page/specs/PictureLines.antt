-- The text of a picture, which the page's script reads (own): a definition for each of its lines, and one for lines
-- that are alike.
use Rattle.std.specs.Prelude.{ℕ, ◌*◌, List, ◌++◌, take, drop, codes, Option, None, Some}
use Rattle.std.specs.List.{flat_map, range_with_len}
use Rattle.bcd_1401.specs.declared.cell.Cell.{Cell}
use Rattle.core_1401.specs.Cells.{most_cells}
use Rattle.machine_notation.specs.Cells.{cells_text}
use Rattle.machine_notation.specs.Digits.{digits_in}
use Rattle.devices_1401.specs.declared.card.Card.{Card}
use Rattle.devices_1401.specs.declared.print_line.PrintLine.{PrintLine}
use Rattle.machine_notation.specs.InstructionText.{instruction_text}
use Rattle.machine_commands.specs.declared.answer.Answer.{Answer}
use Rattle.machine_commands.specs.declared.answer.Answer.TheVariants as answer
use Rattle.room_1401.specs.declared.picture.Picture.{Picture}
use Rattle.console_text.specs.AnswerText.{answer_text}
use Rattle.machine_notation.specs.Characters.{graphics_of, trimmed}

-- it ends each line of the text
abbrev pub line_feed : List ℕ
line_feed = codes "\n"

-- the name of the room
unfoldable pub room_line : List ℕ → List ℕ
room_line name = codes "ROOM " ++ (name ++ line_feed)

-- the number of the seat, how many seats there are, and how many commands this one made; and after how many commands of
-- the room the picture is
unfoldable pub seat_lines : ℕ → ℕ → ℕ → ℕ → List ℕ
seat_lines number seats made after =
    codes "SEAT "
    ++ (digits_in 1 number
    ++ (codes " OF "
    ++ (digits_in 1 seats
    ++ (codes " MADE " ++ (digits_in 1 made ++ (line_feed ++ (codes "AFTER " ++ (digits_in 1 after ++ line_feed))))))))

-- an answer, as the console replies it
unfoldable pub answer_line : Answer → List ℕ
answer_line answer = answer_text answer ++ line_feed

-- the instruction at the I register, as Autocoder writes it; the word alone if none begins there
unfoldable pub next_line : Option (List Cell) → List ℕ
next_line None = codes "NEXT" ++ line_feed
next_line (Some cells) = codes "NEXT " ++ (instruction_text cells ++ line_feed)

-- a card after a word, by its characters without the blanks at their end; the word alone if there is no card
unfoldable pub card_line : List ℕ → Option Card → List ℕ
card_line word None = word ++ line_feed
card_line word (Some card) = word ++ (codes " " ++ (graphics_of (trimmed card.0) ++ line_feed))

-- the first place that is shown, and the size of core
unfoldable pub core_line : ℕ → ℕ → List ℕ
core_line core size = codes "CORE " ++ (digits_in 5 core ++ (codes " OF " ++ (digits_in 5 size ++ line_feed)))

-- how many lines of cells a window has
abbrev pub rows : ℕ
rows = 15

-- one of them, numbered from 0: 40 cells, as EXAMINE shows them
unfoldable pub row_text : List Cell → ℕ → List ℕ
row_text cells row = cells_text (take most_cells (drop (most_cells * row) cells)) ++ line_feed

-- all of them
unfoldable pub rows_text : List Cell → List ℕ
rows_text cells = flat_map (row_text cells) (range_with_len 0 rows)

-- the index of the first printed line that is asked for
unfoldable pub paper_line : ℕ → List ℕ
paper_line paper = codes "PAPER " ++ (digits_in 1 paper ++ line_feed)

-- printed lines, each as LINE shows it
unfoldable pub lines_text : List PrintLine → List ℕ
lines_text lines = flat_map (λ line. answer_line (answer.Line line)) lines

-- the seat, and after how many commands; the registers; the next instruction; the card in the read area, the next of
-- the hopper, the last of the stacker
unfoldable pub state_text : ℕ → ℕ → ℕ → Picture → List ℕ
state_text number seats made picture =
    seat_lines number seats made picture.after
    ++ (answer_line (answer.Regs picture.regs)
    ++ (next_line picture.next
    ++ (card_line (codes "READ") (Some picture.read)
    ++ (card_line (codes "HOPPER") picture.hopper ++ card_line (codes "PUNCHED") picture.punched))))

-- these; the window of core, and its cells; the window of the paper, and its lines
unfoldable pub picture_text : ℕ → ℕ → ℕ → Picture → List ℕ
picture_text number seats made picture =
    state_text number seats made picture
    ++ (core_line picture.core picture.size
    ++ (rows_text picture.cells ++ (paper_line picture.paper ++ lines_text picture.lines)))
