-- How a line may be typed (own): its words and numbers, with any blanks between them.
use Rattle.std.specs.Prelude.{◌≡◌, ℕ, ◌^◌, ◌<◌, ◌≤◌, Bool, true, false, All, List, [], ◌∷◌, ◌++◌, length, drop}
use Rattle.std.specs.Prelude.{replicate, codes}
use Rattle.std.specs.Fmt.{decimal}
use Rattle.bcd_1401.specs.declared.cell.Cell.{Cell}
use Rattle.core_1401.specs.Address.{addresses}
use Rattle.core_1401.specs.Cells.{most_cells}
use Rattle.devices_1401.specs.Card.{card_columns}
use Rattle.devices_1401.specs.declared.card.Card.{Card}
use Rattle.machine_commands.specs.declared.command.Command.TheVariants as command
use Rattle.console_text.specs.declared.line.Line.{Line}
use Rattle.console_text.specs.declared.line.Line.TheVariants as line
use Rattle.console_text.specs.Words.{blank}
use Rattle.machine_notation.specs.Characters.{graphics_of}
use Rattle.console_text.specs.CardText.{card_with}
use Rattle.console_text.specs.ConsoleLine.{most_line_bytes}
use Rattle.console_text.specs.Words.{most_digits}
use Rattle.machine_notation.specs.Cells.{cells_text}
use Rattle.console_text.specs.Words.{letter_of}

-- a word that is typed as it is, or a number
pub data Part : Type 0 where
  Name : List ℕ → Part
  Numeral : ℕ → Part

-- what is typed after the parts of a line: blanks alone, cells, or the columns of a card
pub data Text : Type 0 where
  Blanks : Text
  Cells : List Cell → Text
  Columns : Card → Text

-- what is typed: its parts, and what follows them
pub record LineText : Type 0 where
  pub parts : List Part
  pub beyond : Text

abbrev pub words_alone : List Part → LineText
words_alone parts = record { parts = parts; beyond = Blanks }

-- ON, or OFF
abbrev pub setting_text : Bool → List ℕ
setting_text true = codes "ON"
setting_text false = codes "OFF"

-- what is typed for a line: nothing for what fits a machine
abbrev pub text_of : Line → LineText
text_of line.Empty = words_alone []
text_of (line.Command (command.Deposit address cells)) =
    record { parts = Name (codes "DEPOSIT") ∷ Numeral address ∷ []; beyond = Cells cells }
text_of (line.Command (command.Examine address count)) =
    words_alone (Name (codes "EXAMINE") ∷ Numeral address ∷ Numeral count ∷ [])
text_of (line.Command command.Registers) = words_alone (Name (codes "REGS") ∷ [])
text_of (line.Command (command.SetI address)) = words_alone (Name (codes "START") ∷ Numeral address ∷ [])
text_of (line.Command (command.Switch n on)) =
    words_alone (Name (codes "SWITCH") ∷ Name (letter_of n) ∷ Name (setting_text on) ∷ [])
text_of (line.Command (command.Feed card)) = record { parts = Name (codes "FEED") ∷ []; beyond = Columns card }
text_of (line.Command command.LoadKey) = words_alone (Name (codes "LOAD") ∷ [])
text_of (line.Command (command.Run limit)) = words_alone (Name (codes "RUN") ∷ Numeral limit ∷ [])
text_of (line.Command command.TakeLine) = words_alone (Name (codes "LINE") ∷ [])
text_of (line.Command command.TakeCard) = words_alone (Name (codes "CARD") ∷ [])
text_of (line.Command (command.Fit features)) = words_alone []
text_of (line.Glance address) = words_alone (Name (codes "GLANCE") ∷ Numeral address ∷ [])
text_of line.Quit = words_alone (Name (codes "QUIT") ∷ [])

-- how a part is typed: a number in at most seven digits, with any number of leading zeros
abbrev pub IsTypedAs : Part → List ℕ → Type 0
IsTypedAs (Name name) word = word ≡ name
IsTypedAs (Numeral number) word =
    (zeros : ℕ) × (word ≡ replicate zeros 48 ++ decimal number) × (length word ≤ most_digits)

-- the line ends here, or goes on with a blank
abbrev pub IsParted : List ℕ → Type 0
IsParted [] = Unit {0}
IsParted (byte ∷ bytes) = byte ≡ blank

-- after its parts a line has blanks alone, or one blank and cells by their graphics, or one blank and as many columns
-- of a card as one likes, if the others are blank; if no column is typed the blank may be missing
abbrev pub IsTypedBeyond : Text → List ℕ → Type 0
IsTypedBeyond Blanks line = (blanks : ℕ) × (line ≡ replicate blanks blank)
IsTypedBeyond (Cells cells) line = line ≡ blank ∷ cells_text cells
IsTypedBeyond (Columns card) line =
    (columns : List ℕ) × (drop 1 line ≡ graphics_of columns) × (card ≡ card_with columns)

-- these parts are typed, each after blanks, and separated from what follows; then comes what follows them
abbrev pub IsTyped : List Part → Text → List ℕ → Type 0
IsTyped [] beyond line = IsTypedBeyond beyond line
IsTyped (part ∷ parts) beyond line =
    (blanks : ℕ) × (word : List ℕ) × (rest : List ℕ) × (line ≡ replicate blanks blank ++ (word ++ rest))
    × IsTypedAs part word × IsParted rest × IsTyped parts beyond rest

-- what a line can say: an address below 16,000, 1 to 40 cells and a card of the 64 characters, a number of up to seven
-- digits; never what fits a machine
abbrev pub CanBeSaid : Line → Type 0
CanBeSaid line.Empty = Unit {0}
CanBeSaid (line.Command (command.Deposit address cells)) =
    (address < addresses) × (1 ≤ length cells) × (length cells ≤ most_cells) × All (λ cell. cell.char < 64) cells
CanBeSaid (line.Command (command.Examine address count)) = (address < addresses) × (count < 10 ^ most_digits)
CanBeSaid (line.Command command.Registers) = Unit {0}
CanBeSaid (line.Command (command.SetI address)) = address < addresses
CanBeSaid (line.Command (command.Switch n on)) = Unit {0}
CanBeSaid (line.Command (command.Feed card)) =
    (length card.0 ≡ card_columns) × All (λ char. char < 64) card.0
CanBeSaid (line.Command command.LoadKey) = Unit {0}
CanBeSaid (line.Command (command.Run limit)) = limit < 10 ^ most_digits
CanBeSaid (line.Command command.TakeLine) = Unit {0}
CanBeSaid (line.Command command.TakeCard) = Unit {0}
CanBeSaid (line.Command (command.Fit features)) = ⊥
CanBeSaid (line.Glance address) = address < addresses
CanBeSaid line.Quit = Unit {0}

-- The line is what is typed for what it says.
pub record IsLineOf (said : Line) (line : List ℕ) : Type 0 where
  pub can_be : CanBeSaid said
  pub short : length line ≤ most_line_bytes
  pub typed : IsTyped (text_of said).parts (text_of said).beyond line

-- what EXAMINE says if no number says how many cells
abbrev pub one_cell : ℕ → Line
one_cell address = line.Command (command.Examine address 1)

-- The line is EXAMINE and an address.
pub record IsExamineOf (address : ℕ) (line : List ℕ) : Type 0 where
  pub in_range : address < addresses
  pub short : length line ≤ most_line_bytes
  pub typed : IsTyped (Name (codes "EXAMINE") ∷ Numeral address ∷ []) Blanks line
