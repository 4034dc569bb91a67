-- The words that a line may begin with, and how far each may be shortened (own).
use Rattle.std.specs.Prelude.{ℕ, nat_le, Bool, ◌&&◌, List, [], ◌∷◌, length, take, find, Option, codes}
use Rattle.std.specs.Str.{bytes_eq}
use Rattle.operate_orders.specs.declared.words.Keyword.{Keyword}
use Rattle.operate_orders.specs.declared.words.Keyword.TheVariants as keyword
use Rattle.operate_orders.specs.declared.words.Row.{Row}

-- a word, how many letters of it suffice, and how a line with it is written
pub record WordRow : Type 0 where
  pub letters : List ℕ
  pub shortest : ℕ
  pub usage : List ℕ

abbrev pub word : List ℕ → ℕ → List ℕ → WordRow
word letters shortest usage = record { letters = letters; shortest = shortest; usage = usage }

-- a row of the program's table
abbrev pub seen : Row → WordRow
seen row = word row.letters.now row.shortest row.usage.now

-- the table
abbrev pub row_of : Keyword → WordRow
row_of keyword.Examine = word (codes "EXAMINE") 1 (codes "examine RANGE")
row_of keyword.List = word (codes "LIST") 1 (codes "list [RANGE]")
row_of keyword.Print = word (codes "PRINT") 1 (codes "print FIELD .., up to eight")
row_of keyword.Source = word (codes "SOURCE") 2 (codes "source [LINE or LABEL]")
row_of keyword.Registers = word (codes "REGISTERS") 1 (codes "registers, and nothing after it")
row_of keyword.Cards = word (codes "CARDS") 2 (codes "cards, and nothing after it")
row_of keyword.Paper = word (codes "PAPER") 2 (codes "paper [N]")
row_of keyword.Symbols = word (codes "SYMBOLS") 2 (codes "symbols [LETTERS]")
row_of keyword.Evaluate = word (codes "EVALUATE") 2 (codes "evaluate EXPRESSION")
row_of keyword.Breaks = word (codes "BREAKS") 6 (codes "breaks, and nothing after it")
row_of keyword.Why = word (codes "WHY") 3 (codes "why, and nothing after it")
row_of keyword.Journal = word (codes "JOURNAL") 1 (codes "journal [N]")
row_of keyword.Assert = word (codes "ASSERT") 2 (codes "assert CONDITION")
row_of keyword.Help = word (codes "HELP") 1 (codes "help [WORD]")
row_of keyword.Deposit = word (codes "DEPOSIT") 1 (codes "deposit ADDRESS TEXT, or deposit ADDRESS = STATEMENT")
row_of keyword.Set = word (codes "SET") 3 (codes "set FIELD = NUMBER, or set FIELD = @TEXT@")
row_of keyword.Mark = word (codes "MARK") 1 (codes "mark ADDRESS")
row_of keyword.Unmark = word (codes "UNMARK") 3 (codes "unmark ADDRESS")
row_of keyword.Start = word (codes "START") 3 (codes "start ADDRESS")
row_of keyword.Switch = word (codes "SWITCH") 2 (codes "switch A on, or switch A off, A to G")
row_of keyword.Feed = word (codes "FEED") 1 (codes "feed [TEXT]")
row_of keyword.Deck = word (codes "DECK") 3 (codes "deck FILE")
row_of keyword.Load = word (codes "LOAD") 2 (codes "load, and nothing after it")
row_of keyword.Step = word (codes "STEP") 1 (codes "step [N]")
row_of keyword.Continue = word (codes "CONTINUE") 1 (codes "continue [N]")
row_of keyword.Until = word (codes "UNTIL") 1 (codes "until ADDRESS")
row_of keyword.Go = word (codes "GO") 1 (codes "go ADDRESS")
row_of keyword.Undo = word (codes "UNDO") 3 (codes "undo [N]")
row_of keyword.Back = word (codes "BACK") 2 (codes "back [N]")
row_of keyword.Restart = word (codes "RESTART") 5 (codes "restart, and nothing after it")
row_of keyword.Restore = word (codes "RESTORE") 5 (codes "restore FILE")
row_of keyword.Save = word (codes "SAVE") 2 (codes "save FILE")
row_of keyword.Break = word (codes "BREAK") 1 (codes "break ADDRESS [after N] [if CONDITION]")
row_of keyword.Watch = word (codes "WATCH") 1 (codes "watch FIELD, RANGE, paper [@TEXT@], reader or punch")
row_of keyword.Delete = word (codes "DELETE") 3 (codes "delete [N ..], up to eight")
row_of keyword.Do = word (codes "DO") 2 (codes "do FILE")
row_of keyword.Transcript = word (codes "TRANSCRIPT") 1 (codes "transcript FILE, or transcript off")
row_of keyword.Quit = word (codes "QUIT") 1 (codes "quit, and nothing after it")

abbrev pub keywords : List Keyword
keywords =
    keyword.Examine ∷ keyword.List ∷ keyword.Print ∷ keyword.Source ∷ keyword.Registers ∷ keyword.Cards ∷
    keyword.Paper ∷ keyword.Symbols ∷ keyword.Evaluate ∷ keyword.Breaks ∷ keyword.Why ∷ keyword.Journal ∷
    keyword.Assert ∷ keyword.Help ∷ keyword.Deposit ∷ keyword.Set ∷ keyword.Mark ∷ keyword.Unmark ∷
    keyword.Start ∷ keyword.Switch ∷ keyword.Feed ∷ keyword.Deck ∷ keyword.Load ∷ keyword.Step ∷
    keyword.Continue ∷ keyword.Until ∷ keyword.Go ∷ keyword.Undo ∷ keyword.Back ∷ keyword.Restart ∷
    keyword.Restore ∷ keyword.Save ∷ keyword.Break ∷ keyword.Watch ∷ keyword.Delete ∷ keyword.Do ∷
    keyword.Transcript ∷ keyword.Quit ∷ []

-- some letters are a beginning of this word, and as many as suffice
abbrev pub accepts : List ℕ → Keyword → Bool
accepts letters of =
    nat_le (row_of of).shortest (length letters) && nat_le (length letters) (length (row_of of).letters)
    && bytes_eq (take (length letters) (row_of of).letters) letters

-- the word that some letters mean, in capitals
unfoldable pub keyword_of : List ℕ → Option Keyword
keyword_of letters = find (accepts letters) keywords
