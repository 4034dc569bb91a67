-- What is held of lines: what some say, and for each line where among them it is. Nothing is held of a comment that has
-- no fault.
use Rattle.std.specs.Prelude.{◌≡◌, ℕ, zero, suc, ◌≤◌, List, [], ◌∷◌, ◌++◌, length, take, map, slice_index_or, None, ⊤}
use Rattle.autocoder_statements.specs.declared.language.Language.{Language}
use Rattle.autocoder_statements.specs.declared.statement.LineCheck.TheVariants as bytes
use Rattle.autocoder_statements.specs.declared.statement.Line.{Line}
use Rattle.autocoder_statements.specs.declared.symbols.Registers.{Registers}
use Rattle.autocoder_symbols.specs.Unread.{all_again}
use Rattle.autocoder_symbols.specs.declared.unread.Unread.{Unread}

-- a comment that has no fault
abbrev pub comment : Line
comment = record { bytes = bytes.Good; statement = None }

-- the line at a place, counted from 1; 0 for a comment
abbrev pub line_kept : List Line → ℕ → Line
line_kept said zero = comment
line_kept said (suc n) = slice_index_or said n comment

-- each place is that of a line, or of a comment
abbrev pub AreKept : List Line → List ℕ → Type 0
AreKept said [] = ⊤
AreKept said (place ∷ places) = (place ≤ length said) × AreKept said places

-- the first of the lines that say something are held as they are read again
abbrev pub AreHeld : List Line → List Line → Type 0
AreHeld held said = held ≡ take (length held) said

-- the lines of a source that are read so far, in a language, with X1 to X3 as labels or not
pub record LinesRead : Type 0 where
  pub language : Language
  pub registers : Registers
  pub source : List ℕ
  pub lines : List Line

-- one more
abbrev pub with_line : LinesRead → Line → LinesRead
with_line this line = record this { lines = this.lines ++ line ∷ [] }

-- those at places among the lines that are read again
abbrev pub lines_kept : Language → Registers → List ℕ → List Unread → List ℕ → List Line
lines_kept language registers source unread places = map (line_kept (all_again language registers source unread)) places
