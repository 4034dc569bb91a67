-- The lines of a text (own).
use Rattle.std.specs.Prelude.{ℕ, ◌-◌, ◌==◌, Bool, true, false, List, [], ◌∷◌, ◌++◌, map, length, take, slice_index}
use Rattle.std.specs.Prelude.{if◌then◌else◌}
use Rattle.console_text.specs.ConsoleLine.{Said, said_by}
use Rattle.machine_notation.specs.Bytes.{line_feed}
use Rattle.room_alone.specs.Bytes.{carriage_return}

-- a text cut at its line feeds: the finished lines, and what comes after the last line feed
pub record Cut : Type 0 where
  pub finished : List (List ℕ)
  pub rest : List ℕ

-- the byte goes onto the front of the first line
abbrev pub onto_lines : ℕ → List (List ℕ) → List ℕ → Cut
onto_lines byte [] rest = record { finished = []; rest = byte ∷ rest }
onto_lines byte (line ∷ lines) rest = record { finished = (byte ∷ line) ∷ lines; rest = rest }

-- the byte before a text that is cut so: a line feed ends a line of its own
abbrev pub in_front : ℕ → Cut → Cut
in_front byte cut =
    if byte == line_feed then record { finished = [] ∷ cut.finished; rest = cut.rest }
    else onto_lines byte cut.finished cut.rest

-- the text, cut
unfoldable pub cut_of : List ℕ → Cut
cut_of [] = record { finished = []; rest = [] }
cut_of (byte ∷ bytes) = in_front byte (cut_of bytes)

-- a line without one carriage return at its end
unfoldable pub without_return : List ℕ → List ℕ
without_return line =
    if slice_index line (length line - 1) == carriage_return then take (length line - 1) line else line

-- what a finished line says
abbrev pub said_finished : List ℕ → Said
said_finished line = said_by (without_return line)

-- after the end of input an unfinished line counts, if it has a byte; a carriage return stays
abbrev pub last_said : List ℕ → List Said
last_said [] = []
last_said (byte ∷ bytes) = said_by (byte ∷ bytes) ∷ []

-- what the lines of a text say, if its end is the end of input (true) and if it isn't
abbrev pub lines_of : Bool → List ℕ → List Said
lines_of false text = map said_finished (cut_of text).finished
lines_of true text = map said_finished (cut_of text).finished ++ last_said (cut_of text).rest
