-- What can be read off the paper and off its text (own).
use Rattle.std.specs.Prelude.{◌≡◌, ℕ, ◌+◌, ◌%◌, ◌==◌, ◌<◌, ◌≤◌, if◌then◌else◌, List, [], ◌∷◌, ◌++◌}
use Rattle.std.specs.List.{All, flat_map}
use Rattle.devices_1401.specs.Carriage.{forms}
use Rattle.devices_1401.specs.declared.print_line.PrintLine.{PrintLine}
use Rattle.job_runner.specs.declared.paper.PaperPlace.{PaperPlace}
use Rattle.machine_notation.specs.Bytes.{line_feed}
use Rattle.machine_notation.specs.Characters.{graphics_of, trimmed}
use Rattle.job_runner.specs.Paper.{form_feed, paper_text}

-- a line that isn't blank: its place, and its graphics without trailing blanks
pub record ReadLine : Type 0 where
  pub place : PaperPlace
  pub graphics : List ℕ

-- the line at a place, if it isn't blank
abbrev pub read_at : PaperPlace → List ℕ → List ReadLine
read_at place [] = []
read_at place (graphic ∷ graphics) = record { place = place; graphics = graphic ∷ graphics } ∷ []

-- what can be read of a printed line, and of a paper
abbrev pub read_of_line : PrintLine → List ReadLine
read_of_line line = read_at (record { form = line.form; line = line.line }) (graphics_of (trimmed line.text))

abbrev pub read_of : List PrintLine → List ReadLine
read_of lines = flat_map read_of_line lines

-- the first line of the next form
abbrev pub next_form : PaperPlace → PaperPlace
next_form place = record { form = (place.form + 1) % forms; line = 1 }

-- the next line of the same form
abbrev pub next_line : PaperPlace → PaperPlace
next_line place = record { form = place.form; line = place.line + 1 }

-- a text read from a place on, after these graphics of its line: a form feed leads to the next form, a line feed to the
-- next line, and any other byte is a graphic
abbrev pub read_on : PaperPlace → List ℕ → List ℕ → List ReadLine
read_on place graphics [] = read_at place graphics
read_on place graphics (byte ∷ bytes) =
    if byte == form_feed then read_at place graphics ++ read_on (next_form place) [] bytes
    else (
    if byte == line_feed then read_at place graphics ++ read_on (next_line place) [] bytes
    else read_on place (graphics ++ byte ∷ []) bytes
    )

-- a text read from a place on
abbrev pub read_back : PaperPlace → List ℕ → List ReadLine
read_back place text = read_on place [] text

-- a line with the number of a form, and a line number from 1 on
pub record IsOnForm (line : PrintLine) : Type 0 where
  pub form : line.form < forms
  pub first : 1 ≤ line.line

-- the law of the paper's text: reading it gives back each line's form, line and graphics
abbrev pub IsReadBack : PaperPlace → List PrintLine → Type 0
IsReadBack place lines =
    place.form < forms → All IsOnForm lines → read_back place (paper_text place lines) ≡ read_of lines

-- no other paper has its text
abbrev pub IsOnlyPaper : PaperPlace → List PrintLine → Type 0
IsOnlyPaper place lines =
    place.form < forms → All IsOnForm lines → (other : List PrintLine) → All IsOnForm other
    → paper_text place other ≡ paper_text place lines → read_of other ≡ read_of lines
