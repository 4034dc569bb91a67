-- Printed lines, each with its form and its line (own).
use Rattle.std.specs.Prelude.{ℕ, ◌-◌, List, [], ◌∷◌, ◌++◌, codes, drop, length, replicate, Option, None, Some}
use Rattle.std.specs.List.{concat, flat_map}
use Rattle.devices_1401.specs.declared.print_line.PrintLine.{PrintLine}
use Rattle.machine_notation.specs.Characters.{graphics_of, trimmed}
use Rattle.machine_notation.specs.Digits.{digits_in}

-- the number of a form, in four columns from the right
unfoldable pub form_text : ℕ → List ℕ
form_text form = replicate (4 - length (digits_in 1 form)) 32 ++ digits_in 1 form

-- a printed line
unfoldable pub printed_text : PrintLine → List ℕ
printed_text line =
    form_text line.form
    ++ concat (codes "/" ∷ digits_in 2 line.line ∷ codes " |" ∷ graphics_of (trimmed line.text)
    ∷ codes "\n" ∷ [])

-- the text of a line, if there is one
abbrev pub line_text : Option PrintLine → List ℕ
line_text None = []
line_text (Some line) = printed_text line

-- the last lines of the paper, this many at most
abbrev pub paper_text : ℕ → List PrintLine → List ℕ
paper_text most lines = flat_map printed_text (drop (length lines - most) lines)
