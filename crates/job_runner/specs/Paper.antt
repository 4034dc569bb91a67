-- The paper as a text (own): each line at its place on the form, and a form feed for each new form.
use Rattle.std.specs.Prelude.{ℕ, ◌+◌, ◌-◌, ◌%◌, ◌==◌, ◌&&◌, nat_lt, if◌then◌else◌, List, [], ◌∷◌, ◌++◌, replicate}
use Rattle.devices_1401.specs.Carriage.{forms}
use Rattle.devices_1401.specs.declared.print_line.PrintLine.{PrintLine}
use Rattle.machine_notation.specs.Bytes.{line_feed}
use Rattle.machine_notation.specs.Characters.{graphics_of, trimmed}
use Rattle.job_runner.specs.declared.paper.PaperPlace.{PaperPlace}

-- it begins a form
abbrev pub form_feed : ℕ
form_feed = 12

-- how many forms a line is further on than a place, by their numbers
abbrev pub forms_on : PaperPlace → PrintLine → ℕ
forms_on place line = (line.form + forms - place.form % forms) % forms

-- how many new forms the paper comes to: a line above the place is on a later form with the same number
abbrev pub new_forms : PaperPlace → PrintLine → ℕ
new_forms place line =
    if (forms_on place line == 0) && nat_lt line.line place.line then forms else forms_on place line

-- the first line that is free on the line's form
abbrev pub begun_at : PaperPlace → PrintLine → ℕ
begun_at place line = if new_forms place line == 0 then place.line else 1

-- what a line adds to a text that has reached a place: new forms, empty lines, and its characters
unfoldable pub line_text : PaperPlace → PrintLine → List ℕ
line_text place line =
    replicate (new_forms place line) form_feed ++ replicate (line.line - begun_at place line) line_feed
    ++ graphics_of (trimmed line.text) ++ line_feed ∷ []

-- the place below a line
abbrev pub place_after : PrintLine → PaperPlace
place_after line = record { form = line.form; line = line.line + 1 }

-- what lines add to a text that has reached a place
abbrev pub paper_text : PaperPlace → List PrintLine → List ℕ
paper_text place [] = []
paper_text place (line ∷ lines) = line_text place line ++ paper_text (place_after line) lines

-- the place that it reaches then
abbrev pub place_beyond : PaperPlace → List PrintLine → PaperPlace
place_beyond place [] = place
place_beyond place (line ∷ lines) = place_beyond (place_after line) lines
