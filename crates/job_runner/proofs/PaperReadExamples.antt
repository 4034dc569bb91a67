-- Papers read from their texts, computed. The codes: 1 is the digit 1, 10 zero, and 0 blank.
use Rattle.std.proofs.Common.{◌≡◌, ℕ, List, [], ◌∷◌, refl}
use Rattle.std.specs.Prelude.{codes}
use Rattle.bcd_1401.specs.Graphic.{graphics}
use Rattle.devices_1401.specs.declared.print_line.PrintLine.{PrintLine}
use Rattle.job_runner.specs.declared.paper.PaperPlace.{PaperPlace}
use Rattle.machine_notation.specs.Characters.{graphics_of, trimmed}
use Rattle.job_runner.specs.Paper.{line_text, paper_text}
use Rattle.job_runner.specs.PaperRead.{ReadLine, read_back, read_of}

abbrev place : ℕ → ℕ → PaperPlace
place form line = record { form = form; line = line }

abbrev read : ℕ → ℕ → List ℕ → ReadLine
read form line text = record { place = place form line; graphics = text }

abbrev line : ℕ → ℕ → List ℕ → PrintLine
line form number text = record { form = form; line = number; text = text }

-- two lines of one form, and one on the form after next, below an empty line
abbrev three : List ReadLine
three = read 1 1 (codes "A") ∷ read 1 2 (codes " B") ∷ read 3 2 (codes "C") ∷ []

a_text_is_read : read_back (place 1 1) (codes "A\n B\n\u{c}\u{c}\nC\n") ≡ three
a_text_is_read = refl

-- forms are counted from 9,999 on to 0
forms_begin_again : read_back (place 9999 60) (codes "\u{c}A\n") ≡ read 0 1 (codes "A") ∷ []
forms_begin_again = refl

-- nothing is read of a blank line
abbrev printed : List PrintLine
printed = line 1 1 (1 ∷ 0 ∷ 10 ∷ 0 ∷ []) ∷ line 1 2 (0 ∷ 0 ∷ []) ∷ line 2 1 (0 ∷ 1 ∷ []) ∷ []

printed_lines_are_read : read_of printed ≡ read 1 1 (codes "1 0") ∷ read 2 1 (codes " 1") ∷ []
unfolding trimmed graphics_of graphics
printed_lines_are_read = refl

their_text_is_read : read_back (place 1 1) (paper_text (place 1 1) printed) ≡ read_of printed
unfolding line_text trimmed graphics_of graphics
their_text_is_read = refl
