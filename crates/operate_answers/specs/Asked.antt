-- What is asked of the machine by breaks and by watches on devices (own).
use Rattle.std.specs.Prelude.{ℕ, ◌-◌, ◌==◌, ◌&&◌, ◌||◌, Bool, true, false, List, [], ◌∷◌, length, Option, None, Some}
use Rattle.std.specs.Prelude.{slice_get, slice_index}
use Rattle.bcd_1401.specs.Graphic.{graphics}
use Rattle.cpu_1401.specs.State.{State}
use Rattle.devices_1401.specs.Devices.{Devices}
use Rattle.devices_1401.specs.declared.print_line.PrintLine.{PrintLine}
use Rattle.operate_program.specs.Comparison.{compared_at}
use Rattle.operate_answers.specs.declared.asked.Asked.{Asked}
use Rattle.operate_answers.specs.declared.asked.Asked.TheVariants as asked

-- whether characters begin with a text
abbrev pub begins : List ℕ → List ℕ → Bool
begins [] chars = true
begins (byte ∷ text) [] = false
begins (byte ∷ text) (char ∷ chars) = (slice_index graphics char == byte) && begins text chars

-- whether characters have a text among them
abbrev pub has_text : List ℕ → List ℕ → Bool
has_text text [] = begins text []
has_text text (char ∷ chars) = begins text (char ∷ chars) || has_text text chars

-- whether a line has a text, if there is one
abbrev pub in_line : List ℕ → Option PrintLine → Bool
in_line text None = false
in_line text (Some line) = has_text text line.text

-- whether the last line on the paper has a text
abbrev pub is_printed : List ℕ → Devices → Bool
is_printed text devices = in_line text (slice_get devices.paper (length devices.paper - 1))

-- whether what is asked holds of a machine
abbrev pub is_asked : Asked → State → Bool
is_asked asked.Anything s = true
is_asked (asked.Compared it) s = compared_at s.storage it.field it.relation it.value
is_asked (asked.Printed text) s = is_printed text s.devices
