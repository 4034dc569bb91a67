-- What the bytes of a text show of the chain that it was made for (own).
use Rattle.std.specs.Prelude.{ℕ, ◌==◌, Bool, ◌&&◌, not, is_some, if◌then◌else◌, List, codes, Option, None, Some, option_map}
use Rattle.std.specs.List.{list_any}
use Rattle.bcd_1401.specs.Graphics.{chain_of}
use Rattle.bcd_1401.specs.declared.graphics.Graphics.{Graphics}
use Rattle.bcd_1401.specs.declared.graphics.Graphics.TheVariants as chains
use Rattle.bcd_1401.specs.declared.suggestion.Suggestion.{Suggestion}
use Rattle.bcd_1401.specs.declared.suggestion.Suggestion.TheVariants as suggestions

abbrev pub is_one_of : List ℕ → ℕ → Bool
is_one_of bytes byte = list_any (λ each. each == byte) bytes

abbrev pub has_any : List ℕ → List ℕ → Bool
has_any bytes text = list_any (is_one_of bytes) text

-- the bytes that are graphics of another chain, and of no character of this one
abbrev pub foreign_bytes : Graphics → List ℕ
foreign_bytes chains.Ours = codes "{|~}"
foreign_bytes chains.Simh = codes "='(+"
foreign_bytes chains.Fortran = codes "#@%&"

-- what they show
abbrev pub shown_on : Graphics → Suggestion
shown_on chains.Ours = suggestions.Simh
shown_on chains.Simh = suggestions.Fortran
shown_on chains.Fortran = suggestions.Simh

abbrev pub suggestion_on : Graphics → List ℕ → Option Suggestion
suggestion_on chain text =
    if has_any (foreign_bytes chain) text then Some (shown_on chain) else None

-- what may be said of a text for which this chain was asked for, or none
abbrev pub suggestion_of : Option Graphics → List ℕ → Option Suggestion
suggestion_of asked text =
    if not (is_some asked) && has_any (codes "=(+") text then Some suggestions.Doubtful
    else suggestion_on (chain_of asked) text

-- the same of a source alone
abbrev pub of_source : Suggestion → Suggestion
of_source suggestions.Simh = suggestions.SourceSimh
of_source suggestions.Fortran = suggestions.SourceFortran
of_source suggestions.Doubtful = suggestions.Doubtful
of_source suggestions.SourceSimh = suggestions.SourceSimh
of_source suggestions.SourceFortran = suggestions.SourceFortran

-- what is said of a source for which this chain was asked for, or none
abbrev pub suggestion_for_source : Option Graphics → List ℕ → Option Suggestion
suggestion_for_source None text = suggestion_on (chain_of None) text
suggestion_for_source (Some graphics) text = option_map of_source (suggestion_on (chain_of (Some graphics)) text)
