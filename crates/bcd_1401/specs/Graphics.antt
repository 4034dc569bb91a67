-- Three print chains: which bytes mean other characters on them (as SIMH's i1401 punches and reads them).
use Rattle.std.specs.Prelude.{◌≡◌, ℕ, ◌<◌, ◌==◌, List, [], Option, Some, codes, map, position, slice_index, unwrap_or}
use Rattle.std.specs.Option.{option_map_or}
use Rattle.bcd_1401.specs.Graphic.{graphics}
use Rattle.bcd_1401.specs.declared.graphics.Graphics.{Graphics}
use Rattle.bcd_1401.specs.declared.graphics.Graphics.TheVariants as chains

-- the bytes of a chain that mean something else here: its own graphics, and then those of this machine that it hasn't
abbrev pub bytes_there : Graphics → List ℕ
bytes_there chains.Ours = []
bytes_there chains.Simh = codes "{|~\"}('=+"
bytes_there chains.Fortran = codes "='(+{|~\"}#@%&"

-- what each of them is here; the last ones are graphics of no character
abbrev pub bytes_here : Graphics → List ℕ
bytes_here chains.Ours = []
bytes_here chains.Simh = codes "('=+\"{|~}"
bytes_here chains.Fortran = codes "#@%&('=+\"~|{}"

-- a byte, with those of the first text exchanged for those of the second
abbrev pub exchanged : List ℕ → List ℕ → ℕ → ℕ
exchanged of into byte = option_map_or (λ i. slice_index into i) (position (λ each. each == byte) of) byte

-- a byte of a chain as this machine's chain has it, and the other way round
abbrev pub ours_of : Graphics → ℕ → ℕ
ours_of chain byte = exchanged (bytes_there chain) (bytes_here chain) byte

abbrev pub theirs_of : Graphics → ℕ → ℕ
theirs_of chain byte = exchanged (bytes_here chain) (bytes_there chain) byte

-- the chain that was asked for, or else that of this machine
abbrev pub chain_of : Option Graphics → Graphics
chain_of asked = unwrap_or asked chains.Ours

-- the graphics of a chain by code
unfoldable pub graphics_on : Graphics → List ℕ
graphics_on chain = map (theirs_of chain) graphics

-- each of the 64 characters has a graphic of its own on a chain
abbrev pub IsOneToOne : Graphics → Type 0
IsOneToOne chain =
    (char : ℕ) → char < 64
    → position (λ each. each == slice_index (graphics_on chain) char) (graphics_on chain) ≡ Some char
