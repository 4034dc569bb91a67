-- What the code holds, without where it lies in memory.
use Rattle.std.specs.Prelude.{ℕ, List, []}
use Rattle.std.specs.Global.{Global}
use Rattle.std.specs.Option.{option_map_or}
use Rattle.std.specs.declared.vec.Vec.{Vec}
use Rattle.indexmap.specs.IndexMap.{IndexMap, get}
use Rattle.autocoder_statements.specs.declared.label.Label.{Label}
use Rattle.autocoder_symbols.specs.Symbols.{same_label}

-- the lines that are noted for a label
abbrev pub lines_naming : {S : Type 0} → IndexMap Label (Vec ℕ Global) S → Label → List ℕ
lines_naming uses label = option_map_or (λ (lines : Vec ℕ Global). lines.items) (get same_label uses label) []
