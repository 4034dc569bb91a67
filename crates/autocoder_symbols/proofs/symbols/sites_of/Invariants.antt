-- What the map has, or else what the lines that are left declare, is what all declare.
use Rattle.std.proofs.Common.{◌≡◌, ◌+◌, drop}
use Rattle.std.specs.Option.{option_or}
use Rattle.indexmap.specs.IndexMap.{get}
use Rattle.autocoder_statements.specs.declared.label.Label.{Label}
use Rattle.autocoder_symbols.specs.Symbols.{same_label, sites_of, first_from, up_to_end}
use Rattle.autocoder_symbols.proofs.symbols.sites_of.Given as goal

abbrev pub invariant-loop-i : goal.invariant-loop-i
invariant-loop-i l =
    (label : Label) → option_or (get same_label l.sites label)
    (first_from (l.i + 1) (up_to_end (drop l.i l.lines)) label) ≡ sites_of l.lines label
