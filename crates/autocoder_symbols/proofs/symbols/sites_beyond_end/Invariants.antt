-- What the map has, or else what the lines that are left declare after END, is what all declare there.
use Rattle.std.proofs.Common.{◌≡◌, ◌+◌, drop}
use Rattle.std.specs.Option.{option_or}
use Rattle.indexmap.specs.IndexMap.{get}
use Rattle.autocoder_statements.specs.declared.label.Label.{Label}
use Rattle.autocoder_symbols.specs.Symbols.{same_label, sites_beyond_end}
use Rattle.autocoder_symbols.proofs.SymbolsLemmas.{left_beyond}
use Rattle.autocoder_symbols.proofs.symbols.sites_beyond_end.Given as goal

abbrev pub invariant-loop-i : goal.invariant-loop-i
invariant-loop-i l =
    (label : Label)
    → option_or (get same_label l.sites label) (left_beyond l.is_ended (l.i + 1) (drop l.i l.lines) label)
    ≡ sites_beyond_end l.lines label
