-- What the lines of a source declare, those after END too (own).
use Rattle.std.specs.Option.{option_or}
use Rattle.indexmap.specs.IndexMap.{get}
use Rattle.autocoder_symbols.specs.Symbols.{Sites, same_label}
use Rattle.autocoder_diagnostics.specs.declared.declarations.Declarations.{Declarations}

-- where each symbol is declared: by the lines up to END, or else by those after it
abbrev pub anywhere_of : Declarations → Sites
anywhere_of this label = option_or (get same_label this.symbols.sites label) (get same_label this.beyond_end label)
