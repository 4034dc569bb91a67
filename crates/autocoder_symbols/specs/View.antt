-- What the code holds, without where it lies in memory.
use Rattle.indexmap.specs.IndexMap.{get}
use Rattle.autocoder_symbols.specs.Chains.{Chains}
use Rattle.autocoder_symbols.specs.Known.{Declared}
use Rattle.autocoder_symbols.specs.Symbols.{same_label}
use Rattle.autocoder_symbols.specs.declared.chains.Chains.{Chains as HeldChains}
use Rattle.autocoder_symbols.specs.declared.known.Symbols.{Symbols}

abbrev pub chains_view : HeldChains → Chains
chains_view this = record { labels = this.labels.keys; links = this.links.items }

abbrev pub symbols_view : Symbols → Declared
symbols_view this =
    record { language = this.language; sites = get same_label this.sites; chains = chains_view this.chains }
