-- What the lines of a source declare, and from which line on the value of a symbol is known (own).
use Rattle.std.specs.Prelude.{ℕ, nat_lt, Bool, true, false, if◌then◌else◌, List, max, Option, Some, None, is_some}
use Rattle.std.specs.Option.{option_map, option_map_or}
use Rattle.autocoder_statements.specs.declared.label.Label.{Label}
use Rattle.autocoder_statements.specs.declared.language.Language.{Language}
use Rattle.autocoder_statements.specs.declared.statement.Line.{Line}
use Rattle.autocoder_symbols.specs.Chains.{Chains, chains_in, link_of}
use Rattle.autocoder_symbols.specs.Symbols.{Sites, sites_of}
use Rattle.autocoder_symbols.specs.declared.chains.Link.{Link}
use Rattle.autocoder_symbols.specs.declared.known.Known.{Known}
use Rattle.autocoder_symbols.specs.declared.known.Known.TheVariants as known
use Rattle.autocoder_symbols.specs.declared.symbols.Declaration.{Declaration}

-- what the lines of a source declare: the language that they are in, where each symbol is declared, and the chains of
-- EQUs
pub record Declared : Type 0 where
  pub language : Language
  pub sites : Sites
  pub chains : Chains

abbrev pub declared_at : Language → List Line → Declared
declared_at language lines =
    record { language = language; sites = sites_of lines; chains = chains_in language (sites_of lines) lines }

-- the value of a label is known from its line on; that of an area literal once literals are placed
abbrev pub known_alone : Declaration → Known
known_alone this = if is_some this.area then known.WhenPlaced else known.From this.line

-- not before this line
abbrev pub known_beyond : ℕ → Known → Known
known_beyond last (known.From line) = known.From (max last line)
known_beyond last known.WhenPlaced = known.WhenPlaced
known_beyond last known.Never = known.Never

-- the value of a label by its chain: from the last of the chain's lines on, and never if the chain never ends. At the
-- end a symbol that isn't declared is the fault of the EQU that names it.
abbrev pub known_by_chain : Sites → Link → Known
known_by_chain sites link =
    if is_some link.next then known.Never
    else option_map_or (λ (root : Declaration). known_beyond link.last (known_alone root)) (sites link.to)
    (known.From link.last)

abbrev pub known_as : Declared → Option Link → Declaration → Known
known_as declared None declaration = known_alone declaration
known_as declared (Some link) declaration = known_by_chain declared.sites link

-- from where on the value of a symbol is known that is declared
abbrev pub known_of : Declared → Label → Option Known
known_of declared label = option_map (known_as declared (link_of declared.chains label)) (declared.sites label)

-- its value is known above the line of this number
abbrev pub is_known_before : ℕ → Option Known → Bool
is_known_before number None = false
is_known_before number (Some (known.From line)) = nat_lt line number
is_known_before number (Some known.WhenPlaced) = false
is_known_before number (Some known.Never) = false

-- its value is known once all is placed
abbrev pub is_known_at_end : Option Known → Bool
is_known_at_end None = false
is_known_at_end (Some (known.From line)) = true
is_known_at_end (Some known.WhenPlaced) = true
is_known_at_end (Some known.Never) = false
