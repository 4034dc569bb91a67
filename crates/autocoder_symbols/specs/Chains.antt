-- Chains of EQUs: what a label stands for whose EQU names one without a value so far (C24-3258 and J24-1434, "EQU").
use Rattle.std.specs.Prelude.{◌≡◌, ◌≢◌, ℕ, zero, suc, ◌+◌, ◌==◌, ◌+ℤ◌, Bool, false, not, ◌&&◌, if◌then◌else◌, List, []}
use Rattle.std.specs.Prelude.{◌∷◌, ◌++◌, map, max, position, slice_get, is_some, ℤ, Option, Some, None}
use Rattle.std.specs.Option.{option_and_then, option_map_or, option_or}
use Rattle.std.specs.List.{list_any, AllZip}
use Rattle.autocoder_statements.specs.Description.{describe}
use Rattle.autocoder_statements.specs.Statement.{well_formed}
use Rattle.autocoder_statements.specs.declared.address.Address.{Address}
use Rattle.autocoder_statements.specs.declared.address.Base.{Base}
use Rattle.autocoder_statements.specs.declared.address.Base.TheVariants as bases
use Rattle.autocoder_statements.specs.declared.description.Addressing.{Addressing}
use Rattle.autocoder_statements.specs.declared.description.Addressing.TheVariants as addressing
use Rattle.autocoder_statements.specs.declared.label.Label.{Label}
use Rattle.autocoder_statements.specs.declared.language.Language.{Language}
use Rattle.autocoder_statements.specs.declared.language.Language.TheVariants as languages
use Rattle.autocoder_statements.specs.declared.operands.Operand.TheVariants as operands
use Rattle.autocoder_statements.specs.declared.operands.OperandField.{OperandField}
use Rattle.autocoder_statements.specs.declared.operands.OperandField.TheVariants as fields
use Rattle.autocoder_statements.specs.declared.statement.Line.{Line}
use Rattle.autocoder_statements.specs.declared.statement.Statement.{Statement}
use Rattle.autocoder_symbols.specs.Symbols.{Sites, same_label, up_to_end, is_label_before}
use Rattle.autocoder_symbols.specs.declared.chains.Link.{Link}
use Rattle.autocoder_symbols.specs.declared.symbols.Declaration.{Declaration}

-- the EQUs that name a symbol without a value so far: their labels in the order of their lines, and for each what it
-- says of its label
pub record Chains : Type 0 where
  pub labels : List Label
  pub links : List Link

abbrev pub no_chains : Chains
no_chains = record { labels = []; links = [] }

-- a symbol has a value where a line of this number stands: an earlier line has it as its label, and is no link
abbrev pub has_value : Sites → List Label → ℕ → Label → Bool
has_value sites links number symbol =
    is_label_before number (sites symbol) && not (list_any (same_label symbol) links)

-- what an EQU says of its label that is counted from this symbol
abbrev pub link_to : ℕ → Address → Label → Link
link_to number address symbol =
    record { to = symbol; next = None; added = address.adjustment; index = address.index; last = number }

abbrev pub link_in_base : Sites → List Label → ℕ → Address → Base → Option Link
link_in_base sites links number address (bases.Number place) = None
link_in_base sites links number address (bases.Symbol symbol) =
    if has_value sites links number symbol then None else Some (link_to number address symbol)
link_in_base sites links number address bases.Here = None
link_in_base sites links number address (bases.Register register) = None
link_in_base sites links number address bases.NextHundred = None

abbrev pub link_in_operand : Sites → List Label → ℕ → OperandField → Option Link
link_in_operand sites links number fields.Absent = None
link_in_operand sites links number fields.Malformed = None
link_in_operand sites links number (fields.Operand (operands.Address address)) =
    link_in_base sites links number address address.base
link_in_operand sites links number (fields.Operand (operands.Literal literal)) = None
link_in_operand sites links number (fields.Operand (operands.Unit unit)) = None

-- the link that an EQU is, among these so far
abbrev pub link_in : Sites → List Label → ℕ → Addressing → Option Link
link_in sites links number addressing.Nothing = None
link_in sites links number (addressing.Addresses of) = None
link_in sites links number (addressing.EarlierValue of) = None
link_in sites links number (addressing.Equal of) = link_in_operand sites links number of.a
link_in sites links number (addressing.Value of) = None
link_in sites links number (addressing.Entry of) = None

-- a symbol is declared on the line of this number
abbrev pub is_declared_here : ℕ → Option Declaration → Bool
is_declared_here number None = false
is_declared_here number (Some declaration) = declaration.line == number

-- one link more, unless its label is that of one
abbrev pub with_link : Chains → Label → Option Link → Chains
with_link this label None = this
with_link this label (Some link) =
    if list_any (same_label label) this.labels then this
    else record { labels = this.labels ++ label ∷ []; links = this.links ++ link ∷ [] }

-- a statement may be a link if the line of this number declares its label
abbrev pub with_labelled : Sites → ℕ → Chains → Option Label → Addressing → Chains
with_labelled sites number this None asked = this
with_labelled sites number this (Some label) asked =
    if is_declared_here number (sites label) then with_link this label (link_in sites this.labels number asked)
    else this

abbrev pub with_line : Sites → ℕ → Chains → Line → Chains
with_line sites number this line =
    option_map_or
    (λ (of : Statement). with_labelled sites number this (well_formed of.label) (describe of.body).addressing)
    line.statement this

-- the links of lines after these, counting lines from this number
abbrev pub links_from : Sites → ℕ → Chains → List Line → Chains
links_from sites number this [] = this
links_from sites number this (line ∷ lines) = links_from sites (number + 1) (with_line sites number this line) lines

-- which link goes on where a link names the label of one
abbrev pub joined : List Label → Link → Link
joined labels link = record link { next = position (same_label link.to) labels }

-- a link followed by another as one
abbrev pub chained : Link → Link → Link
chained this that =
    record {
      to = that.to;
      next = that.next;
      added = this.added +ℤ that.added;
      index = option_or this.index that.index;
      last = max this.last that.last;
    }

-- a link with the one that it goes on at, if it goes on
abbrev pub onward : List Link → Link → Link
onward links this = option_map_or (chained this) (option_and_then (slice_get links) this.next) this

-- a link of these goes on at another
abbrev pub go_on : List Link → Bool
go_on links = list_any (λ (link : Link). is_some link.next) links

-- each link with the one that it goes on at: twice as far
abbrev pub twice : List Link → List Link
twice links = map (onward links) links

abbrev pub twice_over : ℕ → List Link → List Link
twice_over zero links = links
twice_over (suc n) links = twice (twice_over n links)

-- a source has fewer than 2 ^ 32 lines: a chain that isn't at its end after as many links never ends
abbrev pub doublings : ℕ
doublings = 32

-- each link as far as its chain goes
abbrev pub followed : Chains → Chains
followed this =
    record { labels = this.labels; links = twice_over doublings (map (joined this.labels) this.links) }

-- the chains of lines whose symbols are declared there
abbrev pub chains_of : Sites → List Line → Chains
chains_of sites lines = followed (links_from sites 1 no_chains (up_to_end lines))

-- in the plain language EQU names what has a value
abbrev pub chains_in : Language → Sites → List Line → Chains
chains_in languages.Plain sites lines = no_chains
chains_in languages.Ibm sites lines = chains_of sites lines

-- the link that gives a label its value
abbrev pub link_of : Chains → Label → Option Link
link_of this label = option_and_then (slice_get this.links) (position (same_label label) this.labels)

-- the chains of lines in a language before they are followed
abbrev pub unfollowed : Language → Sites → List Line → Chains
unfollowed languages.Plain sites lines = no_chains
unfollowed languages.Ibm sites lines = links_from sites 1 no_chains (up_to_end lines)

-- their links, each with the one that goes on
abbrev pub joined_in : Chains → List Link
joined_in this = map (joined this.labels) this.links

-- a link with the next n of its chain, taken one by one
abbrev pub one_by_one : ℕ → List Link → Link → Link
one_by_one zero links this = this
one_by_one (suc n) links this = onward links (one_by_one n links this)

-- a link of these, followed to the end of its chain
pub record IsFollowed (links : List Link) (this far : Link) : Type 0 where
  -- It is the link with some number of those after it.
  pub reached : (n : ℕ) × (far ≡ one_by_one n links this)
  -- If the chain ends, it is the link with all of them.
  pub ended : (n : ℕ) → (one_by_one n links this).next ≡ None → far ≡ one_by_one n links this
  -- If it still goes on, the chain never ends.
  pub endless : far.next ≢ None → (n : ℕ) → (one_by_one n links this).next ≢ None

-- what a symbol stands for: its value, its index register, and the line from which on they are known
pub record Meaning : Type 0 where
  pub value : ℤ
  pub index : Option ℕ
  pub line : ℕ

-- what a link makes of the meaning of its symbol
abbrev pub meant : Link → Meaning → Meaning
meant link symbol =
    record {
      value = symbol.value +ℤ link.added;
      index = option_or link.index symbol.index;
      line = max link.last symbol.line;
    }

-- a label means what its link makes of the meaning of its symbol
abbrev pub IsMeant : (Label → Meaning) → Label → Link → Type 0
IsMeant meaning label link = meaning label ≡ meant link (meaning link.to)

-- chains before and after they are followed
pub record AreFollowed (before after : Chains) : Type 0 where
  -- The labels stay,
  pub labels : after.labels ≡ before.labels
  -- each link is followed to the end of its chain, one by one,
  pub links : AllZip (IsFollowed (joined_in before)) (joined_in before) after.links
  -- and whatever the symbols stand for, if it agrees with each EQU, it agrees with what the EQUs come to.
  pub meant : (meaning : Label → Meaning) → AllZip (IsMeant meaning) before.labels before.links
      → AllZip (IsMeant meaning) after.labels after.links
