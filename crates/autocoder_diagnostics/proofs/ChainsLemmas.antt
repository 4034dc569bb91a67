-- In lines without a fault in the plain language each EQU names what has a value, and they have none in the wider one.
use Rattle.std.proofs.Common.{◌≡◌, ℕ, ◌+◌, Bool, true, false, cond, not, ◌&&◌, ◌||◌, List, [], ◌∷◌, Option, None, Some}
use Rattle.std.proofs.Common.{refl, sym, ap, ◌∙◌}
use Rattle.std.specs.Option.{option_map, option_map_or}
use Rattle.std.proofs.lemmas.Bool.{true≢false}
use Rattle.autocoder_statements.specs.Description.{describe}
use Rattle.autocoder_statements.specs.Statement.{is_end, well_formed}
use Rattle.autocoder_statements.specs.declared.address.Address.{Address}
use Rattle.autocoder_statements.specs.declared.address.Base.{Base}
use Rattle.autocoder_statements.specs.declared.address.Base.TheVariants as bases
use Rattle.autocoder_statements.specs.declared.description.Addressing.{Addressing}
use Rattle.autocoder_statements.specs.declared.description.Addressing.TheVariants as addressing
use Rattle.autocoder_statements.specs.declared.label.Label.{Label}
use Rattle.autocoder_statements.specs.declared.language.Language.{Language}
use Rattle.autocoder_statements.specs.declared.language.Language.TheVariants.{Plain, Ibm}
use Rattle.autocoder_statements.specs.declared.literal.Literal.TheVariants as literals
use Rattle.autocoder_statements.specs.declared.operands.Operand.TheVariants as operands
use Rattle.autocoder_statements.specs.declared.operands.OperandField.{OperandField}
use Rattle.autocoder_statements.specs.declared.operands.OperandField.TheVariants as fields
use Rattle.autocoder_statements.specs.declared.statement.Line.{Line}
use Rattle.autocoder_statements.specs.declared.statement.Statement.{Statement}
use Rattle.autocoder_symbols.specs.Chains.{no_chains, link_to, link_in_base, link_in_operand, link_in, is_declared_here}
use Rattle.autocoder_symbols.specs.Chains.{with_link, with_labelled, with_line, links_from, followed, chains_of}
use Rattle.autocoder_symbols.specs.Chains.{chains_in}
use Rattle.autocoder_symbols.specs.Known.{Declared, declared_at, known_alone, is_known_at_end}
use Rattle.autocoder_symbols.specs.Symbols.{Sites, up_to_end, sites_of, is_label_before}
use Rattle.autocoder_symbols.specs.declared.fault.AsmKind.{AsmKind}
use Rattle.autocoder_symbols.specs.declared.fault.AsmKind.TheVariants as kinds
use Rattle.autocoder_symbols.specs.declared.symbols.Declaration.{Declaration}
use Rattle.autocoder_diagnostics.specs.FirstFault.{place_beyond, first_place, has_fault, scanned, lowest, or_beyond}
use Rattle.autocoder_diagnostics.specs.FirstFault.{first_of}
use Rattle.autocoder_diagnostics.specs.FirstFault.{first_fault_from, first_fault, undefined, undefined_in, is_unequal}
use Rattle.autocoder_diagnostics.specs.declared.first_fault.LineContext.{LineContext}
use Rattle.autocoder_diagnostics.proofs.LowestLemmas.{clean_line}

-- what lines with these sites declare without chains, in the plain language and in the wider one
abbrev plainly : Sites → Declared
plainly sites = record { language = Plain; sites = sites; chains = no_chains }

abbrev widely : Sites → Declared
widely sites = record { language = Ibm; sites = sites; chains = no_chains }

-- what EQU may name in the plain language has a value
valued_base : (sites : Sites) (number : ℕ) (address : Address) (base : Base)
    → is_unequal (plainly sites) number
    (fields.Operand (operands.Address (record address { base = base }))) ≡ false
    → link_in_base sites [] number address base ≡ None
valued_base sites number address (bases.Number place) e = refl
valued_base sites number address (bases.Symbol symbol) e = by (is_label_before number (sites symbol)) e
  where
    by : (b : Bool) → not b ≡ false → cond (b && true) None (Some (link_to number address symbol)) ≡ None
    by true e = refl
    by false e = absurd (true≢false e)
valued_base sites number address bases.Here e = refl
valued_base sites number address (bases.Register register) e = refl
valued_base sites number address bases.NextHundred e = refl

valued_operand : (sites : Sites) (number : ℕ) (field : OperandField) → is_unequal (plainly sites) number field ≡ false
    → link_in_operand sites [] number field ≡ None
valued_operand sites number fields.Absent e = refl
valued_operand sites number fields.Malformed e = refl
valued_operand sites number (fields.Operand (operands.Address address)) e =
    valued_base sites number address address.base e
valued_operand sites number (fields.Operand (operands.Literal literal)) e = refl
valued_operand sites number (fields.Operand (operands.Unit unit)) e = refl

valued : (sites : Sites) (number : ℕ) (asked : Addressing) → undefined_in (plainly sites) number asked ≡ false
    → link_in sites [] number asked ≡ None
valued sites number addressing.Nothing e = refl
valued sites number (addressing.Addresses of) e = refl
valued sites number (addressing.EarlierValue of) e = refl
valued sites number (addressing.Equal of) e = valued_operand sites number of.a e
valued sites number (addressing.Value of) e = refl
valued sites number (addressing.Entry of) e = refl

-- so a statement is no link
no_link : (sites : Sites) (number : ℕ) (label : Option Label) (asked : Addressing)
    → undefined_in (plainly sites) number asked ≡ false
    → with_labelled sites number no_chains label asked ≡ no_chains
no_link sites number None asked e = refl
no_link sites number (Some label) asked e = by (is_declared_here number (sites label))
  where
    linked : with_link no_chains label (link_in sites [] number asked) ≡ no_chains
    linked = ap (with_link no_chains label) (valued sites number asked e)

    by : (b : Bool) → cond b (with_link no_chains label (link_in sites [] number asked)) no_chains ≡ no_chains
    by true = linked
    by false = refl

no_link_on_line : (sites : Sites) (at : LineContext) (line : Line) → at.is_ended ≡ false
    → has_fault (plainly sites) at line kinds.Undefined ≡ false → with_line sites at.number no_chains line ≡ no_chains
no_link_on_line sites at line unended clean =
    by line.statement
    (sym (ap (λ ended. not ended
    && option_map_or (λ (of : Statement). undefined (plainly sites) at.number of.body) line.statement false) unended)
    ∙ clean)
  where
    by : (said : Option Statement)
        → option_map_or (λ (of : Statement). undefined (plainly sites) at.number of.body) said false ≡ false
        → option_map_or
        (λ (of : Statement).
        with_labelled sites at.number no_chains (well_formed of.label) (describe of.body).addressing) said no_chains
        ≡ no_chains
    by None e = refl
    by (Some of) e = no_link sites at.number (well_formed of.label) (describe of.body).addressing e

-- of lines without a fault the first has none, nor have those after it
record IsCleanFirst (declared : Declared) (at : LineContext) (line : Line) (lines : List Line) : Type 0 where
  here : lowest declared at line ≡ None
  beyond : first_fault_from declared (place_beyond at line) lines ≡ None

clean_first : (declared : Declared) (at : LineContext) (line : Line) (lines : List Line)
    → first_fault_from declared at (line ∷ lines) ≡ None → IsCleanFirst declared at line lines
clean_first declared at line lines none = by (lowest declared at line) refl none
  where
    by : (kind : Option AsmKind) → lowest declared at line ≡ kind
        → or_beyond at.number kind (first_fault_from declared (place_beyond at line) lines) ≡ None
        → IsCleanFirst declared at line lines
    by None e beyond = record { here = e; beyond = beyond }
    by (Some kind) e beyond = cc

-- lines without a fault have no links
no_links : (sites : Sites) (at : LineContext) (lines : List Line) → at.is_ended ≡ false
    → first_fault_from (plainly sites) at lines ≡ None
    → links_from sites at.number no_chains (up_to_end lines) ≡ no_chains
no_links sites at [] unended none = refl
no_links sites at (line ∷ lines) unended none = by (is_end line) refl (no_links sites (place_beyond at line) lines)
  where
    first : IsCleanFirst (plainly sites) at line lines
    first = clean_first (plainly sites) at line lines none

    here : with_line sites at.number no_chains line ≡ no_chains
    here =
        no_link_on_line sites at line unended
        (clean_line (plainly sites) at line None (sym first.here) kinds.Undefined)

    by : (b : Bool) → is_end line ≡ b
        → (at.is_ended || is_end line ≡ false
        → first_fault_from (plainly sites) (place_beyond at line) lines ≡ None
        → links_from sites (at.number + 1) no_chains (up_to_end lines) ≡ no_chains)
        → links_from sites at.number no_chains (cond b (line ∷ []) (line ∷ up_to_end lines)) ≡ no_chains
    by true e rest = here
    by false e rest =
        ap (λ links. links_from sites (at.number + 1) links (up_to_end lines)) here
        ∙ rest (rw (unended, e) refl) first.beyond

-- so the chains of lines without a fault are those in their language
pub chains_alike : (language : Language) (lines : List Line) → first_fault language lines ≡ None
    → chains_in language (sites_of lines) lines ≡ chains_of (sites_of lines) lines
chains_alike Plain lines none = sym (ap followed (no_links (sites_of lines) first_place lines refl none))
chains_alike Ibm lines none = refl

-- and what they declare is the same but for the language
no_chains_declared : (lines : List Line) → first_fault Plain lines ≡ None
    → declared_at Ibm lines ≡ widely (sites_of lines)
no_chains_declared lines none =
    ap (λ chains. record { language = Ibm; sites = sites_of lines; chains = followed chains })
    (no_links (sites_of lines) first_place lines refl none)

-- what EQU may name in the plain language it may name in the wider one
equal_to : (number : ℕ) (declared : Option Declaration) → not (is_label_before number declared) ≡ false
    → not (is_known_at_end (option_map known_alone declared)) ≡ false
equal_to number None e = absurd (true≢false e)
equal_to number (Some declaration) e = by declaration.area
  where
    by : (area : Option ℕ) → not (is_known_at_end (Some (known_alone (record declaration { area = area })))) ≡ false
    by None = refl
    by (Some places) = refl

widely_equal_base : (sites : Sites) (number : ℕ) (address : Address) (base : Base)
    → is_unequal (plainly sites) number (fields.Operand (operands.Address (record address { base = base }))) ≡ false
    → is_unequal (widely sites) number (fields.Operand (operands.Address (record address { base = base }))) ≡ false
widely_equal_base sites number address (bases.Number place) e = refl
widely_equal_base sites number address (bases.Symbol symbol) e = equal_to number (sites symbol) e
widely_equal_base sites number address bases.Here e = refl
widely_equal_base sites number address (bases.Register register) e = refl
widely_equal_base sites number address bases.NextHundred e = refl

widely_equal : (sites : Sites) (number : ℕ) (field : OperandField) → is_unequal (plainly sites) number field ≡ false
    → is_unequal (widely sites) number field ≡ false
widely_equal sites number fields.Absent e = refl
widely_equal sites number fields.Malformed e = refl
widely_equal sites number (fields.Operand (operands.Address address)) e =
    widely_equal_base sites number address address.base e
widely_equal sites number (fields.Operand (operands.Literal (literals.Constant constant))) e = refl
widely_equal sites number (fields.Operand (operands.Literal (literals.Address literal))) e =
    widely_equal_base sites number literal.address literal.address.base e
widely_equal sites number (fields.Operand (operands.Literal (literals.Area area))) e =
    equal_to number (sites area.label) e
widely_equal sites number (fields.Operand (operands.Unit unit)) e = refl

widely_defined : (sites : Sites) (number : ℕ) (asked : Addressing) → undefined_in (plainly sites) number asked ≡ false
    → undefined_in (widely sites) number asked ≡ false
widely_defined sites number addressing.Nothing e = e
widely_defined sites number (addressing.Addresses of) e = e
widely_defined sites number (addressing.EarlierValue of) e = e
widely_defined sites number (addressing.Equal of) e = widely_equal sites number of.a e
widely_defined sites number (addressing.Value of) e = e
widely_defined sites number (addressing.Entry of) e = e

-- a line without a fault has none of a kind in the wider language
widely_clean : (sites : Sites) (at : LineContext) (line : Line) (kind : AsmKind)
    → has_fault (plainly sites) at line kind ≡ false → has_fault (widely sites) at line kind ≡ false
widely_clean sites at line kinds.Memory e = e
widely_clean sites at line kinds.LongLine e = e
widely_clean sites at line kinds.Graphic e = e
widely_clean sites at line kinds.Label e = e
widely_clean sites at line kinds.DoubleLabel e = e
widely_clean sites at line kinds.Operation e = e
widely_clean sites at line kinds.Undefined e = by at.is_ended line.statement e
  where
    by : (ended : Bool) (said : Option Statement)
        → (not ended && option_map_or (λ (of : Statement). undefined (plainly sites) at.number of.body) said false)
        ≡ false
        → (not ended && option_map_or (λ (of : Statement). undefined (widely sites) at.number of.body) said false)
        ≡ false
    by true said e = refl
    by false None e = refl
    by false (Some of) e = widely_defined sites at.number (describe of.body).addressing e
widely_clean sites at line kinds.Operand e = e
widely_clean sites at line kinds.OutOfCore e = e
widely_clean sites at line kinds.NoEnd e = e
widely_clean sites at line kinds.AfterEnd e = e

none_of : (test : AsmKind → Bool) (kinds : List AsmKind) → ((kind : AsmKind) → test kind ≡ false)
    → first_of test kinds ≡ None
none_of test [] never = refl
none_of test (kind ∷ kinds) never = rw (never kind) (none_of test kinds never)

widely_lowest : (sites : Sites) (at : LineContext) (line : Line) → lowest (plainly sites) at line ≡ None
    → lowest (widely sites) at line ≡ None
widely_lowest sites at line none =
    none_of (has_fault (widely sites) at line) scanned
    (λ kind. widely_clean sites at line kind (clean_line (plainly sites) at line None (sym none) kind))

widely_faultless : (sites : Sites) (at : LineContext) (lines : List Line)
    → first_fault_from (plainly sites) at lines ≡ None → first_fault_from (widely sites) at lines ≡ None
widely_faultless sites at [] none = none
widely_faultless sites at (line ∷ lines) none =
    let first = clean_first (plainly sites) at line lines none in
    ap (λ kind. or_beyond at.number kind (first_fault_from (widely sites) (place_beyond at line) lines))
    (widely_lowest sites at line first.here)
    ∙ widely_faultless sites (place_beyond at line) lines first.beyond

-- lines without a fault in the plain language have none in the wider one
pub clean_in_wider : (lines : List Line) → first_fault Plain lines ≡ None → first_fault Ibm lines ≡ None
clean_in_wider lines none =
    ap (λ (declared : Declared). first_fault_from declared first_place lines) (no_chains_declared lines none)
    ∙ widely_faultless (sites_of lines) first_place lines none
