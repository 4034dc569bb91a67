-- The chains of lines are followed to their ends, and say of their labels what the EQUs say.
use Rattle.std.proofs.Common.{◌≡◌, ℕ, zero, suc, ◌+◌, ◌^◌, ◌<◌, ◌≤◌, Bool, true, false, cond, List, [], ◌∷◌, ◌++◌, map}
use Rattle.std.proofs.Common.{length, get_or, ℤ, ◌+ℤ◌, Option, None, Some, refl, sym, ap, ◌∙◌, arith, length-append}
use Rattle.std.specs.Prelude.{position, slice_get}
use Rattle.std.specs.List.{list_any, AllZip}
use Rattle.std.specs.Option.{option_map, option_and_then, option_map_or}
use Rattle.std.proofs.Math.IntN.{+ℤ_assoc, +ℤ_comm}
use Rattle.std.proofs.lemmas.List.{length-map}
use Rattle.std.proofs.lemmas.List.Quantifiers.{position-Some}
use Rattle.std.proofs.lemmas.Option.{slice_get-get_or}
use Rattle.autocoder_statements.specs.Description.{describe}
use Rattle.autocoder_statements.specs.Statement.{is_end, well_formed}
use Rattle.autocoder_statements.specs.declared.description.Addressing.{Addressing}
use Rattle.autocoder_statements.specs.declared.label.Label.{Label}
use Rattle.autocoder_statements.specs.declared.language.Language.{Language}
use Rattle.autocoder_statements.specs.declared.language.Language.TheVariants.{Plain, Ibm}
use Rattle.autocoder_statements.specs.declared.statement.Line.{Line}
use Rattle.autocoder_statements.specs.declared.statement.Statement.{Statement}
use Rattle.autocoder_symbols.specs.Chains.{Chains, no_chains, link_in, is_declared_here, with_link, with_labelled}
use Rattle.autocoder_symbols.specs.Chains.{with_line}
use Rattle.autocoder_symbols.specs.Chains.{links_from, joined, chained, onward, twice_over, doublings, followed}
use Rattle.autocoder_symbols.specs.Chains.{chains_in}
use Rattle.autocoder_symbols.specs.Chains.{unfollowed, joined_in, one_by_one, Meaning, meant, IsMeant, AreFollowed}
use Rattle.autocoder_symbols.specs.Symbols.{Sites, same_label, up_to_end}
use Rattle.autocoder_symbols.specs.declared.chains.Link.{Link}
use Rattle.autocoder_symbols.proofs.ChainLinksLemmas.{or_assoc, max_assoc, found_in_map, AreFar, are_far}
use Rattle.autocoder_symbols.proofs.ChainLinksLemmas.{followed_by_doubling}
use Rattle.autocoder_symbols.proofs.SymbolsLemmas.{same_labels}

-- two links make of a meaning what the first makes of what the second makes of it
meant_chained : (this that : Link) (symbol : Meaning) → meant (chained this that) symbol ≡ meant this (meant that symbol)
meant_chained this that symbol =
    λ i. record {
      value = values i;
      index = or_assoc this.index that.index symbol.index i;
      line = max_assoc this.last that.last symbol.line i;
    }
  where
    values : symbol.value +ℤ (this.added +ℤ that.added) ≡ symbol.value +ℤ that.added +ℤ this.added
    values =
        ap (λ (added : ℤ). symbol.value +ℤ added) (+ℤ_comm this.added that.added)
        ∙ sym (+ℤ_assoc symbol.value that.added this.added)

-- if links say what labels mean, each says it of the label at its own place
meant_at : (meaning : Label → Meaning) (labels : List Label) (links : List Link) → AllZip (IsMeant meaning) labels links
    → (k : ℕ) (label : Label) (link : Link) → slice_get labels k ≡ Some label → slice_get links k ≡ Some link
    → IsMeant meaning label link
meant_at meaning [] links said k label link here there = cc
meant_at meaning (first ∷ labels) [] said k label link here there = absurd said
meant_at meaning (first ∷ labels) (second ∷ links) said zero label link here there =
    let same : first ≡ label = cc in
    let alike : second ≡ link = cc in
    sym (ap meaning same) ∙ said.0 ∙ ap (λ (of : Link). meant of (meaning of.to)) alike
meant_at meaning (first ∷ labels) (second ∷ links) said (suc k) label link here there =
    meant_at meaning labels links said.1 k label link here there

-- so the link of a symbol's label says what the symbol means
meant_of : (meaning : Label → Meaning) (labels : List Label) (links : List Link) → AllZip (IsMeant meaning) labels links
    → (symbol : Label) (link : Link)
    → option_and_then (slice_get links) (position (same_label symbol) labels) ≡ Some link → IsMeant meaning symbol link
meant_of meaning labels links said symbol link there = by (position (same_label symbol) labels) refl there
  where
    by : (found : Option ℕ) → position (same_label symbol) labels ≡ found
        → option_and_then (slice_get links) found ≡ Some link → IsMeant meaning symbol link
    by None is there = cc
    by (Some k) is there =
        let at : (k < length labels) × (same_label symbol (get_or labels k symbol) ≡ true)
        × ((j : ℕ) → j < k → same_label symbol (get_or labels j symbol) ≡ false) =
        position-Some (same_label symbol) labels k symbol is in
        let same : symbol ≡ get_or labels k symbol = same_labels symbol (get_or labels k symbol) at.1 in
        let here : slice_get labels k ≡ Some symbol = slice_get-get_or labels k symbol at.0 ∙ ap Some (sym same) in
        meant_at meaning labels links said k symbol link here there

-- a joined link goes on at the link of its symbol's label
abbrev IsJoined : List Label → Link → Type 0
IsJoined labels this = this.next ≡ position (same_label this.to) labels

joined_found : (labels : List Label) (links : List Link) (next : Option ℕ) (that : Link)
    → option_and_then (slice_get (map (joined labels) links)) next ≡ Some that → IsJoined labels that
joined_found labels links next that is =
    by (option_and_then (slice_get links) next) (sym (found_in_map (joined labels) links next) ∙ is)
  where
    by : (found : Option Link) → option_map (joined labels) found ≡ Some that → IsJoined labels that
    by None there = cc
    by (Some link) there =
        let same : joined labels link ≡ that = cc in
        sym (ap (λ (of : Link). of.next) same) ∙ ap (λ (of : Link). position (same_label of.to) labels) same

-- a link that is joined, and says what its label means
record IsSaid (meaning : Label → Meaning) (labels : List Label) (label : Label) (this : Link) : Type 0 where
  joined : IsJoined labels this
  meant : IsMeant meaning label this

-- it stays so with the link at which it goes on, if that one is joined and says what its own label means
said_onward : (meaning : Label → Meaning) (labels : List Label) (links : List Link)
    → AllZip (IsMeant meaning) labels (map (joined labels) links) → (label : Label) (this : Link)
    → IsSaid meaning labels label this → IsSaid meaning labels label (onward (map (joined labels) links) this)
said_onward meaning labels links said label this so =
    by (option_and_then (slice_get (map (joined labels) links)) this.next) refl
  where
    by : (found : Option Link) → option_and_then (slice_get (map (joined labels) links)) this.next ≡ found
        → IsSaid meaning labels label (option_map_or (chained this) found this)
    by None none = so
    by (Some that) there =
        let of_symbol : IsMeant meaning this.to that =
        meant_of meaning labels (map (joined labels) links) said this.to that
        (sym (ap (option_and_then (slice_get (map (joined labels) links))) so.joined) ∙ there) in
        record {
          joined = joined_found labels links this.next that there;
          meant = so.meant ∙ ap (meant this) of_symbol ∙ sym (meant_chained this that (meaning that.to));
        }

said_far : (n : ℕ) (meaning : Label → Meaning) (labels : List Label) (links : List Link)
    → AllZip (IsMeant meaning) labels (map (joined labels) links) → (label : Label) (this : Link)
    → IsSaid meaning labels label this → IsSaid meaning labels label (one_by_one n (map (joined labels) links) this)
said_far zero meaning labels links said label this so = so
said_far (suc n) meaning labels links said label this so =
    said_onward meaning labels links said label (one_by_one n (map (joined labels) links) this)
    (said_far n meaning labels links said label this so)

-- joined links say the same of their labels
meant_joined : (meaning : Label → Meaning) (all labels : List Label) (links : List Link)
    → AllZip (IsMeant meaning) labels links → AllZip (IsMeant meaning) labels (map (joined all) links)
meant_joined meaning all [] [] said = tt
meant_joined meaning all [] (link ∷ links) said = absurd said
meant_joined meaning all (label ∷ labels) [] said = absurd said
meant_joined meaning all (label ∷ labels) (link ∷ links) said =
    (said.0, meant_joined meaning all labels links said.1)

-- and so do links with the next n of their chains
meant_far : (n : ℕ) (meaning : Label → Meaning) (all : Chains) → AllZip (IsMeant meaning) all.labels (joined_in all)
    → (labels : List Label) (links : List Link) → AllZip (IsMeant meaning) labels links
    → AllZip (IsMeant meaning) labels (map (one_by_one n (joined_in all)) (map (joined all.labels) links))
meant_far n meaning all each [] [] said = tt
meant_far n meaning all each [] (link ∷ links) said = absurd said
meant_far n meaning all each (label ∷ labels) [] said = absurd said
meant_far n meaning all each (label ∷ labels) (link ∷ links) said =
    let first : IsSaid meaning all.labels label (joined all.labels link) =
    record { joined = refl; meant = said.0 } in (
      (said_far n meaning all.labels all.links each label (joined all.labels link) first).meant,
      meant_far n meaning all each labels links said.1,
    )

meant_by_doubling : (rounds : ℕ) (meaning : Label → Meaning) (all : Chains)
    → AllZip (IsMeant meaning) all.labels all.links
    → AllZip (IsMeant meaning) all.labels (twice_over rounds (joined_in all))
meant_by_doubling rounds meaning all said = by (are_far rounds (joined_in all))
  where
    by : AreFar rounds (joined_in all) → AllZip (IsMeant meaning) all.labels (twice_over rounds (joined_in all))
    by so =
        rw so.far
        (meant_far so.count meaning all (meant_joined meaning all.labels all.labels all.links said) all.labels all.links said)

-- chains with fewer links than a source can have lines are followed to their ends
all_followed : (all : Chains) → length all.links < 2 ^ doublings → AreFollowed all (followed all)
all_followed all few =
    record {
      labels = refl;
      links =
          followed_by_doubling doublings (joined_in all) (omega (arith, few, length-map all.links (joined all.labels)));
      meant = λ meaning said. meant_by_doubling doublings meaning all said;
    }

-- a line adds at most one link
one_link_more : (this : Chains) (label : Label) (link : Option Link)
    → length (with_link this label link).links ≤ suc (length this.links)
one_link_more this label None = omega arith
one_link_more this label (Some link) = by (list_any (same_label label) this.labels)
  where
    by : (b : Bool)
        → length (cond b this (record { labels = this.labels ++ label ∷ []; links = this.links ++ link ∷ [] })).links
        ≤ suc (length this.links)
    by true = omega arith
    by false = omega (arith, length-append this.links (link ∷ []))

one_labelled_more : (sites : Sites) (number : ℕ) (this : Chains) (label : Option Label) (asked : Addressing)
    → length (with_labelled sites number this label asked).links ≤ suc (length this.links)
one_labelled_more sites number this None asked = omega arith
one_labelled_more sites number this (Some label) asked = by (is_declared_here number (sites label))
  where
    by : (b : Bool)
        → length (cond b (with_link this label (link_in sites this.labels number asked)) this).links
        ≤ suc (length this.links)
    by true = one_link_more this label (link_in sites this.labels number asked)
    by false = omega arith

one_line_more : (sites : Sites) (number : ℕ) (this : Chains) (line : Line)
    → length (with_line sites number this line).links ≤ suc (length this.links)
one_line_more sites number this line = by line.statement
  where
    by : (said : Option Statement)
        → length (option_map_or
        (λ (of : Statement). with_labelled sites number this (well_formed of.label) (describe of.body).addressing)
        said this).links
        ≤ suc (length this.links)
    by None = omega arith
    by (Some of) = one_labelled_more sites number this (well_formed of.label) (describe of.body).addressing

-- so there are no more links than lines
few_links : (sites : Sites) (number : ℕ) (this : Chains) (lines : List Line)
    → length (links_from sites number this lines).links ≤ length this.links + length lines
few_links sites number this [] = omega arith
few_links sites number this (line ∷ lines) =
    omega (arith, one_line_more sites number this line, few_links sites (number + 1) (with_line sites number this line) lines)

few_lines : (lines : List Line) → length (up_to_end lines) ≤ length lines
few_lines [] = omega arith
few_lines (line ∷ lines) = by (is_end line) (few_lines lines)
  where
    by : (b : Bool) → length (up_to_end lines) ≤ length lines
        → length (cond b (line ∷ []) (line ∷ up_to_end lines)) ≤ length (line ∷ lines)
    by true few = omega arith
    by false few = omega (arith, few)

-- the chains of lines are those that their EQUs make, followed to their ends
pub chains_followed : (language : Language) (sites : Sites) (lines : List Line) (chains : Chains)
    → length lines < 2 ^ 32 → chains ≡ chains_in language sites lines
    → AreFollowed (unfollowed language sites lines) chains
chains_followed Plain sites lines chains few are =
    rw are (record { labels = refl; links = tt; meant = λ meaning said. said })
chains_followed Ibm sites lines chains few are =
    rw are
    (all_followed (links_from sites 1 no_chains (up_to_end lines))
    (omega (arith, few, few_lines lines, few_links sites 1 no_chains (up_to_end lines))))
