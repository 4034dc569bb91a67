-- What is written is the parts that are asked for.
use Rattle.std.proofs.Common.{List, ℕ, [], Option, ◌∙◌, ap}
use Rattle.autocoder_listing.specs.Writing.{text_for}
use Rattle.autocoder_listing.specs.declared.writing.ReadyListing.{ReadyListing}
use Rattle.program_convert.specs.Assemble.{with_part, with_part_if}
use Rattle.program_convert.specs.ReadyTables.{listing_in}
use Rattle.program_convert.proofs.TablesLemmas.{listing_is, parts_of_tables}
use Rattle.program_convert.proofs.assembling.ready_tables.Goals as goal

pub returns-in-Ok-clause-text : goal.returns-in-Ok-clause-text
returns-in-Ok-clause-text c =
    let asked = c.args.asked in
    let source = c.args.source.now in
    let listing = text_for source c.args.made.listing in
    let symbols = c.args.made.symbols.items in
    ap (λ (found : Option ReadyListing). with_part (listing_in source found) c.in-Ok.rest.items) c.listing_if.ensures
    ∙ ap (λ (first : List ℕ). with_part first c.in-Ok.rest.items)
    (listing_is asked.listing source c.args.made.listing)
    ∙ ap (λ (rest : List ℕ). with_part (with_part_if asked.listing [] listing) rest)
    (c.in-Ok.ensures
    ∙ ap (λ (table : List ℕ). with_part_if asked.references (with_part_if asked.symbols [] table) c.as_slice-2.result.now)
    c.as_slice.ensures.value
    ∙ ap (λ (table : List ℕ). with_part_if asked.references (with_part_if asked.symbols [] symbols) table)
    c.as_slice-2.ensures.value)
    ∙ parts_of_tables asked listing symbols c.args.made.references.items
