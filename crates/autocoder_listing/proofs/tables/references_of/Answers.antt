-- What is noted for each label is what the lines name.
use Rattle.std.proofs.Common.{ℕ, List, ◌++◌, ◌∙◌, ap}
use Rattle.std.specs.List.{flat_map}
use Rattle.autocoder_statements.specs.declared.label.Label.{Label}
use Rattle.bytes_text.specs.Written.{Written}
use Rattle.autocoder_listing.specs.CrossReference.{reference_line, uses_of}
use Rattle.autocoder_listing.specs.View.{lines_naming}
use Rattle.autocoder_listing.proofs.CrossReferenceLemmas.{same_uses}
use Rattle.autocoder_listing.proofs.tables.references_of.Goals as goal

pub returns-clause-ok : goal.returns-clause-ok
returns-clause-ok c =
    let made = c.in_ok-into_bytes.ensures in
    let noted = lines_naming c.in_ok-uses.uses in
    made.1
    ∙ (c.put_references.ensures made.0).1
    ∙ ap (λ (text : Written). text.items ++ flat_map (reference_line noted) c.args.symbols.now) c.new-text.ensures
    ∙ ap (λ (uses : Label → List ℕ). flat_map (reference_line uses) c.args.symbols.now)
    (same_uses noted (uses_of c.args.lines.now) c.in_ok-uses.ensures.ok)
