-- The symbol wasn't there.
use Rattle.std.proofs.Common.{◌≡◌, None, arith}
use Rattle.std.proofs.lemmas.Grind.{common_steps}
use Rattle.indexmap.specs.IndexMap.{get}
use Rattle.autocoder_symbols.specs.Symbols.{same_label}
use Rattle.autocoder_symbols.proofs.SymbolsLemmas.{noted}
use Rattle.autocoder_symbols.proofs.symbols.note.Goals as goal

pub returns-in_ok-insert-clause-noted : goal.returns-in_ok-insert-clause-noted
returns-in_ok-insert-clause-noted c =
    let none : get same_label c.args.sites.now c.args.symbol ≡ None = grind (arith, common_steps) in
    noted c.args.sites.now c.insert.new.self c.args.symbol c.args.declaration none c.in_ok-insert.ensures.updates.0
