-- The rows and the symbols are those of the source's text.
use Rattle.std.proofs.Common.{◌≡◌, List, ℕ, subst}
use Rattle.autocoder_listing.specs.Rows.{rows_of}
use Rattle.autocoder_listing.specs.SymbolTable.{symbols_in}
use Rattle.autocoder_symbols.specs.Reading.{lines_in}
use Rattle.program_operate.proofs.opening.assembled.Goals as goal

pub of_source-requires-clause-rows : goal.of_source-requires-clause-rows
of_source-requires-clause-rows g c =
    subst (λ (text : List ℕ). c.in-Ok.made.rows ≡ rows_of (lines_in c.args.reading.language text))
    c.as_slice-lines.ensures.value c.in-Ok.ensures.rows

pub of_source-requires-clause-symbols : goal.of_source-requires-clause-symbols
of_source-requires-clause-symbols g c =
    subst (λ (text : List ℕ). c.in-Ok.made.symbols.items
    ≡ symbols_in (lines_in c.args.reading.language text)) c.as_slice-lines.ensures.value c.in-Ok.ensures.symbols
