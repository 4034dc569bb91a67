-- What is answered is the first kind that the line is found to have.
use Rattle.autocoder_symbols.specs.View.{symbols_view}
use Rattle.autocoder_diagnostics.proofs.LowestLemmas.{clean_line, lowest_line}
use Rattle.autocoder_diagnostics.proofs.first_fault.lowest_kind.Goals as goal

pub returns-clause-clean : goal.returns-clause-clean
returns-clause-clean c =
    clean_line (symbols_view c.args.symbols.now) c.args.at c.args.line.now c.lowest_of-kind.result
    c.lowest_of-kind.ensures

pub returns-clause-lowest : goal.returns-clause-lowest
returns-clause-lowest c =
    lowest_line (symbols_view c.args.symbols.now) c.args.at c.args.line.now c.lowest_of-kind.result
    c.lowest_of-kind.ensures
