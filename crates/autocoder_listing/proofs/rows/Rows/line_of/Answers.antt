-- What is found in rows is the last line that shows the characters there.
use Rattle.autocoder_listing.proofs.RowLawLemmas.{last_line}
use Rattle.autocoder_listing.proofs.rows.Rows.line_of.Goals as goal

pub returns-clause-placed : goal.returns-clause-placed
returns-clause-placed c = λ lines same.
    last_line lines c.args.self.now c.args.at c.args.cells.now c.number_of.result same c.number_of.ensures
