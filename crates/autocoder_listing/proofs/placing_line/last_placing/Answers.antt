-- What is found in the rows of lines is the last line that shows the characters there.
use Rattle.std.proofs.Common.{refl}
use Rattle.autocoder_listing.specs.Rows.{rows_of}
use Rattle.autocoder_listing.proofs.RowLawLemmas.{last_line}
use Rattle.autocoder_listing.proofs.placing_line.last_placing.Goals as goal

pub returns-clause-last : goal.returns-clause-last
returns-clause-last c =
    last_line c.args.lines.now (rows_of c.args.lines.now) c.args.at c.args.cells.now c.in_ok-number.number refl
    c.in_ok-number.ensures.ok
