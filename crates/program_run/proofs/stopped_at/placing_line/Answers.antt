-- The line is that of the source's text.
use Rattle.std.proofs.Common.{◌≡◌, List, ℕ, subst}
use Rattle.autocoder_listing.specs.Rows.{line_of, rows_of}
use Rattle.autocoder_symbols.specs.Reading.{lines_in}
use Rattle.program_run.proofs.stopped_at.placing_line.Goals as goal

pub returns-in-Ok : goal.returns-in-Ok
returns-in-Ok c =
    subst (λ (text : List ℕ). c.in-Ok.number
    ≡ line_of (rows_of (lines_in c.args.source.now.language text)) c.args.at c.args.cells.now)
    c.as_slice.ensures.value c.in-Ok.ensures.ok
