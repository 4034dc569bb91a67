-- Two parts are put as one.
use Rattle.program_convert.specs.ReelListing.{counts_line, lines_from}
use Rattle.program_convert.proofs.PutsLemmas.{part_failed, puts_then}
use Rattle.program_convert.proofs.listing.put_listing.Goals as goal

pub returns-in-Err-clause-puts : goal.returns-in-Err-clause-puts
returns-in-Err-clause-puts g c =
    part_failed _ _ _ c.args.page.now.items (lines_from c.args.parity 1 c.args.records.now) (counts_line
    c.args.records.now) c.in-Err.ensures.puts

pub returns-in-Ok-clause-puts : goal.returns-in-Ok-clause-puts
returns-in-Ok-clause-puts g c =
    puts_then _ _ _ _ c.args.page.now.items (lines_from c.args.parity 1 c.args.records.now) _ (counts_line
    c.args.records.now) _ _ c.in-Ok.ensures.puts c.put_counts.ensures.puts
