-- The page is empty at first, and what is left of the listing is written at last.
use Rattle.std.proofs.Common.{◌++◌}
use Rattle.program_convert.specs.ReelListing.{counts_line, lines_from, listing_text}
use Rattle.program_convert.proofs.PutsLemmas.{wrote_page, wrote_part}
use Rattle.program_convert.proofs.listing.write_listing.Goals as goal

pub returns-in-Ok : goal.returns-in-Ok
unfolding listing_text
returns-in-Ok g c =
    wrote_page _ _ _ _ c.args.page.items
    (lines_from c.args.parity 1 c.args.records.now ++ counts_line c.args.records.now) c.put_listing.new.page.items
    c.as_slice.result.now _ c.requires.none c.as_slice.ensures.value c.in-Ok.ensures.puts c.write_page.ensures

pub returns : goal.returns
unfolding listing_text
returns g c =
    wrote_part _ _ _ c.args.page.items
    (lines_from c.args.parity 1 c.args.records.now ++ counts_line c.args.records.now) c.requires.none
    c.in-Err.ensures.puts
