-- What is listed, with what the lines that are left stand for, is the whole.
use Rattle.std.proofs.Common.{◌≡◌, ◌+◌, ◌++◌, length, drop}
use Rattle.autocoder_statements.specs.SourceLine.{lines_of}
use Rattle.autocoder_placing.specs.View.{places_of}
use Rattle.autocoder_listing.specs.Listing.{listing_from}
use Rattle.autocoder_listing.proofs.source_listing.list_lines.Given as goal

abbrev pub invariant-loop-i : goal.invariant-loop-i
invariant-loop-i l = record {
  listed : l.listing.items
      ++ listing_from (places_of l.all) (places_of l.so_far) (l.i + 1) (drop l.i l.lines)
      (lines_of l.sources)
      ≡ l.initial.listing.items
      ++ listing_from (places_of l.all) (places_of l.initial.so_far) 1 l.lines (lines_of l.source);
  left : length (drop l.i l.lines) ≡ length (lines_of l.sources);
}
