-- What is found so far, or else in the rows that are left, is what is found in all.
use Rattle.std.proofs.Common.{◌≡◌, None, drop}
use Rattle.autocoder_listing.specs.Rows.{last_at}
use Rattle.autocoder_listing.proofs.rows.last_at.Given as goal

abbrev pub invariant-loop-row : goal.invariant-loop-row
invariant-loop-row l =
    last_at l.at l.characters l.found (drop l.row-index l.rows) ≡ last_at l.at l.characters None l.rows
