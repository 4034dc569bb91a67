-- The lines so far are those that are asked for of the entries so far.
use Rattle.std.proofs.Common.{[], true, take}
use Rattle.bytes_text.specs.Written.{Adds}
use Rattle.room_files.specs.Listing.{listing_text}
use Rattle.room_files.proofs.listing.list_journal.Given as goal

abbrev pub invariant-loop-i : goal.invariant-loop-i
invariant-loop-i l = Adds (record { items = []; is_whole = true }) l.text (listing_text l.view (take l.i l.journal))
