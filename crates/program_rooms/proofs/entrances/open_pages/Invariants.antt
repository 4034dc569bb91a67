-- The pages of the seats so far.
use Rattle.std.proofs.Common.{◌≡◌, length}
use Rattle.std.specs.Prelude.{option_copied}
use Rattle.program_rooms.specs.Pages.{ArePages}
use Rattle.program_rooms.proofs.entrances.open_pages.Given as goal

abbrev pub invariant-loop-places : goal.invariant-loop-places
invariant-loop-places g l = record {
  all : length l.pages.items ≡ l.places;
  pages : ArePages l.fn.first (option_copied l.fn.origin) 0 l.pages.items;
}
