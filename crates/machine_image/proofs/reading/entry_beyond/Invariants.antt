-- What is left has the entry of the whole.
use Rattle.std.proofs.Common.{◌≡◌, length}
use Rattle.machine_image.specs.Lent.{entry_read}
use Rattle.machine_image.specs.Reading.{parts_of, contents_in}
use Rattle.machine_image.proofs.reading.entry_beyond.Given as goal

abbrev pub invariant-loop-line : goal.invariant-loop-line
invariant-loop-line l =
    entry_read (contents_in l.version l.size (parts_of l.rest))
    ≡ entry_read (contents_in l.version l.size (parts_of l.text))

abbrev pub decreases-loop-line : goal.decreases-loop-line
decreases-loop-line l = length l.rest
