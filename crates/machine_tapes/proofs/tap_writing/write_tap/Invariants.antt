-- The text so far and that of the records left make the whole.
use Rattle.std.proofs.Common.{◌≡◌, ◌++◌, length}
use Rattle.machine_tapes.specs.TapText.{tap_text}
use Rattle.machine_tapes.proofs.tap_writing.write_tap.Given as goal

abbrev pub invariant-loop-record : goal.invariant-loop-record
invariant-loop-record l = l.text.items ++ tap_text l.rest ≡ tap_text l.records

abbrev pub decreases-loop-record : goal.decreases-loop-record
decreases-loop-record l = length l.rest
