-- The bytes so far are characters, and those left are as they were.
use Rattle.std.proofs.Common.{◌≡◌, ◌++◌, take, drop}
use Rattle.machine_tapes.specs.Held.{characters_of}
use Rattle.machine_tapes.proofs.tap_writing.keep_characters.Given as goal

abbrev pub invariant-loop-i : goal.invariant-loop-i
invariant-loop-i l = l.bytes ≡ characters_of (take l.i l.initial.bytes) ++ drop l.i l.initial.bytes
