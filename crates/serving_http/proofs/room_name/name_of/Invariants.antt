-- The characters so far are picked.
use Rattle.std.proofs.Common.{◌≡◌, ◌++◌, drop, map, take}
use Rattle.serving_http.specs.Names.{character_of}
use Rattle.serving_http.proofs.room_name.name_of.Given as goal

abbrev pub invariant-loop-digit : goal.invariant-loop-digit
invariant-loop-digit l =
    l.digit-items ≡ map character_of (take l.digit-index l.fn.bytes) ++ drop l.digit-index l.fn.bytes
