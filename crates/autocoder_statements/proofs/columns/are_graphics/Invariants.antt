-- The bytes so far pass the test, or some doesn't.
use Rattle.std.proofs.Common.{◌≡◌, take}
use Rattle.std.specs.List.{list_all}
use Rattle.autocoder_statements.specs.SourceLine.{is_graphic}
use Rattle.autocoder_statements.proofs.columns.are_graphics.Given as goal

abbrev pub invariant-loop-byte : goal.invariant-loop-byte
invariant-loop-byte l = l.all ≡ list_all is_graphic (take l.byte-index l.text)
