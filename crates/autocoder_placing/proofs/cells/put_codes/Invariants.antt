-- What is put, with what is left put after it, is all of it.
use Rattle.std.proofs.Common.{◌≡◌, ◌++◌, map, drop}
use Rattle.autocoder_placing.specs.Characters.{char_with}
use Rattle.autocoder_placing.specs.Cells.{plain}
use Rattle.autocoder_placing.proofs.cells.put_codes.Given as goal

abbrev pub invariant-loop-code : goal.invariant-loop-code
invariant-loop-code l =
    l.out.items ++ map plain (map char_with (drop l.code-index l.codes)) ≡ l.initial.out.items
    ++ map plain (map char_with l.codes)
