-- What is put, with what is left put after it, is all of it.
use Rattle.std.proofs.Common.{◌≡◌, ◌++◌, map, drop}
use Rattle.autocoder_placing.specs.Cells.{plain}
use Rattle.autocoder_placing.proofs.cells.put_chars.Given as goal

abbrev pub invariant-loop-char : goal.invariant-loop-char
invariant-loop-char l = l.out.items ++ map plain (drop l.char-index l.chars) ≡ l.initial.out.items ++ map plain l.chars
