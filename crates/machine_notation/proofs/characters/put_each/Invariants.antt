-- The text is that of the characters so far, and spells them.
use Rattle.std.proofs.Common.{◌≡◌, ◌++◌, take, map, Some}
use Rattle.machine_notation.specs.Characters.{chars_of, graphics_of}
use Rattle.machine_notation.proofs.characters.put_each.Given as goal

abbrev pub invariant-loop-char : goal.invariant-loop-char
invariant-loop-char l = record {
  text : l.text.items ≡ l.initial.text.items ++ graphics_of (take l.char-index l.chars);
  again : chars_of (graphics_of (take l.char-index l.chars)) ≡ map Some (take l.char-index l.chars);
}
