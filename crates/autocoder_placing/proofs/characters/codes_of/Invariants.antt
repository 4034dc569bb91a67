-- The codes so far are those of the graphics so far.
use Rattle.std.proofs.Common.{◌≡◌, map, take, length}
use Rattle.autocoder_placing.specs.Characters.{char_of}
use Rattle.autocoder_placing.proofs.characters.codes_of.Given as goal

abbrev pub invariant-loop-i : goal.invariant-loop-i
invariant-loop-i l = record {
  codes : take l.i l.codes ≡ map char_of (take l.i l.graphics);
  room : length l.codes ≡ 50;
}
