-- The characters so far are put, and their bytes go on.
use Rattle.std.proofs.Common.{◌≡◌, ◌==◌, length, take, map}
use Rattle.std.specs.Prelude.{if◌then◌else◌}
use Rattle.std.specs.List.{prefix_len}
use Rattle.machine_tapes.specs.Held.{goes_on, characters_of}
use Rattle.machine_tapes.proofs.blocks.put_chars.Given as goal

abbrev pub invariant-loop-i : goal.invariant-loop-i
invariant-loop-i l = record {
  size : length l.places ≡ length l.characters;
  value : characters_of (take l.i l.places) ≡ map (λ char. if char == 0 then l.blank else char) (take l.i l.characters);
  goes : prefix_len goes_on (take l.i l.places) ≡ l.i;
}
