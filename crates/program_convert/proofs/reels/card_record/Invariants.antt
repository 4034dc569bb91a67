-- The codes so far are those on tape for the columns so far, and each is a character's.
use Rattle.std.proofs.Common.{◌≡◌, true, length, map, take}
use Rattle.std.specs.List.{list_all}
use Rattle.std.specs.Prelude.{nat_lt}
use Rattle.program_convert.specs.Parity.{taped}
use Rattle.program_convert.proofs.reels.card_record.Given as goal

abbrev pub invariant-loop-i : goal.invariant-loop-i
invariant-loop-i l = record {
  len : length l.codes ≡ 80;
  so_far : take l.i l.codes ≡ map (taped l.parity) (take l.i l.card.0);
  range : list_all (λ char. nat_lt char 64) l.codes ≡ true;
}
