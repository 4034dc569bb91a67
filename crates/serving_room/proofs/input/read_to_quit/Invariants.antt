-- No read has failed, and no line so far is QUIT as far as it is known.
use Rattle.std.proofs.Common.{◌≡◌, false}
use Rattle.serving_room.proofs.InputLemmas.{HasRead}
use Rattle.serving_room.proofs.input.read_to_quit.Given as goal

abbrev pub invariant-loop : goal.invariant-loop
invariant-loop g l = record {
  good : g.S.Source.has_failed l.input ≡ false;
  read : HasRead l.matched (g.S.Source.left l.initial.input) (g.S.Source.left l.input);
}
