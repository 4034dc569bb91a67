-- The segments so far, with those of the cells that are left, are all of them.
use Rattle.std.proofs.Common.{◌≡◌, ◌+◌, ◌++◌, length}
use Rattle.autocoder_deck.specs.LoadedCore.{segments_from}
use Rattle.autocoder_deck.proofs.loaded_core.segments_of.Given as goal

abbrev pub invariant-loop-rest : goal.invariant-loop-rest
invariant-loop-rest l = record {
  segments : l.segments.items ++ segments_from l.covered l.at l.rest ≡ segments_from 0 0 l.cells;
  places : l.at + length l.rest ≡ length l.cells;
}

abbrev pub decreases-loop-rest : goal.decreases-loop-rest
decreases-loop-rest l = length l.rest
