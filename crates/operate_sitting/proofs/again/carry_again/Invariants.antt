-- What was carried out and what is left to be carried out are these entries.
use Rattle.std.proofs.Common.{◌≡◌, ◌++◌, drop, true}
use Rattle.room_alone.specs.Journal.{pairs_of}
use Rattle.operate_sitting.proofs.again.carry_again.Given as goal

abbrev pub invariant-loop-entry : goal.invariant-loop-entry
invariant-loop-entry g l = record {
  commands : pairs_of l.room.journal ++ pairs_of (drop l.entry-index l.entries)
      ≡ pairs_of l.fn.room.journal ++ pairs_of l.fn.entries;
  size : l.room.size ≡ l.fn.room.size;
  sound : g.I.Interrupter.is_sound l.interrupter l.console ≡ true;
}
