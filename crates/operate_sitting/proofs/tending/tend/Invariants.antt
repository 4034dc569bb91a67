-- The commands so far were carried out, and kept.
use Rattle.std.proofs.Common.{◌≡◌, false, take}
use Rattle.operate_sitting.specs.Notes.{Noted, hand_of}
use Rattle.operate_sitting.specs.Tending.{CarriedAll, planned}
use Rattle.operate_sitting.proofs.tending.tend.Given as goal

abbrev pub invariant-loop-at : goal.invariant-loop-at
invariant-loop-at g l = record {
  carried : CarriedAll l.fn.paired.room.size (take l.at (planned l.plan (hand_of l.fn.notes)))
      l.fn.paired.room.journal l.paired.room.journal l.fn.notes.given l.notes.given;
  size : l.paired.room.size ≡ l.fn.paired.room.size;
  notes : l.notes ≡ (let it : Noted = record l.fn.notes { given = l.notes.given } in it);
  kept : l.fn.paired.failed ≡ false → l.paired.failed ≡ false;
}
