-- The commands so far are those that are chosen of the entries so far.
use Rattle.std.proofs.Common.{◌≡◌, take}
use Rattle.room_alone.specs.Journal.{pairs_of}
use Rattle.room_files.specs.Choice.{chosen}
use Rattle.room_files.proofs.choosing.carry_chosen.Given as goal

abbrev pub invariant-loop-i : goal.invariant-loop-i
invariant-loop-i l =
    (pairs_of l.room.journal ≡ chosen l.until l.without (take l.i l.journal)) × (l.room.size ≡ l.fn.size)
