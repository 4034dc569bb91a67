-- The units so far have no reel.
use Rattle.std.proofs.Common.{◌≡◌, replicate}
use Rattle.machine_tapes.specs.Drive.{no_reel}
use Rattle.machine_tapes.proofs.tapes.units_without_reels.Given as goal

abbrev pub invariant-loop-i : goal.invariant-loop-i
invariant-loop-i l = l.units.items ≡ replicate l.i no_reel
