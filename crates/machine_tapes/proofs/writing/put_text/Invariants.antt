-- The text so far is written.
use Rattle.std.proofs.Common.{◌≡◌, take, drop}
use Rattle.machine_tapes.specs.Reel.{after_write}
use Rattle.machine_tapes.specs.TapeText.{text_of}
use Rattle.machine_tapes.proofs.writing.put_text.Given as goal

abbrev pub invariant-loop-i : goal.invariant-loop-i
invariant-loop-i l = l.reel ≡ after_write l.fn.reel (text_of l.fn.mode l.fn.is_odd (take l.i (drop l.fn.at l.core)))
