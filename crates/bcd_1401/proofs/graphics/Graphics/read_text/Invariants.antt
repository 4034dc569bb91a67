-- The bytes so far are exchanged, and those that are left will be.
use Rattle.std.proofs.Common.{◌≡◌, ◌++◌, map, take, drop}
use Rattle.bcd_1401.specs.Graphics.{ours_of}
use Rattle.bcd_1401.proofs.graphics.Graphics.read_text.Given as goal

abbrev pub invariant-loop-i : goal.invariant-loop-i
invariant-loop-i l =
    take l.i l.text ++ map (ours_of l.self) (drop l.i l.text) ≡ map (ours_of l.self) l.fn.text
