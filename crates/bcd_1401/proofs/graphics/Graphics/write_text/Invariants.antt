-- The bytes so far are exchanged, and those that are left will be.
use Rattle.std.proofs.Common.{◌≡◌, ◌++◌, map, take, drop}
use Rattle.bcd_1401.specs.Graphics.{theirs_of}
use Rattle.bcd_1401.proofs.graphics.Graphics.write_text.Given as goal

abbrev pub invariant-loop-i : goal.invariant-loop-i
invariant-loop-i l =
    take l.i l.text ++ map (theirs_of l.self) (drop l.i l.text) ≡ map (theirs_of l.self) l.fn.text
