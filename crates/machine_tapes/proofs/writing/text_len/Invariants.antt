-- The length of the text so far, no more than two characters for each cell.
use Rattle.std.proofs.Common.{◌≡◌, ◌*◌, ◌≤◌, length, take, drop}
use Rattle.machine_tapes.specs.TapeText.{text_of}
use Rattle.machine_tapes.proofs.writing.text_len.Given as goal

abbrev pub invariant-loop-i : goal.invariant-loop-i
invariant-loop-i l =
    (l.len ≡ length (text_of l.fn.mode l.fn.is_odd (take l.i (drop l.fn.at l.core)))) × (l.len ≤ 2 * l.i)
