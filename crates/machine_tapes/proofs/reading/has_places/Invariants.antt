-- The whole record can be read if what is left of it can be read from the next place on.
use Rattle.std.proofs.Common.{◌≡◌}
use Rattle.std.specs.Prelude.{is_some}
use Rattle.machine_tapes.specs.TapeText.{cells_read}
use Rattle.machine_tapes.specs.Transfer.{read_to}
use Rattle.machine_tapes.proofs.ReadLemmas.{left}
use Rattle.machine_tapes.proofs.reading.has_places.Given as goal

abbrev pub invariant-loop-i : goal.invariant-loop-i
invariant-loop-i l =
    is_some (read_to l.fn.mode l.core l.fn.at (cells_read l.fn.mode l.fn.is_odd l.tape))
    ≡ is_some (left l.fn.mode l.fn.is_odd l.is_marked l.core l.place l.tape l.i)
