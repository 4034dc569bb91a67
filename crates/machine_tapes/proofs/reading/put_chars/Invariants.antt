-- What was put and what is left of the record make the whole, and it can be read.
use Rattle.std.proofs.Common.{◌≡◌, true, false}
use Rattle.std.specs.Prelude.{is_some, length}
use Rattle.machine_tapes.specs.TapeText.{cells_read}
use Rattle.machine_tapes.specs.Transfer.{read_to}
use Rattle.machine_tapes.proofs.ReadLemmas.{left}
use Rattle.machine_tapes.proofs.reading.put_chars.Given as goal

abbrev pub invariant-loop-i : goal.invariant-loop-i
invariant-loop-i l = record {
  whole : read_to l.fn.mode l.fn.machine.storage l.fn.at (cells_read l.fn.mode l.fn.is_odd l.tape)
      ≡ left l.fn.mode l.fn.is_odd false l.machine.storage l.place l.tape l.i;
  reads : is_some (left l.fn.mode l.fn.is_odd false l.machine.storage l.place l.tape l.i) ≡ true;
  rest : l.machine ≡ record l.fn.machine { storage = l.machine.storage };
  size : length l.machine.storage ≡ length l.fn.machine.storage;
}
