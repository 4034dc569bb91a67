-- None of the cells so far ends the record.
use Rattle.machine_tapes.proofs.WriteLemmas.{NoneEnds}
use Rattle.machine_tapes.proofs.writing.record_len.Given as goal

abbrev pub invariant-loop-i : goal.invariant-loop-i
invariant-loop-i l = NoneEnds l.core l.fn.at l.i
