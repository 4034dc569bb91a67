-- The places so far are suppressed, whatever was written before.
use Rattle.std.proofs.Common.{◌≡◌, length}
use Rattle.fields_1401.proofs.EditLemmas.{AreSuppressed}
use Rattle.fields_1401.proofs.editing.suppress_places.Given as goal

abbrev pub invariant-loop-i : goal.invariant-loop-i
invariant-loop-i l = record {
  size : length l.chars ≡ length l.fn.core;
  so_far : AreSuppressed l.fn.core l.chars l.fn.word.b l.fn.word.len l.i;
}
