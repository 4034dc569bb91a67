-- The places so far, from the right, show what they are to show before anything is suppressed.
use Rattle.fields_1401.proofs.EditPassLemmas.{ArePut}
use Rattle.fields_1401.proofs.editing.put_by_places.Given as goal

abbrev pub invariant-loop-i : goal.invariant-loop-i
invariant-loop-i l =
    ArePut l.fn.core l.chars l.fn.word.a l.fn.word.taken l.fn.word.b l.fn.word.len l.i l.beyond l.significant
