-- What is placed, with what is left placed after it, is all of it; so are the values of labels.
use Rattle.std.proofs.Common.{◌≡◌, ◌++◌, drop, map}
use Rattle.autocoder_placing.specs.Literals.{key_of}
use Rattle.autocoder_placing.specs.Placement.{beyond_literals, units_from, with_area_labels}
use Rattle.autocoder_placing.specs.UsedLiterals.{pending_of}
use Rattle.autocoder_placing.proofs.placing.place_literals.Given as goal

abbrev pub invariant-loop-i : goal.invariant-loop-i
invariant-loop-i l = record {
  next : beyond_literals l.next (drop l.i (map key_of l.literals.spellings))
      ≡ beyond_literals l.from (pending_of l.initial.literals);
  spellings : l.literals.spellings ≡ l.initial.literals.spellings;
  values : with_area_labels l.values l.next (drop l.i (map key_of l.literals.spellings))
      ≡ with_area_labels l.initial.values l.from (pending_of l.initial.literals);
  addresses : l.literals.addresses ++ units_from l.next (drop l.i (map key_of l.literals.spellings))
      ≡ l.initial.literals.addresses ++ units_from l.from (pending_of l.initial.literals);
}
