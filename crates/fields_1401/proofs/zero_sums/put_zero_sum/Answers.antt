-- The digits and the sign that were written are read again.
use Rattle.std.proofs.Common.{ap, ◌∙◌, arith}
use Rattle.fields_1401.specs.Number.{places_down, magnitude_of, with_number, over_units}
use Rattle.fields_1401.proofs.ArithmeticLemmas.{zero_sum_read}
use Rattle.fields_1401.specs.Places.{marks_of}
use Rattle.fields_1401.proofs.NumberLemmas.{taken_by}
use Rattle.fields_1401.proofs.PlacesLemmas.{marks_of-with_chars}
use Rattle.fields_1401.proofs.zero_sums.put_zero_sum.Goals as goal

pub returns-clause-number : goal.returns-clause-number
returns-clause-number c =
    let old = c.args.core.now in
    let o = c.args.operands in
    let zone = c.zone.ensures.value in
    let written = c.put_digits.ensures.digits ∙ ap (λ z. with_number old o.b o.len (over_units z)
    (magnitude_of (places_down old o.a o.used))) zone in
    zero_sum_read old c.put_digits.new.core o.a o.used o.b o.len c.args.sign
    (taken_by old o c.requires.a c.requires.b) o.fewer (omega arith)
    c.requires.field written

pub returns-clause-marks : goal.returns-clause-marks
returns-clause-marks c =
    ap marks_of c.put_digits.ensures.digits
    ∙ marks_of-with_chars c.args.core.now c.args.operands.b c.args.operands.len _ c.requires.b
