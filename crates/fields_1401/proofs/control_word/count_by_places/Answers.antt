-- Each step counts one place more.
use Rattle.std.proofs.Common.{ap, sym, ◌∙◌, arith}
use Rattle.std.proofs.lemmas.List.{take_all}
use Rattle.std.proofs.lemmas.List.Sums.{count_by_more_yes, count_by_more_no}
use Rattle.std.specs.List.{count_by}
use Rattle.fields_1401.specs.Across.{chars_across}
use Rattle.fields_1401.specs.Edit.{is_replaceable}
use Rattle.fields_1401.proofs.AcrossLemmas.{length-across}
use Rattle.fields_1401.proofs.control_word.count_by_places.Goals as goal
use Rattle.fields_1401.proofs.control_word.count_by_places.Goals.{then-is_replaceable, else-is_replaceable}

pub loop-i-preserved : goal.loop-i-preserved
loop-i-preserved c =
    let word = chars_across c.args.core.now c.args.at c.args.n in
    let size = length-across c.args.core.now c.args.at c.args.n c.requires.at c.requires.n in
    let i = c.loop-i.i in
    let so_far = c.loop-i.invariant.counted in
    let here = sym (ap is_replaceable c.char_across.ensures) ∙ sym c.is_replaceable.ensures in
    elim c.if-is_replaceable.branch [
      | then-is_replaceable w ↦
          let more = count_by_more_yes is_replaceable word i 0 (omega arith) (here ∙ w.if-is_replaceable.true) in
          record { counted = omega arith; bound = omega arith }
      | else-is_replaceable w ↦
          let more = count_by_more_no is_replaceable word i 0 (omega arith) (here ∙ w.if-is_replaceable.false) in
          record { counted = omega arith; bound = omega arith }
    ]

pub returns-clause-value : goal.returns-clause-value
returns-clause-value c =
    let word = chars_across c.args.core.now c.args.at c.args.n in
    let size = length-across c.args.core.now c.args.at c.args.n c.requires.at c.requires.n in
    c.loop-i.invariant.counted ∙ ap (count_by is_replaceable) (take_all c.loop-i.i word (omega arith))
