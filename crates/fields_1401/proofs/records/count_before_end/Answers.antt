-- What has been passed has no mark, and so no end.
use Rattle.std.proofs.Common.{subst}
use Rattle.fields_1401.specs.Records.{AreNoMarks}
use Rattle.fields_1401.proofs.RecordLemmas.{none_ends}
use Rattle.fields_1401.proofs.records.count_before_end.Goals as goal

pub loop-i-init : goal.loop-i-init
loop-i-init c =
    none_ends c.args.core.now c.chars.result.now c.args.at c.count_by_sixteens-i.result c.chars.ensures
    (subst (λ p. AreNoMarks c.chars.result.now p c.count_by_sixteens-i.result) c.from-from.ensures
    c.count_by_sixteens-i.ensures.none)
