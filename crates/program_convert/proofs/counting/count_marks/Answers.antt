-- There are no more records than characters.
use Rattle.std.proofs.Common.{arith}
use Rattle.program_convert.proofs.CountLemmas.{few_records}
use Rattle.program_convert.proofs.counting.count_marks.Goals as goal

pub loop-first-init : goal.loop-first-init
loop-first-init c = grind (arith, few_records)
