-- There are no more records than characters.
use Rattle.std.proofs.Common.{arith}
use Rattle.program_convert.proofs.CountLemmas.{few_records}
use Rattle.program_convert.proofs.counting.count_records.Goals as goal

pub loop-beyond-init : goal.loop-beyond-init
loop-beyond-init c = grind (arith, few_records)
