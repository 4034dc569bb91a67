-- The name and the options are those of the subcommand that was found.
use Rattle.std.proofs.Common.{rules}
use Rattle.clap.specs.Words.{found_of}
use Rattle.program_arguments.proofs.PairLemmas.{both_halves}
use Rattle.program_arguments.proofs.reading.call_of.Goals as goal

pub returns-then-faults : goal.returns-then-faults
returns-then-faults c = λ has. (
  c.in-Some.name.now,
  found_of c.in-Some.options.now,
  both_halves _ _ _ _ _ c.in-Some.ensures.name c.in-Some.ensures.rows,
  (c.subcommand_call-call.ensures (search rules)).1,
)
