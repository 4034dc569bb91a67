-- Two parts are put as one.
use Rattle.std.specs.Prelude.{codes}
use Rattle.machine_notation.specs.Digits.{digits_in}
use Rattle.program_convert.proofs.PutsLemmas.{part_failed, puts_then}
use Rattle.program_convert.proofs.lines.put_mark.Goals as goal

pub returns-in-Err-clause-puts : goal.returns-in-Err-clause-puts
returns-in-Err-clause-puts g c =
    part_failed _ _ _ c.args.page.now.items (digits_in 6 c.args.number) (codes " TAPE MARK\n")
    c.in-Err.ensures.puts

pub returns-in-Ok-clause-puts : goal.returns-in-Ok-clause-puts
returns-in-Ok-clause-puts g c =
    puts_then _ _ _ _ c.args.page.now.items (digits_in 6 c.args.number) _ (codes " TAPE MARK\n") _ _
    c.in-Ok.ensures.puts c.put_text.ensures.puts
