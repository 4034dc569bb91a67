-- Two parts are put as one.
use Rattle.std.specs.Prelude.{codes}
use Rattle.program_convert.specs.ReelListing.{chars_text}
use Rattle.program_convert.proofs.PutsLemmas.{part_failed, puts_then}
use Rattle.program_convert.proofs.lines.put_body.Goals as goal

pub returns-in-Err-clause-puts : goal.returns-in-Err-clause-puts
returns-in-Err-clause-puts g c =
    part_failed _ _ _ c.args.page.now.items (chars_text c.args.parity 0 c.args.tape_record.now) (codes "\n") c.in-Err.ensures.puts

pub returns-in-Ok-clause-puts : goal.returns-in-Ok-clause-puts
returns-in-Ok-clause-puts g c =
    puts_then _ _ _ _ c.args.page.now.items (chars_text c.args.parity 0 c.args.tape_record.now) _ (codes "\n") _ _
    c.in-Ok.ensures.puts c.put_text.ensures.puts
