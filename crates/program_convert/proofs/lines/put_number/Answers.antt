-- A page is written to make room, and the words and the number follow it.
use Rattle.std.proofs.Common.{◌++◌}
use Rattle.machine_notation.specs.Digits.{digits_in}
use Rattle.bytes_streams.proofs.SentLemmas.{part_before}
use Rattle.program_convert.proofs.lines.put_number.Goals as goal

pub returns-in-Err-clause-puts : goal.returns-in-Err-clause-puts
returns-in-Err-clause-puts g c = (
  part_before _ _ c.args.page.now.items (c.args.words.now ++ digits_in c.args.width c.args.number) c.in-Err.ensures.part,
  c.in-Err.ensures.failed,
)
