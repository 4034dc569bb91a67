-- A byte follows the line.
use Rattle.std.proofs.Common.{◌<◌, length, arith}
use Rattle.std.proofs.lemmas.Bool.Decides.{nat_tests}
use Rattle.machine_image.proofs.LineLemmas.{is_done-some}
use Rattle.machine_image.proofs.reading.last_entry.Goals as goal

pub returns-then-not-is_empty-clause-value : goal.returns-then-not-is_empty-clause-value
returns-then-not-is_empty-clause-value c =
    let some : 0 < length c.args.beyond.now = grind (arith, nat_tests, c.if-not-is_empty.ensures) in
    let left = is_done-some c.args.beyond.now some in
    rw (c.in-Some.is, left) (grind (arith, nat_tests))
