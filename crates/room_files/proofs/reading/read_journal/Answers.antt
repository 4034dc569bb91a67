-- What is left is an unfinished line.
use Rattle.std.proofs.Common.{ℕ, ◌<◌, arith, length, rules, subst, sym}
use Rattle.std.proofs.lemmas.Bool.Decides.{nat_tests}
use Rattle.room_files.specs.Reading.{IsCut}
use Rattle.room_files.specs.Reading.IsCut.{in_entry}
use Rattle.room_files.proofs.reading.read_journal.Goals as goal

pub returns-else-is_empty-clause-fault : goal.returns-else-is_empty-clause-fault
returns-else-is_empty-clause-fault c =
    let text = c.args.text.now in
    let room = c.in-Ok.found.0 in
    let rest = c.in-Ok.found.1.now in
    let left : 0 < length rest = first_of (omega arith, search rules, grind (arith, nat_tests)) in
    subst (λ (n : ℕ). IsCut text n) (sym c.line_due.ensures)
    (in_entry text room.size room.journal rest c.in-Ok.ensures.read left)
