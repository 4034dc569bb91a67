-- Without a line feed the text ends in its first line; with one it is there to be read.
use Rattle.std.proofs.Common.{◌≡◌, false, true, rules}
use Rattle.room_files.specs.Reading.{has_line}
use Rattle.room_files.specs.Reading.IsCut.{in_header}
use Rattle.room_files.proofs.ReadsLemmas.{no_header}
use Rattle.room_files.proofs.reading.split_first.Goals as goal

pub returns-then-not-has_line-clause-err : goal.returns-then-not-has_line-clause-err
returns-then-not-has_line-clause-err c =
    let none : has_line c.args.text.now ≡ false = first_of (cc, search rules) in in_header c.args.text.now none

pub returns-in-Err-clause-err : goal.returns-in-Err-clause-err
returns-in-Err-clause-err c =
    let some : has_line c.args.text.now ≡ true = first_of (cc, search rules) in
    no_header c.args.text.now c.in-Err.why some c.in-Err.ensures.err
