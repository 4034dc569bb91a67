-- What it is, its number, and the rest.
use Rattle.std.proofs.Common.{◌++◌, codes}
use Rattle.bytes_text.proofs.AddsLemmas.{adds}
use Rattle.machine_notation.specs.Digits.{digits_in}
use Rattle.operate_answers.specs.StopText.{there_too_text}
use Rattle.operate_answers.proofs.stop_text.put_there_too.Goals as goal

pub returns : goal.returns
unfolding there_too_text
returns c =
    adds c.args.text.now c.put_number.new.self c.put-2.new.self (codes "; break " ++ digits_in 1 c.args.number)
    (codes " is there too")
    (adds c.args.text.now c.put.new.self c.put_number.new.self (codes "; break ") (digits_in 1 c.args.number)
    c.put.ensures c.put_number.ensures)
    c.put-2.ensures
