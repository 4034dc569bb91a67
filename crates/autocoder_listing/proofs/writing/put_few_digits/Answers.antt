-- There is no room for 20 digits if there is none for those of the number.
use Rattle.std.proofs.Common.{length, vec_capacity}
use Rattle.machine_notation.proofs.RoomLemmas.{if_so}
use Rattle.autocoder_listing.proofs.DigitsLemmas.{few_lacking}
use Rattle.autocoder_listing.proofs.writing.put_few_digits.Goals as goal

pub returns-in_err-put_digits-clause-full : goal.returns-in_err-put_digits-clause-full
returns-in_err-put_digits-clause-full c =
    if_so c.from_residual.result
    (few_lacking (vec_capacity c.args.text.now) (length c.args.text.now.items) c.args.width c.args.number c.requires
    c.ranges.number.fits c.in_err-put_digits.ensures.full)
