-- Each character is that of its place.
use Rattle.std.proofs.Common.{◌∙◌, arith}
use Rattle.fields_1401.proofs.AddressLemmas.{value_read}
use Rattle.fields_1401.proofs.MagnitudeLemmas.{char_read}
use Rattle.fields_1401.proofs.address_sums.value_down.Goals as goal

pub returns-clause-value : goal.returns-clause-value
returns-clause-value c =
    c.decode.ensures.value
    ∙ value_read c.args.core.now c.args.at c.index-chars-units.result c.index-chars-units-2.result
    c.index-chars-units-3.result c.requires.three
    (char_read c.args.core.now c.chars-chars.result.now _ c.index-chars-units.result _
    (omega (arith, c.from-units.ensures)) (omega (arith, c.from-units.ensures, c.requires.inside)) c.chars-chars.ensures
    c.index-chars-units.is)
    (char_read c.args.core.now c.chars-chars.result.now _ c.index-chars-units-2.result _
    (omega (arith, c.from-units.ensures)) (omega (arith, c.from-units.ensures, c.requires.inside)) c.chars-chars.ensures
    c.index-chars-units-2.is)
    (char_read c.args.core.now c.chars-chars.result.now _ c.index-chars-units-3.result _
    (omega (arith, c.from-units.ensures)) (omega (arith, c.from-units.ensures, c.requires.inside)) c.chars-chars.ensures
    c.index-chars-units-3.is)
