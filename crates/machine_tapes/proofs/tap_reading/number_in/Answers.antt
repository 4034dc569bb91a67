-- By how many bytes there are.
use Rattle.std.proofs.Common.{Some, sym, ap, ◌∙◌, arith}
use Rattle.machine_tapes.proofs.FrontLemmas.{number_none, number_some}
use Rattle.machine_tapes.proofs.tap_reading.number_in.Goals as goal

pub returns-in_default-clause-number : goal.returns-in_default-clause-number
returns-in_default-clause-number c = sym (number_none c.args.text.now (omega arith))

pub returns-in-len4-up-clause-number : goal.returns-in-len4-up-clause-number
returns-in-len4-up-clause-number c =
    ap Some c.from_le_bytes.ensures ∙ sym (number_some c.args.text.now (omega arith))
