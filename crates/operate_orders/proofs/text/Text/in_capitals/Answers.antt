-- Capitals are held as their letters are.
use Rattle.operate_orders.proofs.TextLemmas.{raised}
use Rattle.operate_orders.proofs.text.Text.in_capitals.Goals as goal

pub invariant_of-held : goal.invariant_of-held
invariant_of-held c = rw c.make_ascii_uppercase.ensures.after (raised c.held.inside c.held.invariant)
