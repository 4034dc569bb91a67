-- The bytes were copied in front of zeros.
use Rattle.operate_orders.proofs.TextLemmas.{in_front}
use Rattle.operate_orders.proofs.text.Text.as_typed.Goals as goal

pub invariant_of-result : goal.invariant_of-result
invariant_of-result c =
    in_front c.front-text.result.now c.copy_from_slice.new.self c.copy_from_slice.ensures.after c.front-text.ensures.most
