-- The one operand is put after the other.
use Rattle.std.proofs.Common.{w64}
use Rattle.std.proofs.lemmas.Int.{to_z-of_z}
use Rattle.std.proofs.lemmas.Result.{on_ok_weaker}
use Rattle.autocoder_placing.specs.View.{places_of}
use Rattle.autocoder_placing.proofs.CellsLemmas.{operands_in_turn}
use Rattle.autocoder_placing.proofs.placing.Placing.put_operands.Goals as goal

pub returns-clause-ok : goal.returns-clause-ok
returns-clause-ok c =
    on_ok_weaker c.put_operand-2.result
    (operands_in_turn (places_of c.args.self.now) c.args.here _ c.args.operands c.args.out.now.items
    c.put_operand.new.out.items c.put_operand-2.new.out.items
    (to_z-of_z w64 c.args.here c.ranges.here) c.in_ok-put_operand.ensures.ok)
    c.put_operand-2.ensures.ok
