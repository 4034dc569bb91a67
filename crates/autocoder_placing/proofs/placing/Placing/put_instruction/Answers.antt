-- The operation, the addresses and the d-character are put one after the other.
use Rattle.std.proofs.Common.{w64}
use Rattle.std.proofs.lemmas.Int.{to_z-of_z}
use Rattle.std.proofs.lemmas.Result.{on_ok_weaker}
use Rattle.autocoder_placing.specs.View.{places_of}
use Rattle.autocoder_placing.proofs.CellsLemmas.{instruction_in_turn}
use Rattle.autocoder_placing.proofs.placing.Placing.put_instruction.Goals as goal

pub returns-clause-ok : goal.returns-clause-ok
returns-clause-ok c =
    on_ok_weaker c.put_d.result
    (instruction_in_turn (places_of c.args.self.now) c.args.here _ c.args.instruction c.args.operands
    c.args.out.now.items c.push.new.self.items c.put_operands.new.out.items c.put_d.new.out.items
    c.char_of.result (to_z-of_z w64 c.args.here c.ranges.here) c.char_of.ensures c.in_ok-push.ensures.items
    c.in_ok-put_operands.ensures.ok)
    c.put_d.ensures.ok
