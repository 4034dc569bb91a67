-- Both carried the command out.
use Rattle.operate_sitting.proofs.PairedLemmas.{scout_after}
use Rattle.operate_sitting.proofs.paired.Paired.carry.Goals as goal

pub invariant_of-self-2 : goal.invariant_of-self-2
invariant_of-self-2 g c =
    let room = c.self.inside.room.room in
    scout_after room.size c.carry.new.self.room.size room.journal c.carry.new.self.room.journal c.args.command
    c.in-Ok.carried.answer c.self.inside.scout c.carry_out.new.machine c.self.invariant c.carry_out.ensures.state
    c.in-Ok.ensures.recorded c.in-Ok.ensures.size
