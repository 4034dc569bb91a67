-- While the latch is off, a run is that of the machine alone, up to the stop TAPE.
use Rattle.std.proofs.Common.{◌≡◌, false, sym, ◌∙◌}
use Rattle.cpu_1401.specs.Run.{Finished}
use Rattle.machine_tapes.specs.Tapes.{is_latched}
use Rattle.machine_tapes.proofs.RunLemmas.{stretch_is}
use Rattle.machine_tapes.proofs.taped_machine.TapedMachine.run_to_tape.Goals as goal

pub returns-clause-ended : goal.returns-clause-ended
returns-clause-ended c =
    let run : Finished = record { state = c.run.new.self; steps = c.run.result.steps; stop = c.run.result.stop } in
    let off : is_latched c.args.self.now.tapes ≡ false = sym c.is_latched.ensures ∙ c.if-is_latched.false in
    (stretch_is c.args.self.now.tapes c.args.left c.args.self.now.machine run off c.run.ensures.run).ended

pub returns-clause-tape : goal.returns-clause-tape
returns-clause-tape c =
    let run : Finished = record { state = c.run.new.self; steps = c.run.result.steps; stop = c.run.result.stop } in
    let off : is_latched c.args.self.now.tapes ≡ false = sym c.is_latched.ensures ∙ c.if-is_latched.false in
    (stretch_is c.args.self.now.tapes c.args.left c.args.self.now.machine run off c.run.ensures.run).tape

pub returns-clause-before : goal.returns-clause-before
returns-clause-before c =
    let run : Finished = record { state = c.run.new.self; steps = c.run.result.steps; stop = c.run.result.stop } in
    let off : is_latched c.args.self.now.tapes ≡ false = sym c.is_latched.ensures ∙ c.if-is_latched.false in
    (stretch_is c.args.self.now.tapes c.args.left c.args.self.now.machine run off c.run.ensures.run).before
