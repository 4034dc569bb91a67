-- The deck isn't seen by the key that loads from tape.
use Rattle.program_run.proofs.StartLemmas.{tape_pressed}
use Rattle.program_run.proofs.deck_running.press_start.Goals as goal

pub returns-in-LoadTape : goal.returns-in-LoadTape
returns-in-LoadTape c =
    tape_pressed c.taped_step_law.ensures c.args.start c.in-LoadTape.unit c.args.deck.now c.args.taped.now
    c.load_from_tape.new.self c.load_from_tape.result c.in-LoadTape.is c.load_from_tape.ensures.stop
    c.load_from_tape.ensures.taped
