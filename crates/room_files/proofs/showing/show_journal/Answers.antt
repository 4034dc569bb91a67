-- What is shown of a text is shown of the one that was read.
use Rattle.std.proofs.Common.{refl}
use Rattle.room_files.proofs.ShowingLemmas.{refused_unwritten}
use Rattle.room_files.proofs.showing.show_journal.Goals as goal

pub returns-in-Err-clause-fault : goal.returns-in-Err-clause-fault
returns-in-Err-clause-fault g c =
    refused_unwritten c.args.text.now c.args.view (g.W.Sink.received c.args.writer.now)
    (g.W.Sink.received c.args.writer.now) c.in-Err.fault.line c.in-Err.fault.why refl c.in-Err.ensures.fault
    c.in-Err.ensures.memory

pub returns-in-Ok-clause-fault : goal.returns-in-Ok-clause-fault
returns-in-Ok-clause-fault g c = c.show_found.ensures.fault c.args.text.now c.in-Ok.ensures.read
