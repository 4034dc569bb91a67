-- Each subcommand's call is what its own function says.
use Rattle.std.proofs.Common.{rules}
use Rattle.program_arguments.proofs.reading.file_call.Goals as goal

pub returns-in-assemble : goal.returns-in-assemble
returns-in-assemble c = λ whole.
    let call = c.assemble_call.ensures whole in
    (call.0, search (rules, call.1))

pub returns-in-load : goal.returns-in-load
returns-in-load c = λ whole.
    let call = c.load_call.ensures whole in
    (call.0, search (rules, call.1))

pub returns-in-reel : goal.returns-in-reel
returns-in-reel c = λ whole.
    let call = c.reel_call.ensures whole in
    (call.0, search (rules, call.1))

pub returns-in-run : goal.returns-in-run
returns-in-run c = λ whole.
    let call = c.run_call.ensures whole in
    (call.0, search (rules, call.1))

pub returns-in-journal : goal.returns-in-journal
returns-in-journal c = λ whole.
    let call = c.journal_call.ensures whole in
    (call.0, search (rules, call.1))

pub returns-in-resume : goal.returns-in-resume
returns-in-resume c = λ whole.
    let call = c.resume_call.ensures whole in
    (call.0, search (rules, call.1))
