-- It is called with the journal and the operators that were read.
use Rattle.std.proofs.Common.{rules}
use Rattle.program_arguments.proofs.journals.resume_call.Goals as goal

pub returns-in-Some : goal.returns-in-Some
returns-in-Some c = λ whole.
    let seats = c.seats_call.ensures whole in
    let pages = c.check_pages.ensures seats.0 in
    let resuming = c.resuming_in.ensures pages.0 in
    let origin = c.origin_in-origin.ensures resuming.0 in
    (origin.0, (c.resuming_in.result, c.operators_in.result, resuming.1, search rules, rw c.in-Some.is (seats.1 origin.1)))

pub returns-in-None : goal.returns-in-None
returns-in-None c = λ whole.
    let session = c.session_call.ensures whole in
    let resuming = c.resuming_in.ensures session.0 in
    let origin = c.origin_in-origin.ensures resuming.0 in
    (origin.0, (c.resuming_in.result, c.operators_in.result, resuming.1, search rules, rw c.in-None.is session.1))
