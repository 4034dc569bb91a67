-- The file and the features are those that were read.
use Rattle.program_arguments.proofs.reading.load_call.Goals as goal

pub returns : goal.returns
returns c = λ whole.
    let session = c.session_call.ensures whole in
    let features = c.features_in-features.ensures session.0 in
    let file = c.own-file.ensures features.0 in
    (file.0, (c.own-file.result, file.1, rw (← features.1) session.1))
