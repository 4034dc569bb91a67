-- The size and the features are those that were read.
use Rattle.std.proofs.Common.{rules}
use Rattle.program_arguments.proofs.reading.console_call.Goals as goal

pub returns : goal.returns
returns c = λ whole.
    let session = c.session_call.ensures whole in
    let features = c.features_in-features.ensures session.0 in
    (features.0, (c.size_in.result, search rules, rw (← features.1) session.1))
