-- What is shown is what was read.
use Rattle.std.proofs.Common.{rules, refl}
use Rattle.program_arguments.proofs.journals.journal_call.Goals as goal

pub returns : goal.returns
returns c = λ whole.
    let file = c.own.ensures whole in (
      file.0,
      (
        _,
        refl,
        record {
          file = file.1;
          seat = search rules;
          «from» = search rules;
          check = search rules;
        },
      ),
    )
