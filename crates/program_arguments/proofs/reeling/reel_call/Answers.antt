-- The task is of the names that were read.
use Rattle.std.proofs.Common.{rules, refl}
use Rattle.program_arguments.proofs.reeling.reel_call.Goals as goal

pub returns : goal.returns
returns c = λ whole.
    let deck = c.name-deck.ensures whole in
    let output = c.name-output.ensures deck.0 in
    let file = c.own-file.ensures output.0 in
    let fine = c.check.ensures file.0 in (
      fine.0,
      (
        _,
        refl,
        record {
          file = file.1;
          task = (
            c.get_flag-is_deck.result,
            c.name-output.result,
            c.name-deck.result,
            search rules,
            search rules,
            output.1,
            deck.1,
          );
          graphics = search rules;
          parity = search rules;
        },
      ),
    )
