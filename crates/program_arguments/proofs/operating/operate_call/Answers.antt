-- It is called with what was read.
use Rattle.std.proofs.Common.{refl, rules}
use Rattle.program_arguments.proofs.operating.operate_call.Goals as goal

pub returns : goal.returns
returns c = λ whole.
    let script = c.name-4.ensures whole in
    let resumed = c.name-3.ensures script.0 in
    let journal = c.new_journal_in.ensures resumed.0 in
    let cards = c.name-2.ensures journal.0 in
    let file = c.name.ensures cards.0 in
    let features = c.features_in-features.ensures file.0 in
    let switches = c.switches_in-switches.ensures features.0 in (
      switches.0,
      (
        _,
        refl,
        record {
          file = file.1;
          load = search rules;
          cards = cards.1;
          switches = switches.1;
          journal = journal.1;
          resumed = resumed.1;
          language = search rules;
          graphics = search rules;
          source = search rules;
          size = search rules;
          script = script.1;
          echo = search rules;
          limit = search rules;
          features = features.1;
        },
      ),
    )
