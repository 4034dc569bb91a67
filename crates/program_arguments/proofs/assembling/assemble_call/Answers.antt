-- It is called with what was read.
use Rattle.std.proofs.Common.{◌∙◌, refl, rules, sym}
use Rattle.program_arguments.proofs.PairLemmas.{not_true}
use Rattle.program_arguments.proofs.assembling.assemble_call.Goals as goal

pub returns : goal.returns
returns c = λ whole.
    let deck = c.name-2.ensures whole in
    let out = c.name.ensures deck.0 in
    let file = c.own.ensures out.0 in
    let features = c.features_in-features.ensures file.0 in
    let fine = c.check.ensures features.0 in (
      fine.0,
      (
        _,
        refl,
        record {
          file = file.1;
          language = search rules;
          source = search rules;
          made = search rules;
          size = search rules;
          product = search rules;
          out = out.1;
          deck = deck.1;
          all = search rules;
          features = features.1;
        },
        sym c.names_one_file.ensures ∙ not_true c.names_one_file.result fine.1,
      ),
    )
