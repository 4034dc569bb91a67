-- What its cells say.
use Rattle.std.proofs.Common.{◌≡◌, ◌∙◌, rules, sym, true}
use Rattle.std.proofs.lemmas.Bool.{and_parts}
use Rattle.core_1401.specs.Storage.{Storage, cell_at, is_in_core}
use Rattle.cpu_1401.proofs.machine.Machine.decode_fitted.Goals as goal

pub returns-in-Some-clause-some : goal.returns-in-Some-clause-some
returns-in-Some-clause-some c =
    let storage : Storage = c.args.self.now.storage in
    let at = c.args.self.now.i in
    let begun : c.begins.result ≡ true = search rules in
    record {
      mark = (and_parts (is_in_core storage at) (cell_at storage at).mark (sym c.begins.ensures ∙ begun)).1;
      near = search rules;
      len = search rules;
      inside = search rules;
      fitted = search rules;
      d = search rules;
      a = search rules;
      b = search rules;
      only = search rules;
    }
