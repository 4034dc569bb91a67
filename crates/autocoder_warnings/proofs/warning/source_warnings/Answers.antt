-- The warnings are those of the source, those of what the plain language takes are carried out, and features add none.
use Rattle.std.proofs.Common.{List, ◌∙◌, ap, sym, subst}
use Rattle.std.specs.Prelude.{All, Contains}
use Rattle.machine_tables.specs.Features.{no_features}
use Rattle.autocoder_statements.specs.declared.statement.Line.{Line}
use Rattle.autocoder_symbols.specs.Reading.{lines_in}
use Rattle.autocoder_warnings.specs.Warnings.{all_warnings, PlainIsCarriedOut}
use Rattle.autocoder_warnings.proofs.FewerLemmas.{features_warn_less}
use Rattle.autocoder_warnings.proofs.PlainWarningsLemmas.{plain_is_carried_out}
use Rattle.autocoder_warnings.proofs.warning.source_warnings.Goals as goal

pub returns-clause-ok : goal.returns-clause-ok
returns-clause-ok c =
    c.in_ok-warnings.ensures.ok
    ∙ ap (λ (lines : List Line). all_warnings c.args.features c.args.size c.args.source.now lines)
    (c.lend.ensures ∙ c.in_ok-lines.ensures.lines)

pub returns-clause-carried_out : goal.returns-clause-carried_out
returns-clause-carried_out c =
    subst (PlainIsCarriedOut c.args.source.now) (sym (returns-clause-ok c))
    (plain_is_carried_out c.args.features c.args.language c.args.size c.args.source.now)

pub returns-clause-fewer : goal.returns-clause-fewer
returns-clause-fewer c =
    let lines = lines_in c.args.language c.args.source.now in
    subst (All (Contains (all_warnings no_features c.args.size c.args.source.now lines))) (sym (returns-clause-ok c))
    (features_warn_less c.args.features c.args.size c.args.source.now lines)
