-- What is explained is what is told: the first is the assembler's, and each is there.
use Rattle.std.proofs.Common.{ap, sym, subst, ◌∙◌, List, All}
use Rattle.std.proofs.lemmas.Result.{err_from_is_err_and}
use Rattle.autocoder_statements.specs.SourceLine.{lines_of}
use Rattle.autocoder_symbols.specs.Reading.{lines_in}
use Rattle.autocoder_symbols.specs.declared.fault.AsmFault.{AsmFault}
use Rattle.autocoder_diagnostics.specs.ToldFaults.{first_in}
use Rattle.autocoder_diagnostics.specs.Explanation.{faults_of}
use Rattle.autocoder_1401.specs.AllFaults.{IsTold}
use Rattle.autocoder_1401.specs.Assembly.{assembly_of}
use Rattle.autocoder_1401.proofs.AllFaultsLemmas.{first_of_all, each_of_all}
use Rattle.autocoder_1401.proofs.ExplainingLemmas.{told_all}
use Rattle.autocoder_1401.proofs.LanguagesLemmas.{agrees_with_plain}
use Rattle.autocoder_1401.proofs.explaining.explained_faults.Goals as goal

pub returns-clause-faults : goal.returns-clause-faults
returns-clause-faults c =
    ap faults_of c.in_ok-add_outside_explained.ensures.ok
    ∙ told_all c.args.language c.args.size (lines_of c.args.source.now)

pub returns-clause-first : goal.returns-clause-first
returns-clause-first c =
    ap (λ explanations. first_in (faults_of explanations)) c.in_ok-add_outside_explained.ensures.ok
    ∙ ap first_in (told_all c.args.language c.args.size (lines_of c.args.source.now))
    ∙ first_of_all c.args.language c.args.size (lines_in c.args.language c.args.source.now)
    (assembly_of c.args.language c.args.size c.args.source.now)

pub returns-clause-each : goal.returns-clause-each
returns-clause-each c =
    subst (λ (told : List AsmFault). All (IsTold c.args.language c.args.size (lines_in c.args.language c.args.source.now)) told)
    (sym (ap faults_of c.in_ok-add_outside_explained.ensures.ok
    ∙ told_all c.args.language c.args.size (lines_of c.args.source.now)))
    (each_of_all c.args.language c.args.size (lines_in c.args.language c.args.source.now))

pub add_outside_explained-requires : goal.add_outside_explained-requires
add_outside_explained-requires c = c.in_ok-explanations.ensures.ok

pub returns-in_err-explanations-clause-plain : goal.returns-in_err-explanations-clause-plain
returns-in_err-explanations-clause-plain c = agrees_with_plain c.args.language c.args.size c.args.source.now

pub returns-in_err-explanations-clause-err : goal.returns-in_err-explanations-clause-err
returns-in_err-explanations-clause-err c =
    let p = err_from_is_err_and c.from_residual.result c.from_residual.ensures.1 in
    rw (p.1, p.2) c.in_err-explanations.ensures.err

pub returns-in_err-add_outside_explained-clause-plain : goal.returns-in_err-add_outside_explained-clause-plain
returns-in_err-add_outside_explained-clause-plain c = agrees_with_plain c.args.language c.args.size c.args.source.now

pub returns-in_err-add_outside_explained-clause-err : goal.returns-in_err-add_outside_explained-clause-err
returns-in_err-add_outside_explained-clause-err c =
    let p = err_from_is_err_and c.from_residual-in_err-add_outside_explained.result
    c.from_residual-in_err-add_outside_explained.ensures.1 in
    rw (p.1, p.2) c.in_err-add_outside_explained.ensures.err

pub returns-clause-ok : goal.returns-clause-ok
returns-clause-ok c = c.in_ok-add_outside_explained.ensures.ok

pub returns-clause-plain : goal.returns-clause-plain
returns-clause-plain c = agrees_with_plain c.args.language c.args.size c.args.source.now
