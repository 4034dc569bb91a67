-- What is told is all faults: the first is the assembler's, and each is there.
use Rattle.std.proofs.Common.{ap, sym, subst, ◌∙◌, List, All}
use Rattle.std.proofs.lemmas.Result.{err_from_is_err_and}
use Rattle.autocoder_symbols.specs.Reading.{lines_in}
use Rattle.autocoder_symbols.specs.declared.fault.AsmFault.{AsmFault}
use Rattle.autocoder_diagnostics.specs.ToldFaults.{first_in}
use Rattle.autocoder_1401.specs.AllFaults.{IsTold}
use Rattle.autocoder_1401.specs.Assembly.{assembly_of}
use Rattle.autocoder_1401.proofs.AllFaultsLemmas.{first_of_all, each_of_all}
use Rattle.autocoder_1401.proofs.LanguagesLemmas.{agrees_with_plain}
use Rattle.autocoder_1401.proofs.all_faults.faults.Goals as goal

pub returns-clause-first : goal.returns-clause-first
returns-clause-first c =
    ap first_in c.in_ok-add_outside.ensures.ok
    ∙ first_of_all c.args.language c.args.size (lines_in c.args.language c.args.source.now)
    (assembly_of c.args.language c.args.size c.args.source.now)

pub returns-clause-each : goal.returns-clause-each
returns-clause-each c =
    subst (λ (told : List AsmFault). All (IsTold c.args.language c.args.size (lines_in c.args.language c.args.source.now)) told)
    (sym c.in_ok-add_outside.ensures.ok) (each_of_all c.args.language c.args.size (lines_in c.args.language c.args.source.now))

pub add_outside-requires : goal.add_outside-requires
add_outside-requires c = c.in_ok-faults.ensures.ok

pub returns-in_err-faults-clause-plain : goal.returns-in_err-faults-clause-plain
returns-in_err-faults-clause-plain c = agrees_with_plain c.args.language c.args.size c.args.source.now

pub returns-in_err-faults-clause-err : goal.returns-in_err-faults-clause-err
returns-in_err-faults-clause-err c =
    let p = err_from_is_err_and c.from_residual.result c.from_residual.ensures.1 in
    rw (p.1, p.2) c.in_err-faults.ensures.err

pub returns-in_err-add_outside-clause-plain : goal.returns-in_err-add_outside-clause-plain
returns-in_err-add_outside-clause-plain c = agrees_with_plain c.args.language c.args.size c.args.source.now

pub returns-in_err-add_outside-clause-err : goal.returns-in_err-add_outside-clause-err
returns-in_err-add_outside-clause-err c =
    let p =
    err_from_is_err_and c.from_residual-in_err-add_outside.result c.from_residual-in_err-add_outside.ensures.1 in
    rw (p.1, p.2) c.in_err-add_outside.ensures.err

pub returns-clause-ok : goal.returns-clause-ok
returns-clause-ok c = c.in_ok-add_outside.ensures.ok

pub returns-clause-plain : goal.returns-clause-plain
returns-clause-plain c = agrees_with_plain c.args.language c.args.size c.args.source.now
