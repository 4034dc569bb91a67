-- A run up to a test is a slice; a refusal records nothing.
use Rattle.operate_console.specs.Run.{at_run}
use Rattle.operate_console.proofs.RunLemmas.{slice_alone, slice_did}
use Rattle.operate_console.proofs.rounds.run_slice.Goals as goal

pub run_until-requires-clause-some : goal.run_until-requires-clause-some
run_until-requires-clause-some g c = c.requires.some

pub run_until-requires-clause-most : goal.run_until-requires-clause-most
run_until-requires-clause-most g c = c.requires.most

-- Its entry wasn't kept: the slice was carried out, and nothing after it.
pub returns-else-end-clause-err : goal.returns-else-end-clause-err
returns-else-end-clause-err g c =
    slice_alone c.args.most c.in-Ok.end.found (at_run c.args.sitting.now c.args.test.now)
    (at_run c.run_until.new.self c.run_until.new.test)
    (slice_did c.args.most c.in-Ok.end.found c.args.sitting.now c.run_until.new.self c.args.test.now
    c.run_until.new.test c.in-Ok.ensures.search c.in-Ok.ensures.recorded c.run_until.ensures.size
    c.run_until.ensures.notes)
