-- What is added is read back.
use Rattle.job_runner.proofs.PaperReadLemmas.{only_paper, paper_read_back}
use Rattle.job_runner.proofs.paper.put_paper.Goals as goal

pub returns-clause-again : goal.returns-clause-again
returns-clause-again c = paper_read_back c.args.place c.args.lines.now

pub returns-clause-only : goal.returns-clause-only
returns-clause-only c = only_paper c.args.place c.args.lines.now
