-- By the laws of whole texts.
use Rattle.machine_image.proofs.RefusalLemmas.{is_found, is_again, has_versions, is_refused}
use Rattle.machine_image.proofs.reading.lend_image.Goals as goal

pub returns-clause-found : goal.returns-clause-found
returns-clause-found c = is_found c.args.text.now c.image.result c.image.ensures.whole

pub returns-clause-again : goal.returns-clause-again
returns-clause-again c = λ image of. is_again c.args.text.now c.image.result image c.image.ensures.whole of

pub returns-clause-versions : goal.returns-clause-versions
returns-clause-versions c = has_versions c.args.text.now c.image.result c.image.ensures.whole

pub returns-clause-fault : goal.returns-clause-fault
returns-clause-fault c = is_refused c.args.text.now c.image.result c.image.ensures.whole
