-- The places at a are there, so those at b decide.
use Rattle.job_steps.proofs.ProductReasonLemmas.{address_sum_refused}
use Rattle.job_steps.proofs.products.address_sum_reason.Goals as goal

pub returns-clause-stop : goal.returns-clause-stop
returns-clause-stop c =
    address_sum_refused c.args.core.now c.args.a c.args.b c.address_reason.result c.address_reason-2.result c.in_default.is
    c.address_reason.ensures.stop c.address_reason-2.ensures.stop
