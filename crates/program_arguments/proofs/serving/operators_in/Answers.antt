use Rattle.std.proofs.Common.{rules}
use Rattle.program_arguments.proofs.serving.operators_in.Goals as goal

-- the three numbers are those that were read
pub returns-in-Some : goal.returns-in-Some
returns-in-Some c = (
  c.get_one.result,
  c.get_one-port.result,
  c.get_one-page.result,
  search rules,
  search rules,
  search rules,
  search rules,
)

pub returns-in_default : goal.returns-in_default
returns-in_default c = (
  c.get_one.result,
  c.get_one-port.result,
  c.get_one-page.result,
  search rules,
  search rules,
  search rules,
  search rules,
)

pub returns-in_default-2 : goal.returns-in_default-2
returns-in_default-2 c = (
  c.get_one.result,
  c.get_one-port.result,
  c.get_one-page.result,
  search rules,
  search rules,
  search rules,
  search rules,
)
